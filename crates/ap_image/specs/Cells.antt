-- Bytes by their addresses, which may have to be read from files.
use Rattle.std.specs.Prelude.{◌≡◌, ℕ, List, Option, Some, Result, Ok, Err}
use Rattle.ap_files.specs.Files.{FileMap, Rose}
use Rattle.ap_files.specs.declared.failure.Failed.{Failed}

-- the byte at an address, or none
abbrev pub Memory : Type 0
Memory = ℕ → Option ℕ

-- what the files that are read mean, beside how often reading them failed
pub record Others : Type 0 where
  pub kept : Option FileMap
  pub unfinished : Option (List ℕ)
  pub write_faults : ℕ
  pub absences : ℕ
  -- the borrow by which they are reached
  pub borrowed : ℕ

pub record CellsState : Type 0 where
  -- the bytes, where they are told
  pub told : Option Memory
  -- how often reading one failed
  pub faults : ℕ
  -- the files that are read, if any
  pub others : Option Others

-- a byte could not be read: the count rose, and nothing else changed
pub record Unreadable (old new : CellsState) : Type 0 where
  pub told : new.told ≡ old.told
  pub faults : Rose old.faults new.faults
  pub others : new.others ≡ old.others

-- a value that the bytes have, where they are told, and the state is as before; or a byte could not be read
abbrev pub Tells : {T : Type 0} → CellsState → CellsState → (Memory → T → Type 0) → Result T Failed → Type 0
Tells old new P (Ok value) = (new ≡ old) × ((memory : Memory) → old.told ≡ Some memory → P memory value)
Tells old new P (Err failed) = Unreadable old new

-- the byte at an address
abbrev pub Shows : CellsState → CellsState → ℕ → Result (Option ℕ) Failed → Type 0
Shows old new a result = Tells old new (λ memory byte. memory a ≡ byte) result

-- the bytes of one memory stand in another
abbrev pub StandsIn : Memory → Memory → Type 0
StandsIn memory other = (a byte : ℕ) → memory a ≡ Some byte → other a ≡ Some byte
