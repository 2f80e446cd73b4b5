-- One image: what is found at each address of an input is the input's, and nothing else is found but zeros beside it, and what
-- a reading may show besides.
use Rattle.std.specs.Prelude.{◌≡◌, ◌⊎◌, ℕ, ◌+◌, ◌≤◌, ◌<◌, List, [], ◌∷◌, Result, Ok, Err, Option, Some, None}
use Rattle.ap_fields.specs.Granules.{floor_of, ceil_of}
use Rattle.ap_elf.specs.declared.types.Entry.{Entry}
use Rattle.ap_fields.specs.Readings.{Cell, MemoryImage}
use Rattle.ap_elf.specs.InputCell.{input_cell, permissions_of}

-- an address in the granules of a load
abbrev pub IsNear : ℕ → Entry → ℕ → Type 0
IsNear g p a = (floor_of p.vaddr g ≤ a) × (a < ceil_of (p.vaddr + p.memsz) g)

-- a zero with the permissions of a load in whose granules the address is
abbrev pub IsBeside : ℕ → List Entry → ℕ → Option Cell → Type 0
IsBeside g [] a found = ⊥
IsBeside g (p ∷ loads) a found = (IsNear g p a × (found ≡ Some (0, permissions_of p))) ⊎ IsBeside g loads a found

-- nothing may be shown besides
abbrev pub nothing_else : ℕ → Option Cell → Type 0
nothing_else a found = ⊥

-- an image has the cells of an input, by its granule, its bytes and its loads, and starts at an address; `Else` says what may
-- be found elsewhere
pub record HasImage (g : ℕ) (byte : ℕ → ℕ) (loads : List Entry) (start : ℕ) (Else : ℕ → Option Cell → Type 0) (image : MemoryImage) : Type 0 where
  pub entry : image.entry ≡ start
  pub cells : (a : ℕ) (c : Cell) → input_cell byte loads a ≡ Some c → image.cell a ≡ Some c
  pub others : (a : ℕ) → input_cell byte loads a ≡ None → (image.cell a ≡ None) ⊎ (IsBeside g loads a (image.cell a) ⊎ Else a (image.cell a))

-- a reading isn't a fault, and has the image of an input
abbrev pub Same : {Fault : Type 0} → ℕ → (ℕ → ℕ) → List Entry → ℕ → (ℕ → Option Cell → Type 0) → Result MemoryImage Fault → Type 0
Same g byte loads start Else (Ok image) = HasImage g byte loads start Else image
Same g byte loads start Else (Err fault) = ⊥
