-- What a sink means: which bytes were written, one after another, and how often a write failed.
use Rattle.std.specs.Prelude.{◌≡◌, ℕ, ◌≤◌, ◌<◌, List, ◌++◌, length, take, OnOk, OnErr, IfOk}
use Rattle.std.specs.Option.{option_map}
use Rattle.std.specs.declared.option.Option.{Option}
use Rattle.std.specs.declared.result.Result.{Result}
use Rattle.ap_files.specs.Files.{Rose}
use Rattle.ap_files.specs.declared.failure.Failed.{Failed}

pub record SinkState : Type 0 where
  -- the bytes written so far, where they are told
  pub written : Option (List ℕ)
  -- how many writes failed
  pub faults : ℕ

-- the first bytes of a piece are written, at least one where there is one; a failed write writes nothing
pub record Writes (old new : SinkState) (piece : List ℕ) (result : Result ℕ Failed) : Type 0 where
  pub count : IfOk result (λ n. (n ≤ length piece) × (0 < length piece → 0 < n) × (new.written ≡ option_map (λ w. w ++ take n piece) old.written))
  pub ok : OnOk result (new.faults ≡ old.faults)
  pub failed : OnErr result ((new.written ≡ old.written) × Rose old.faults new.faults)
  pub faults : old.faults ≤ new.faults
