-- What is shown of files, and how it is made of one that is read whole.
use Rattle.std.specs.Prelude.{◌≡◌, ℕ, ◌^◌, ◌<◌, ◌≤◌, List, length, Vec, Result, Ok, Err}
use Rattle.std.specs.declared.alloc.Global.{Global}
use Rattle.ap_run.specs.declared.end.ReadingFault.{ReadingFault}
use Rattle.ap_run.specs.declared.end.ReadingFault.TheVariants as fault
use Rattle.ap_run.specs.declared.end.Cause.{Cause}
use Rattle.ap_run.specs.declared.end.Cause.TheVariants.{Unread, NoMemory}

-- a relation between the bytes of a file and the text that shows it, or the refusal
abbrev pub Telling : Type 1
Telling = List ℕ → Result (List ℕ) ReadingFault → Type 0

-- how the text is made of a file's bytes
abbrev pub MakesOf : Telling → List ℕ → Result (Vec ℕ Global) Cause → Type 0
MakesOf P file (Ok text) = P file (Ok text.items)
MakesOf P file (Err (Unread f)) = P file (Err f)
MakesOf P file (Err NoMemory) = Unit {0}
MakesOf P file (Err _) = ⊥

-- a file longer than 2^30 bytes isn't read
pub record Sized (P : Telling) (file : List ℕ) (shown : Result (List ℕ) ReadingFault) : Type 0 where
  pub read : length file ≤ 2 ^ 30 → P file shown
  pub large : 2 ^ 30 < length file → shown ≡ Err (fault.Large (length file))
