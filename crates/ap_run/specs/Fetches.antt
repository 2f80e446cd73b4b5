-- Files that are read whole, and their lengths.
use Rattle.std.specs.Prelude.{◌≡◌, ℕ, ◌^◌, ◌<◌, ◌≤◌, List, length, Vec, Result, Ok, Err}
use Rattle.std.specs.declared.alloc.Global.{Global}
use Rattle.ap_files.specs.Files.{FileState}
use Rattle.ap_files.specs.Reads as reads
use Rattle.ap_files.specs.Reads.{HasFile, HasSize}
use Rattle.ap_run.specs.declared.end.ReadingFault.TheVariants as fault
use Rattle.ap_run.specs.declared.end.Cause.{Cause}
use Rattle.ap_run.specs.declared.end.Cause.TheVariants.{Unread, ReadFault, NoMemory}

-- a file's length, which is 2^30 at most, or why the file isn't read
abbrev pub Measured : FileState → FileState → List ℕ → Result ℕ Cause → Type 0
Measured old new name (Ok size) = (new ≡ old) × (size ≤ 2 ^ 30) × HasSize old.kept name size
Measured old new name (Err (Unread (fault.Large size))) = (new ≡ old) × (2 ^ 30 < size) × HasSize old.kept name size
Measured old new name (Err ReadFault) = reads.Unread old new name
Measured old new name (Err _) = ⊥

-- the bytes of a file, of which there may be 2^30, or why they aren't read
abbrev pub Fetches : FileState → FileState → List ℕ → Result (Vec ℕ Global) Cause → Type 0
Fetches old new name (Ok bytes) = (new ≡ old) × (length bytes.items ≤ 2 ^ 30) × HasFile old.kept name (λ b. bytes.items ≡ b)
Fetches old new name (Err (Unread f)) = (new ≡ old) × HasFile old.kept name (λ b. (2 ^ 30 < length b) × (f ≡ fault.Large (length b)))
Fetches old new name (Err ReadFault) = reads.Unread old new name
Fetches old new name (Err NoMemory) = new ≡ old
Fetches old new name (Err _) = ⊥
