-- What a call that reads files leaves and tells.
use Rattle.std.specs.Prelude.{◌≡◌, ℕ, ◌⊎◌, List, length, Vec, Result, Ok, Err, Option, Some, None}
use Rattle.std.specs.declared.alloc.Global.{Global}
use Rattle.std.specs.FinMap as map
use Rattle.ap_files.specs.Files.{FileMap, FileState, Rose, KeepsFiles, ForFile}
use Rattle.ap_files.specs.declared.failure.Failed.{Failed}
use Rattle.ap_files.specs.declared.whole.ReadAllFault.{ReadAllFault}
use Rattle.ap_files.specs.declared.whole.ReadAllFault.TheVariants as all

-- where files are told, this one is there, and its bytes have this property
abbrev pub HasFile : Option FileMap → List ℕ → (List ℕ → Type 0) → Type 0
HasFile kept name P = (m : FileMap) → kept ≡ Some m → (bytes : List ℕ) × (map.get m name ≡ Some bytes) × P bytes

-- where files are told, this one is there and has so many bytes
abbrev pub HasSize : Option FileMap → List ℕ → ℕ → Type 0
HasSize kept name size = HasFile kept name (λ bytes. size ≡ length bytes)

-- where files are told, there is none of this name
abbrev pub IsMissing : Option FileMap → List ℕ → Type 0
IsMissing kept name = (m : FileMap) → kept ≡ Some m → map.get m name ≡ None

-- a read failed: its count rose, and nothing else changed
pub record ReadFails (old new : FileState) : Type 0 where
  pub files : KeepsFiles old new
  pub rose : Rose old.read_faults new.read_faults
  pub write_faults : new.write_faults ≡ old.write_faults
  pub absences : new.absences ≡ old.absences

-- a read failed, or the file is missing; no file changed
pub record Unread (old new : FileState) (name : List ℕ) : Type 0 where
  pub files : KeepsFiles old new
  pub write_faults : new.write_faults ≡ old.write_faults
  pub cause : Rose old.read_faults new.read_faults ⊎ (Rose old.absences new.absences × IsMissing old.kept name)

-- a value that is the file's, where it is told, and the state is as before; or a read failed
abbrev pub Reads : {T : Type 0} → FileState → FileState → List ℕ → (List ℕ → T → Type 0) → Result T Failed → Type 0
Reads old new name P (Ok value) = (new ≡ old) × ForFile old.kept name (λ bytes. P bytes value)
Reads old new name P (Err failed) = ReadFails old new

-- all bytes of a file, and the state is as before; or a read failed, or no memory was left
abbrev pub ReadsAll : FileState → FileState → List ℕ → Result (Vec ℕ Global) ReadAllFault → Type 0
ReadsAll old new name (Ok bytes) = (new ≡ old) × HasFile old.kept name (λ b. bytes.items ≡ b)
ReadsAll old new name (Err all.Read) = ReadFails old new
ReadsAll old new name (Err all.NoMemory) = new ≡ old
