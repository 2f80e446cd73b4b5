-- How bytes are appended to a file, and a file is made of them: all of them, or the first of them where a call failed.
use Rattle.std.specs.Prelude.{◌≡◌, ◌⊎◌, ℕ, List, take, Result, Ok, Err, Option, Some, None}
use Rattle.ap_files.specs.Files.{FileMap, FileState, Rose, KeepsFiles, KeepsCounts, with_file, with_added}
use Rattle.ap_files.specs.declared.failure.Failed.{Failed}
use Rattle.ap_files.specs.declared.failure.FileFault.{FileFault}
use Rattle.ap_files.specs.declared.failure.FileFault.TheVariants.{Read, Write}

-- how many calls of a side failed
abbrev pub faults_by : FileFault → FileState → ℕ
faults_by Read s = s.read_faults
faults_by Write s = s.write_faults

abbrev pub other_side : FileFault → FileFault
other_side Read = Write
other_side Write = Read

-- a call of this side failed, and no other
pub record Fails (fault : FileFault) (old new : FileState) : Type 0 where
  pub rose : Rose (faults_by fault old) (faults_by fault new)
  pub others : faults_by (other_side fault) new ≡ faults_by (other_side fault) old
  pub absences : new.absences ≡ old.absences

-- which side failed, where one did, of a call that reads and writes, and of one that writes
abbrev pub failure_of : Result (Unit {0}) FileFault → Option FileFault
failure_of (Ok done) = None
failure_of (Err fault) = Some fault

abbrev pub write_failure : Result (Unit {0}) Failed → Option FileFault
write_failure (Ok done) = None
write_failure (Err failed) = Some Write

-- bytes were appended to a file, which is the unfinished one
pub record Grows (old new : FileState) (name bytes : List ℕ) : Type 0 where
  pub kept : new.kept ≡ with_added old.kept name bytes
  pub unfinished : (m : FileMap) → old.kept ≡ Some m → new.unfinished ≡ Some name

-- a text is appended whole and no call failed; or its first bytes are, and a call failed
abbrev pub Appends : FileState → FileState → List ℕ → List ℕ → Option FileFault → Type 0
Appends old new name text None = Grows old new name text × KeepsCounts old new
Appends old new name text (Some fault) = ((n : ℕ) × Grows old new name (take n text)) × Fails fault old new

-- a file has these bytes, and is finished
pub record IsMade (old new : FileState) (name bytes : List ℕ) : Type 0 where
  pub kept : new.kept ≡ with_file old.kept name bytes
  pub counts : KeepsCounts old new
  pub unfinished : (m : FileMap) → old.kept ≡ Some m → new.unfinished ≡ None

-- a file has these bytes, and is the unfinished one
pub record IsBegun (old new : FileState) (name bytes : List ℕ) : Type 0 where
  pub kept : new.kept ≡ with_file old.kept name bytes
  pub unfinished : (m : FileMap) → old.kept ≡ Some m → new.unfinished ≡ Some name

-- a file was not started, or has a front of these bytes and is the unfinished one
abbrev pub HasPart : FileState → FileState → List ℕ → List ℕ → Type 0
HasPart old new name bytes = KeepsFiles old new ⊎ ((n : ℕ) × IsBegun old new name (take n bytes))

-- a file is made of a text, and no call failed; or it isn't, and a call failed
abbrev pub Makes : FileState → FileState → List ℕ → List ℕ → Option FileFault → Type 0
Makes old new name text None = IsMade old new name text
Makes old new name text (Some fault) = HasPart old new name text × Fails fault old new
