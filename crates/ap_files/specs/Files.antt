-- What a store of files means: which files it keeps, by their names, which one is unfinished, and how often its calls failed.
use Rattle.std.specs.Prelude.{◌≡◌, ℕ, ◌+◌, ◌-◌, ◌^◌, ◌≤◌, ◌<◌, ◌⊎◌, min, List, [], ◌++◌, length, take, drop, OnOk, OnErr, IfOk, IsErr, if◌then◌else◌, unwrap_or}
use Rattle.std.specs.Option.{option_map, ForSome, option_and_then}
use Rattle.std.specs.declared.option.Option.{Option}
use Rattle.std.specs.declared.option.Option.TheVariants.{Some, None}
use Rattle.std.specs.declared.result.Result.{Result}
use Rattle.std.specs.Cmp.Lexicographic.{slice_cmp}
use Rattle.std.specs.Ordering.{nat_cmp}
use Rattle.std.specs.Str.{bytes_eq}
use Rattle.std.specs.FinMap as map
use Rattle.ap_files.specs.declared.failure.Failed.{Failed}

-- from the bytes of a name to the bytes of a file
abbrev pub FileMap : Type 0
FileMap = map.FinMap (slice_cmp nat_cmp) (List ℕ)

pub record FileState : Type 0 where
  -- the files, where they are told
  pub kept : Option FileMap
  -- the file that was started and is not finished; it is told where the files are
  pub unfinished : Option (List ℕ)
  -- how many calls failed at reading, at writing, and by a missing file
  pub read_faults : ℕ
  pub write_faults : ℕ
  pub absences : ℕ

-- a count rose by one, or stands at its last value, the greatest number of 64 bits
abbrev pub Rose : ℕ → ℕ → Type 0
Rose before now = now ≡ min (before + 1) (2 ^ 64 - 1)

pub record KeepsFiles (old new : FileState) : Type 0 where
  pub kept : new.kept ≡ old.kept
  pub unfinished : new.unfinished ≡ old.unfinished

pub record KeepsCounts (old new : FileState) : Type 0 where
  pub read_faults : new.read_faults ≡ old.read_faults
  pub write_faults : new.write_faults ≡ old.write_faults
  pub absences : new.absences ≡ old.absences

-- where files are told and this one is there, its bytes have this property
abbrev pub ForFile : Option FileMap → List ℕ → (List ℕ → Type 0) → Type 0
ForFile kept name P = (m : FileMap) (bytes : List ℕ) → kept ≡ Some m → map.get m name ≡ Some bytes → P bytes

-- files are told, and there is none of this name
abbrev pub IsAbsent : Option FileMap → List ℕ → Type 0
IsAbsent kept name = (m : FileMap) × (kept ≡ Some m) × (map.get m name ≡ None)

-- where files are told, there is one of this name
abbrev pub IsPresent : Option FileMap → List ℕ → Type 0
IsPresent kept name = (m : FileMap) → kept ≡ Some m → (bytes : List ℕ) × (map.get m name ≡ Some bytes)

-- where files are told, there is one of this name, and it is the unfinished one
pub record IsUnfinished (files : FileState) (name : List ℕ) : Type 0 where
  pub present : IsPresent files.kept name
  pub unfinished : (m : FileMap) → files.kept ≡ Some m → files.unfinished ≡ Some name

-- where files are told, there is one of this name, and it has n bytes from a place on
abbrev pub HasRange : Option FileMap → List ℕ → ℕ → ℕ → Type 0
HasRange kept name at n = (m : FileMap) → kept ≡ Some m → (bytes : List ℕ) × (map.get m name ≡ Some bytes) × (at + n ≤ length bytes)

-- the files with this one made, or with other bytes
abbrev pub with_file : Option FileMap → List ℕ → List ℕ → Option FileMap
with_file kept name bytes = option_map (λ m. map.insert m name bytes) kept

-- the bytes of a file, and none where it is missing
abbrev pub bytes_in : FileMap → List ℕ → List ℕ
bytes_in m name = unwrap_or (map.get m name) []

-- the bytes of a file, and none where files aren't told or it is missing
abbrev pub told_bytes : Option FileMap → List ℕ → List ℕ
told_bytes None name = []
told_bytes (Some m) name = bytes_in m name

-- the files with bytes appended to this one
abbrev pub with_added : Option FileMap → List ℕ → List ℕ → Option FileMap
with_added kept name bytes = option_map (λ m. map.insert m name (bytes_in m name ++ bytes)) kept

-- what is unfinished once a file is finished
abbrev pub after_finish : Option (List ℕ) → List ℕ → Option (List ℕ)
after_finish unfinished name = option_and_then (λ n. if bytes_eq n name then None else Some n) unfinished

-- a file's size is asked for
pub record Measures (old new : FileState) (name : List ℕ) (result : Result ℕ Failed) : Type 0 where
  pub files : KeepsFiles old new
  pub length : IfOk result (λ n. ForFile old.kept name (λ bytes. n ≡ length bytes))
  pub ok : OnOk result (KeepsCounts old new)
  pub failed : OnErr result (Rose old.read_faults new.read_faults ⊎ Rose old.absences new.absences)
  -- a missing file is an absence alone, and any other failure a failed read
  pub absent : IsAbsent old.kept name → IsErr result × Rose old.absences new.absences × (new.read_faults ≡ old.read_faults)
  pub present : ForFile old.kept name (λ bytes. (new.absences ≡ old.absences) × OnErr result (Rose old.read_faults new.read_faults))
  pub read_faults : old.read_faults ≤ new.read_faults
  pub write_faults : new.write_faults ≡ old.write_faults
  pub absences : old.absences ≤ new.absences

-- a part of a file is read into a buffer, which holds other bytes before and after
pub record ReadsAt (old new : FileState) (name : List ℕ) (at : ℕ) (before after : List ℕ) (result : Result (Unit {0}) Failed) : Type 0 where
  pub files : KeepsFiles old new
  pub bytes : OnOk result (ForFile old.kept name (λ bytes. after ≡ take (length before) (drop at bytes)))
  pub ok : OnOk result (KeepsCounts old new)
  pub failed : OnErr result (Rose old.read_faults new.read_faults)
  pub read_faults : old.read_faults ≤ new.read_faults
  pub write_faults : new.write_faults ≡ old.write_faults
  pub absences : new.absences ≡ old.absences

-- what holds of each call that writes: it changes the count of failed writes alone, and only where it fails; then no file changes
pub record WriteCause {T : Type 0} (old new : FileState) (result : Result T Failed) : Type 0 where
  pub files : OnErr result (KeepsFiles old new)
  pub ok : OnOk result (KeepsCounts old new)
  pub failed : OnErr result (Rose old.write_faults new.write_faults)
  pub read_faults : new.read_faults ≡ old.read_faults
  pub write_faults : old.write_faults ≤ new.write_faults
  pub absences : new.absences ≡ old.absences

-- a file is made, or emptied
pub record Starts (old new : FileState) (name : List ℕ) (result : Result (Unit {0}) Failed) : Type 0 where
  pub cause : WriteCause old new result
  pub kept : OnOk result (new.kept ≡ with_file old.kept name [])
  pub unfinished : OnOk result (ForSome old.kept (λ _. new.unfinished ≡ Some name))

-- the first bytes of a piece are appended to a file, at least one where there is one
pub record Adds (old new : FileState) (name piece : List ℕ) (result : Result ℕ Failed) : Type 0 where
  pub cause : WriteCause old new result
  pub count : IfOk result (λ n. (n ≤ length piece) × (0 < length piece → 0 < n))
  pub kept : IfOk result (λ n. new.kept ≡ with_added old.kept name (take n piece))
  pub unfinished : OnOk result (ForSome old.kept (λ _. new.unfinished ≡ Some name))

-- the writing of a file ends
pub record Finishes (old new : FileState) (name : List ℕ) (result : Result (Unit {0}) Failed) : Type 0 where
  pub cause : WriteCause old new result
  pub kept : new.kept ≡ old.kept
  pub unfinished : OnOk result (ForSome old.kept (λ _. new.unfinished ≡ after_finish old.unfinished name))
