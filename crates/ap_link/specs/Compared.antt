-- The contents of loads, compared by the bytes of their inputs' files.
use Rattle.std.specs.Prelude.{◌≡◌, ℕ, ◌+◌, ◌^◌, ◌<◌, ◌==◌, ◌&&◌, not, Bool, List, All, length, map, take, drop, Result, Ok, Err, Option, Some}
use Rattle.arrayvec.specs.ArrayVec.{ArrayVec}
use Rattle.ap_fields.specs.Readings.{bytes_in}
use Rattle.ap_files.specs.Files.{FileMap, FileState, HasRange, told_bytes}
use Rattle.ap_files.specs.Reads.{ReadFails}
use Rattle.ap_files.specs.declared.failure.Failed.{Failed}
use Rattle.ap_check.specs.declared.load.Load.{Load}
use Rattle.ap_layout.specs.Areas.{content_of, content_length}
use Rattle.ap_layout.specs.Twins.{are_twins, mask_of}
use Rattle.ap_link.specs.declared.twins.Side.{Side}

-- the bytes of a file that is told
abbrev pub byte_told : Option FileMap → List ℕ → ℕ → ℕ
byte_told kept name = bytes_in (told_bytes kept name)

-- a load's bytes lie in a file that is there, where it is told
pub record IsInFile (kept : Option FileMap) (name : List ℕ) (p : Load) : Type 0 where
  pub range : HasRange kept name p.offset p.filesz
  pub small : p.offset + p.filesz < 2 ^ 62

-- and so do those of a load that has some
pub record IsBacked (kept : Option FileMap) (name : List ℕ) (p : Load) : Type 0 where
  pub there : 0 < p.filesz → IsInFile kept name p
  pub size : p.filesz < 2 ^ 62

abbrev pub AreInFile : Option FileMap → List ℕ → List Load → Type 0
AreInFile kept name loads = All (λ p. IsBacked kept name p) loads

-- a value that has a property where files are told, and the state is as before; or a read failed
abbrev pub Tells : {T : Type 0} → FileState → FileState → (T → Type 0) → Result T Failed → Type 0
Tells old new P (Ok value) = (new ≡ old) × ((m : FileMap) → old.kept ≡ Some m → P value)
Tells old new P (Err failed) = ReadFails old new

-- a buffer has a part of a load's content
abbrev pub ReadsContent : FileState → FileState → List ℕ → ℕ → Load → ℕ → List ℕ → List ℕ → Result (Unit {0}) Failed → Type 0
ReadsContent old new name g p at before after result =
    Tells old new (λ u. after ≡ take (length before) (drop at (content_of g (byte_told old.kept name) p))) result

-- whether two loads have bytes in their files, and contents of the same length
unfoldable pub may_match : ℕ → Load → ℕ → Load → Bool
may_match g p h q = not (p.filesz == 0) && (not (q.filesz == 0) && (content_length g p == content_length h q))

-- two loads are twins
abbrev pub Compares : FileState → FileState → List ℕ → ℕ → Load → List ℕ → ℕ → Load → Result Bool Failed → Type 0
Compares old new one g p two h q result = Tells old new (λ same. same ≡ are_twins g (byte_told old.kept one) p h (byte_told old.kept two) q) result

-- the mask of a load, and of all loads of a side
abbrev pub FindsMask : FileState → FileState → Side → List ℕ → ℕ → Load → Result ℕ Failed → Type 0
FindsMask old new one name h q result =
    Tells old new (λ mask. mask ≡ mask_of one.granule (byte_told old.kept one.name.now) one.loads.now h (byte_told old.kept name) q) result

abbrev pub FindsMasks : FileState → FileState → Side → Side → Result (ArrayVec ℕ) Failed → Type 0
FindsMasks old new one other result =
    Tells old new
    (λ masks. masks.items ≡ map (λ q. mask_of one.granule (byte_told old.kept one.name.now) one.loads.now other.granule (byte_told old.kept other.name.now) q) other.loads.now) result
