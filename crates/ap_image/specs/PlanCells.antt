-- The bytes that a plan shows at addresses.
use Rattle.std.specs.Prelude.{◌≡◌, ℕ, ◌<◌, ◌==◌, Bool, true, false, List, [], ◌∷◌, length, Option, Some, None}
use Rattle.std.specs.Coded.{×_prop, Unit-prop, le_prop}
use Rattle.std.specs.Option.{option_map}
use Rattle.std.specs.FinMap as map
use Rattle.ap_fields.specs.Readings.{Cell, bytes_in}
use Rattle.ap_files.specs.Files.{FileMap, FileState, told_bytes}
use Rattle.ap_image.specs.declared.plan.Region.{Region}
use Rattle.ap_image.specs.declared.cells.Shown.{Shown}
use Rattle.ap_image.specs.declared.cells.Shown.TheVariants.{File, Zero}
use Rattle.ap_image.specs.Plans.{cell_in, AreBacked}
use Rattle.ap_image.specs.Cells.{Memory, CellsState}

-- the byte of a cell
abbrev pub byte_of : Cell → ℕ
byte_of cell = cell.0

-- the bytes that regions show of a file
abbrev pub shown_by : (ℕ → ℕ) → List Region → Memory
shown_by byte regions = λ a. option_map byte_of (cell_in byte regions a)

-- Over bytes in memory they are told, and none fails to be read.
abbrev pub plan_state : List ℕ → List Region → CellsState
plan_state file regions = record { told = Some (shown_by (bytes_in file) regions); faults = 0; others = None }

-- Over a file by its name they are told where files are.
abbrev pub file_state : FileState → List ℕ → List Region → ℕ → CellsState
file_state files name regions borrowed = record {
  told = option_map (λ m. shown_by (bytes_in (told_bytes (Some m) name)) regions) files.kept;
  faults = files.read_faults;
  others = Some (record { kept = files.kept; unfinished = files.unfinished; write_faults = files.write_faults; absences = files.absences; borrowed = borrowed });
}

-- what is at an address: a byte of the file, or 0
abbrev pub byte_by : (ℕ → ℕ) → Shown → ℕ
byte_by byte (File at) = byte at
byte_by byte Zero = 0

abbrev pub LiesIn : ℕ → Shown → Type 0
LiesIn size (File at) = at < size
LiesIn size Zero = Unit {0}

abbrev pub has_size : Option (List ℕ) → ℕ → Bool
has_size None size = false
has_size (Some bytes) size = size == length bytes

-- where files are told, this one is there and has so many bytes
abbrev pub IsSized : Option FileMap → List ℕ → ℕ → Type 0
IsSized kept name size = (m : FileMap) → kept ≡ Some m → has_size (map.get m name) size ≡ true

pub AreBacked-prop : (regions : List Region) (len : ℕ) → IsProp (AreBacked regions len)
AreBacked-prop [] len = Unit-prop
AreBacked-prop (r ∷ regions) len = ×_prop le_prop (AreBacked-prop regions len)
