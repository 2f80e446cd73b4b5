-- The image file of a plan: a mark, the entry, a table of the runs, and the bytes of all runs in order.
use Rattle.std.specs.Prelude.{ℕ, List, ◌++◌, length, codes, flat_map, sum_by, Option, Some, None}
use Rattle.ap_fields.specs.Readings.{Cell}
use Rattle.ap_fields.specs.Fields.{bytes_of}
use Rattle.ap_fields.specs.Bytes.{listed}
use Rattle.ap_image.specs.declared.plan.Region.{Region}
use Rattle.ap_image.specs.declared.run.Run.{Run}
use Rattle.ap_image.specs.Plans.{Mapping, region_byte, cell_in}
use Rattle.ap_image.specs.Runs.{runs_of}

-- how many addresses regions have
abbrev pub total_of : List Region → ℕ
total_of regions = sum_by (λ r. r.span) regions

-- a line of the table, of 24 bytes: the start, the length, the permissions, and 0
unfoldable pub run_line : Run → List ℕ
run_line run = bytes_of 8 run.start ++ (bytes_of 8 run.length ++ (bytes_of 4 run.perms.0 ++ bytes_of 4 0))

-- the mark, the entry, and the number of runs
unfoldable pub image_head : ℕ → ℕ → List ℕ
image_head entry count = codes "APEIMAGE" ++ (bytes_of 8 entry ++ (bytes_of 4 count ++ bytes_of 4 0))

-- the byte of a cell
abbrev pub byte_of : Option Cell → ℕ
byte_of None = 0
byte_of (Some cell) = cell.0

-- the byte that regions show at an address that they have
abbrev pub shown_byte : (ℕ → ℕ) → List Region → ℕ → ℕ
shown_byte byte regions a = byte_of (cell_in byte regions a)

-- the bytes at the addresses of a run
abbrev pub run_bytes : (ℕ → ℕ) → List Region → Run → List ℕ
run_bytes byte regions run = listed (shown_byte byte regions) run.start run.length

-- what stands before the bytes
unfoldable pub front_of : Mapping → List ℕ
front_of m = image_head m.entry (length (runs_of m.regions)) ++ flat_map run_line (runs_of m.regions)

-- the image file
unfoldable pub image_file : (ℕ → ℕ) → Mapping → List ℕ
image_file byte m = front_of m ++ flat_map (run_bytes byte m.regions) (runs_of m.regions)

-- the bytes at the addresses of a region
abbrev pub region_bytes : (ℕ → ℕ) → Region → List ℕ
region_bytes byte r = listed (region_byte byte r) r.start r.span
