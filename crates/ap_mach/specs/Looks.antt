-- Where the Mach-O reading looks: two files of equal length that agree there are read alike, but for the bytes that segments
-- show.
use Rattle.std.specs.Prelude.{◌≡◌, ◌⊎◌, ℕ, ◌<◌, List, length}
use Rattle.ap_fields.specs.Readings.{bytes_in}
use Rattle.ap_mach.specs.declared.constants.TheConstants.{HEADER_SIZE}
use Rattle.ap_mach.specs.Format.{header_of, commands_end}
use Rattle.ap_mach.specs.MachReading.{mach_reading_by}

-- the header, and the commands behind it
abbrev pub Looks : List ℕ → ℕ → Type 0
Looks b k = (k < HEADER_SIZE) ⊎ (k < commands_end (header_of b))

-- the law: the same refusal, or the same image over any bytes
abbrev pub MachReadsAlike : Type 0
MachReadsAlike = (byte : ℕ → ℕ) (f g : List ℕ) → length f ≡ length g → ((k : ℕ) → Looks f k → bytes_in f k ≡ bytes_in g k) → mach_reading_by byte f ≡ mach_reading_by byte g
