-- Where the PE reading looks: two files of equal length that agree there are read alike, but for the bytes that sections and
-- headers show.
use Rattle.std.specs.Prelude.{◌≡◌, ◌⊎◌, ℕ, ◌+◌, ◌*◌, ◌<◌, ◌≤◌, List, length}
use Rattle.ap_fields.specs.Readings.{bytes_in}
use Rattle.ap_pe.specs.declared.constants.TheConstants.{DOS_SIZE, SECTION_SIZE}
use Rattle.ap_pe.specs.Format.{headers_of, table_place}
use Rattle.ap_pe.specs.PeReading.{pe_reading_by}

-- the file's start, and from the signature to the end of the section headers
abbrev pub Looks : List ℕ → ℕ → Type 0
Looks b k = (k < DOS_SIZE) ⊎ (((headers_of b).at ≤ k) × (k < table_place (headers_of b) + SECTION_SIZE * (headers_of b).count))

-- the law: the same refusal, or the same image over any bytes
abbrev pub PeReadsAlike : Type 0
PeReadsAlike = (byte : ℕ → ℕ) (f g : List ℕ) → length f ≡ length g → ((k : ℕ) → Looks f k → bytes_in f k ≡ bytes_in g k) → pe_reading_by byte f ≡ pe_reading_by byte g
