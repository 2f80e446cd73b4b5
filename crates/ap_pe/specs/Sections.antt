-- The sections that the linker writes: one for each load, and one of zeros for each gap before a load, so that each section
-- begins where what is in front of it ends (PE/COFF, "Section Table").
use Rattle.std.specs.Prelude.{ℕ, ◌+◌, ◌-◌, ◌*◌, ◌/◌, ◌%◌, ◌^◌, ◌≤◌, ◌==◌, nat_lt, if◌then◌else◌, List, [], ◌∷◌, ◌++◌, bit_and}
use Rattle.ap_fields.specs.Granules.{floor_of, ceil_of}
use Rattle.ap_fields.specs.Structures.{Rows, structure}
use Rattle.ap_elf.specs.declared.constants.TheConstants.{PF_X, PF_W}
use Rattle.ap_check.specs.declared.load.Load.{Load}
use Rattle.ap_layout.specs.declared.layout.Area.{Area}
use Rattle.ap_pe.specs.declared.constants.TheConstants.{IMAGE_SCN_CNT_CODE, IMAGE_SCN_CNT_INITIALIZED_DATA, IMAGE_SCN_CNT_UNINITIALIZED_DATA, IMAGE_SCN_MEM_EXECUTE, IMAGE_SCN_MEM_READ, IMAGE_SCN_MEM_WRITE, SECTION_ALIGNMENT, FILE_ALIGNMENT, LOAD_LETTER, FILLER_LETTER, SECTION_SIZE}
use Rattle.ap_pe.specs.declared.types.PeSection.{PeSection}
use Rattle.ap_pe.specs.Format.{section_name, virtual_size, virtual_address, raw_size, raw_pointer, section_flags}

-- a section as written: the letter in its name, and its numbers
abbrev pub Named : Type 0
Named = ℕ × PeSection

-- a number where a bit of the permissions is set
abbrev pub if_bit : ℕ → ℕ → ℕ → ℕ
if_bit perms bit x = if bit_and perms bit == 0 then 0 else x

-- what may be done with a section, which can always be read, and whether it has bytes in the file
abbrev pub flags_of : ℕ → ℕ → ℕ
flags_of perms raw =
    IMAGE_SCN_MEM_READ
    + (if_bit perms PF_X (IMAGE_SCN_MEM_EXECUTE + IMAGE_SCN_CNT_CODE)
    + (if_bit perms PF_W IMAGE_SCN_MEM_WRITE
    + (if raw == 0 then IMAGE_SCN_CNT_UNINITIALIZED_DATA else IMAGE_SCN_CNT_INITIALIZED_DATA)))

-- how many bytes of its area a load's section shows
abbrev pub raw_of : Load → ℕ
raw_of p = if p.filesz == 0 then 0 else ceil_of (p.vaddr % SECTION_ALIGNMENT + p.filesz) FILE_ALIGNMENT

-- the section of a load, at an image base
unfoldable pub load_section : ℕ → Load → Area → PeSection
load_section base p x = record {
  vsize = p.vaddr + p.memsz - floor_of p.vaddr SECTION_ALIGNMENT;
  vaddr = floor_of p.vaddr SECTION_ALIGNMENT - base;
  raw = raw_of p;
  at = x.file;
  flags = flags_of p.perms.0 (raw_of p);
}

-- the section of a gap between two addresses
unfoldable pub filler_section : ℕ → ℕ → ℕ → PeSection
filler_section base from to = record { vsize = to - from; vaddr = from - base; raw = 0; at = 0; flags = IMAGE_SCN_MEM_READ + IMAGE_SCN_CNT_UNINITIALIZED_DATA }

-- the gap in front of an address, where what is in front of the gap ends at `end`
abbrev pub filler : ℕ → ℕ → ℕ → List Named
filler base end to = if nat_lt end to then (FILLER_LETTER, filler_section base end to) ∷ [] else []

-- the sections of loads, where what is in front of them ends at `end`
abbrev pub sections_behind : ℕ → ℕ → List Load → List Area → List Named
sections_behind base end [] areas = []
sections_behind base end (p ∷ loads) [] = []
sections_behind base end (p ∷ loads) (x ∷ areas) =
    filler base end (floor_of p.vaddr SECTION_ALIGNMENT)
    ++ ((LOAD_LETTER, load_section base p x) ∷ sections_behind base (ceil_of (p.vaddr + p.memsz) SECTION_ALIGNMENT) loads areas)

-- a section's name as a number: a point, its letter, its number in two digits, and zeros
abbrev pub name_of : ℕ → ℕ → ℕ
name_of letter k = 46 + 256 * (letter + 256 * (48 + k / 10 + 256 * (48 + k % 10)))

abbrev pub section_rows : ℕ → Named → Rows
section_rows k s =
    (section_name, name_of s.0 k)
    ∷ (virtual_size, s.1.vsize)
    ∷ (virtual_address, s.1.vaddr)
    ∷ (raw_size, s.1.raw)
    ∷ (raw_pointer, s.1.at)
    ∷ (section_flags, s.1.flags)
    ∷ []

-- the header of the section number k
unfoldable pub section_header : ℕ → Named → List ℕ
section_header k s = structure SECTION_SIZE 0 (section_rows k s)

-- the section headers, counted from k
abbrev pub section_table : ℕ → List Named → List ℕ
section_table k [] = []
section_table k (s ∷ sections) = section_header k s ++ section_table (k + 1) sections

-- loads in the order of their addresses, whose granules begin at or behind `end`, and end at or below 2^31 from the base on
abbrev pub Fit : ℕ → ℕ → List Load → Type 0
Fit base end [] = end ≤ base + 2 ^ 31
Fit base end (p ∷ loads) =
    (end ≤ floor_of p.vaddr SECTION_ALIGNMENT) × (p.filesz ≤ p.memsz) × Fit base (ceil_of (p.vaddr + p.memsz) SECTION_ALIGNMENT) loads
