-- The PE reading: what a PE32+ file puts into memory, its headers at the image base and behind them its sections (PE/COFF,
-- "Optional Header" and "Section Table"). It is a function of the file's length, its headers, its section headers and, for the
-- cells, its bytes by their places.
use Rattle.std.specs.Prelude.{ℕ, ◌+◌, ◌-◌, ◌*◌, ◌%◌, ◌^◌, ◌==◌, ◌&&◌, ◌||◌, ◌≡◌, not, min, nat_le, nat_lt, if◌then◌else◌, Bool, List, [], ◌∷◌, ◌++◌, length, Option, Some, None, Result, Ok, Err, MatchResult, bit_and}
use Rattle.std.specs.Int.{is_power_of_two}
use Rattle.ap_fields.specs.FirstFault.{Rules, first_fault}
use Rattle.ap_fields.specs.Granules.{ceil_of}
use Rattle.ap_fields.specs.Readings.{Cell, MemoryImage, image_unless, bytes_in}
use Rattle.ap_fields.specs.Structures.{value_at}
use Rattle.ap_elf.specs.declared.constants.TheConstants.{ADDRESS_TOP}
use Rattle.ap_pe.specs.declared.constants.TheConstants.{IMAGE_DOS_SIGNATURE, DOS_SIZE, IMAGE_NT_SIGNATURE, FILE_HEADER_SIZE, IMAGE_FILE_MACHINE_AMD64, IMAGE_NT_OPTIONAL_HDR64_MAGIC, OPTIONAL_LEAST, DIRECTORY_SIZE, IMAGE_NUMBEROF_DIRECTORY_ENTRIES, SECTION_SIZE, MOST_SECTIONS, IMAGE_SCN_MEM_EXECUTE, IMAGE_SCN_MEM_READ, IMAGE_SCN_MEM_WRITE}
use Rattle.ap_pe.specs.declared.types.PeHeaders.{PeHeaders}
use Rattle.ap_pe.specs.declared.types.PeSection.{PeSection}
use Rattle.ap_pe.specs.declared.types.FileHeader.{FileHeader}
use Rattle.ap_pe.specs.declared.fault.PeFault.{PeFault}
use Rattle.ap_pe.specs.declared.fault.PeCause.{PeCause}
use Rattle.ap_pe.specs.declared.fault.PeCause.TheVariants.{Mz, Signature, Machine, Sections, OptionalSize, OptionalMagic, Base, Alignment, Directories, SectionTable, HeadersSize, Empty, Adjacent, RawAlign, RawRange, SectionEnd, ImageSize, Top, Entry}
use Rattle.ap_pe.specs.Format.{dos_mark, dos_headers, optional_magic, file_header_at, headers_at, headers_of, table_place, sections_in}

abbrev pub refusal : PeCause → ℕ → ℕ → PeFault
refusal cause item value = record { cause = cause; item = item; value = value }

-- a check answers by its rules: Ok where all hold, else the first fault
abbrev pub Checks : {T : Type 0} → Result T PeFault → Rules PeFault → Type 0
Checks result rules = MatchResult result (λ _. first_fault rules ≡ None) (λ f. first_fault rules ≡ Some f)

-- of the file's start, by its mark
abbrev pub dos_rules : ℕ → ℕ → Rules PeFault
dos_rules len mark = (nat_le DOS_SIZE len, refusal Mz 0 len) ∷ (mark == IMAGE_DOS_SIGNATURE, refusal Mz 0 mark) ∷ []

-- of the signature and the COFF file header, at a place
abbrev pub file_rules : ℕ → ℕ → FileHeader → Rules PeFault
file_rules len at f =
    (nat_le (at + FILE_HEADER_SIZE) len && f.signature == IMAGE_NT_SIGNATURE, refusal Signature 0 at)
    ∷ (f.machine == IMAGE_FILE_MACHINE_AMD64, refusal Machine 0 f.machine)
    ∷ (nat_le f.count MOST_SECTIONS, refusal Sections 0 f.count)
    ∷ (nat_le OPTIONAL_LEAST f.optional && nat_le (at + FILE_HEADER_SIZE + f.optional) len, refusal OptionalSize 0 f.optional)
    ∷ []

-- whether an alignment of sections and one of their bytes in the file may stand together
abbrev pub are_alignments : ℕ → ℕ → Bool
are_alignments sections file =
    is_power_of_two sections && nat_le 4096 sections && is_power_of_two file && nat_le 512 file && nat_le file 65536 && nat_le file sections

-- of the optional header, by its magic, and of the place of the section headers
abbrev pub optional_rules : ℕ → ℕ → PeHeaders → Rules PeFault
optional_rules len magic h =
    (magic == IMAGE_NT_OPTIONAL_HDR64_MAGIC, refusal OptionalMagic 0 magic)
    ∷ (h.base % 65536 == 0 && nat_lt h.base ADDRESS_TOP, refusal Base 0 h.base)
    ∷ (are_alignments h.section_align h.file_align, refusal Alignment 0 h.section_align)
    ∷ (nat_le (OPTIONAL_LEAST + DIRECTORY_SIZE * min h.directories IMAGE_NUMBEROF_DIRECTORY_ENTRIES) h.optional, refusal Directories 0 h.directories)
    ∷ (nat_le (table_place h + SECTION_SIZE * h.count) len, refusal SectionTable 0 (table_place h))
    ∷ []

-- of headers whose signature stands at a place
abbrev pub rules_at : List ℕ → ℕ → Rules PeFault
rules_at b at =
    file_rules (length b) at (file_header_at b at) ++ optional_rules (length b) (value_at optional_magic (at + FILE_HEADER_SIZE) b) (headers_at b at)

-- of the headers of a file
abbrev pub header_rules : List ℕ → Rules PeFault
header_rules b = dos_rules (length b) (value_at dos_mark 0 b) ++ rules_at b (value_at dos_headers 0 b)

-- the headers, unless there is a fault
abbrev pub headers_unless : Option PeFault → PeHeaders → Result PeHeaders PeFault
headers_unless None h = Ok h
headers_unless (Some fault) h = Err fault

-- the headers of a file, or the first refusal of them
abbrev pub headers_result : List ℕ → Result PeHeaders PeFault
headers_result b = headers_unless (first_fault (header_rules b)) (headers_of b)

-- of how much of the file the headers show
abbrev pub extent_rules : ℕ → PeHeaders → Rules PeFault
extent_rules len h = (nat_lt 0 h.headers && nat_le h.headers len, refusal HeadersSize 0 h.headers) ∷ []

-- how many addresses a section has: its size in memory, or in the file where it says none, in whole alignments
abbrev pub extent_of : ℕ → PeSection → ℕ
extent_of align s = ceil_of (if s.vsize == 0 then s.raw else s.vsize) align

-- of the section number k, where those before it end at `end`, from the image base on
abbrev pub section_rules : ℕ → ℕ → ℕ → ℕ → PeSection → Rules PeFault
section_rules len align k end s =
    (not (s.vsize == 0 && s.raw == 0), refusal Empty k 0)
    ∷ (s.vaddr == end, refusal Adjacent k s.vaddr)
    ∷ (s.raw == 0 || s.at % 512 == 0, refusal RawAlign k s.at)
    ∷ (s.raw == 0 || nat_le (s.at + s.raw) len, refusal RawRange k s.at)
    ∷ (nat_le (end + extent_of align s) (2 ^ 32), refusal SectionEnd k s.vaddr)
    ∷ []

-- of sections, counted from k
abbrev pub sections_rules : ℕ → ℕ → ℕ → ℕ → List PeSection → Rules PeFault
sections_rules len align k end [] = []
sections_rules len align k end (s ∷ sections) =
    section_rules len align k end s ++ sections_rules len align (k + 1) (end + extent_of align s) sections

-- where sections end, from the image base on
abbrev pub end_behind : ℕ → ℕ → List PeSection → ℕ
end_behind align end [] = end
end_behind align end (s ∷ sections) = end_behind align (end + extent_of align s) sections

-- how many addresses the headers have
abbrev pub headers_extent : PeHeaders → ℕ
headers_extent h = ceil_of h.headers h.section_align

-- of the image, which ends at `end`, from the image base on
abbrev pub image_rules : PeHeaders → ℕ → Rules PeFault
image_rules h end =
    (ceil_of h.image h.section_align == end, refusal ImageSize 0 h.image)
    ∷ (nat_le (h.base + end) ADDRESS_TOP, refusal Top 0 h.base)
    ∷ (nat_lt h.entry end, refusal Entry 0 h.entry)
    ∷ []

-- of all that is mapped, in a file of so many bytes
abbrev pub mapping_rules : ℕ → PeHeaders → List PeSection → Rules PeFault
mapping_rules len h sections =
    extent_rules len h
    ++ (sections_rules len h.section_align 1 (headers_extent h) sections
    ++ image_rules h (end_behind h.section_align (headers_extent h) sections))

-- permissions by a section's flags: 1 execute, 2 write, 4 read
abbrev pub bit_if : ℕ → ℕ → ℕ → ℕ
bit_if flags bit x = if bit_and flags bit == 0 then 0 else x

abbrev pub permissions_of : PeSection → ℕ
permissions_of s = bit_if s.flags IMAGE_SCN_MEM_EXECUTE 1 + (bit_if s.flags IMAGE_SCN_MEM_WRITE 2 + bit_if s.flags IMAGE_SCN_MEM_READ 4)

-- whether an address is one of so many from a start on
abbrev pub is_within : ℕ → ℕ → ℕ → Bool
is_within start count a = nat_le start a && nat_lt a (start + count)

-- the byte at an address of a section, counted from its start: the file's as far as the section has bytes there, and 0 behind
abbrev pub section_byte : (ℕ → ℕ) → PeSection → ℕ → ℕ
section_byte byte s k = if not (s.at == 0) && nat_lt k s.raw then byte (s.at + k) else 0

-- the cell at an address, by the section that has it
abbrev pub section_cell : ℕ → ℕ → (ℕ → ℕ) → List PeSection → ℕ → Option Cell
section_cell base align byte [] a = None
section_cell base align byte (s ∷ sections) a =
    if is_within (base + s.vaddr) (extent_of align s) a then Some (section_byte byte s (a - (base + s.vaddr)), permissions_of s)
    else section_cell base align byte sections a

-- the cell at an address: the headers, which can be read, from the image base on, else that of a section
abbrev pub pe_cell : (ℕ → ℕ) → PeHeaders → List PeSection → ℕ → Option Cell
pe_cell byte h sections a =
    if is_within h.base (headers_extent h) a then Some (if nat_lt (a - h.base) h.headers then byte (a - h.base) else 0, 4)
    else section_cell h.base h.section_align byte sections a

abbrev pub pe_rules : List ℕ → PeHeaders → List PeSection → Rules PeFault
pe_rules b h sections = header_rules b ++ mapping_rules (length b) h sections

-- the reading of a file whose bytes in memory come from elsewhere
abbrev pub pe_reading_by : (ℕ → ℕ) → List ℕ → Result MemoryImage PeFault
pe_reading_by byte b =
    image_unless (first_fault (pe_rules b (headers_of b) (sections_in b (headers_of b))))
    (record { entry = (headers_of b).base + (headers_of b).entry; cell = pe_cell byte (headers_of b) (sections_in b (headers_of b)) })

-- the reading of a file
abbrev pub pe_reading : List ℕ → Result MemoryImage PeFault
pe_reading b = pe_reading_by (bytes_in b) b
