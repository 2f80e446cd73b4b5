-- The fields of a PE32+ file, each once, by which headers are read and written (PE/COFF, "MS-DOS Stub", "COFF File Header",
-- "Optional Header", "Section Table"), and what is looked at of them.
use Rattle.std.specs.Prelude.{ℕ, zero, suc, ◌+◌, ◌*◌, List, [], ◌∷◌}
use Rattle.ap_fields.specs.Structures.{Field, value_at}
use Rattle.ap_pe.specs.declared.constants.TheConstants.{FILE_HEADER_SIZE, OPTIONAL_LEAST, DIRECTORY_SIZE, SECTION_SIZE}
use Rattle.ap_pe.specs.declared.types.PeHeaders.{PeHeaders}
use Rattle.ap_pe.specs.declared.types.PeSection.{PeSection}
use Rattle.ap_pe.specs.declared.types.FileHeader.{FileHeader}

-- of the file's start: its mark, and where the signature stands
abbrev pub dos_mark : Field
dos_mark = (0, 2)

abbrev pub dos_headers : Field
dos_headers = (60, 4)

-- of the signature and the COFF file header
abbrev pub signature : Field
signature = (0, 4)

abbrev pub machine : Field
machine = (4, 2)

abbrev pub section_count : Field
section_count = (6, 2)

abbrev pub optional_size : Field
optional_size = (20, 2)

abbrev pub file_flags : Field
file_flags = (22, 2)

-- of the optional header
abbrev pub optional_magic : Field
optional_magic = (0, 2)

abbrev pub code_size : Field
code_size = (4, 4)

abbrev pub data_size : Field
data_size = (8, 4)

abbrev pub entry_point : Field
entry_point = (16, 4)

abbrev pub code_base : Field
code_base = (20, 4)

abbrev pub image_base : Field
image_base = (24, 8)

abbrev pub section_alignment : Field
section_alignment = (32, 4)

abbrev pub file_alignment : Field
file_alignment = (36, 4)

abbrev pub system_version : Field
system_version = (40, 2)

abbrev pub subsystem_version : Field
subsystem_version = (48, 2)

abbrev pub image_size : Field
image_size = (56, 4)

abbrev pub headers_size : Field
headers_size = (60, 4)

abbrev pub subsystem : Field
subsystem = (68, 2)

abbrev pub image_flags : Field
image_flags = (70, 2)

abbrev pub stack_reserve : Field
stack_reserve = (72, 8)

abbrev pub stack_commit : Field
stack_commit = (80, 8)

abbrev pub heap_reserve : Field
heap_reserve = (88, 8)

abbrev pub heap_commit : Field
heap_commit = (96, 8)

abbrev pub directory_count : Field
directory_count = (108, 4)

-- of the directory of a number, counted from 0: its address, and its length
abbrev pub directory : ℕ → Field
directory k = (OPTIONAL_LEAST + DIRECTORY_SIZE * k, 4)

abbrev pub directory_length : ℕ → Field
directory_length k = (OPTIONAL_LEAST + DIRECTORY_SIZE * k + 4, 4)

-- of a section header
abbrev pub section_name : Field
section_name = (0, 8)

abbrev pub virtual_size : Field
virtual_size = (8, 4)

abbrev pub virtual_address : Field
virtual_address = (12, 4)

abbrev pub raw_size : Field
raw_size = (16, 4)

abbrev pub raw_pointer : Field
raw_pointer = (20, 4)

abbrev pub section_flags : Field
section_flags = (36, 4)

-- the signature and the COFF file header at a place
unfoldable pub file_header_at : List ℕ → ℕ → FileHeader
file_header_at b at = record {
  signature = value_at signature at b;
  machine = value_at machine at b;
  count = value_at section_count at b;
  optional = value_at optional_size at b;
}

-- what is looked at of the headers, by the place of the signature, the COFF file header, and the place of the optional header
unfoldable pub headers_by : ℕ → FileHeader → List ℕ → ℕ → PeHeaders
headers_by at f b optional = record {
  at = at;
  machine = f.machine;
  count = f.count;
  optional = f.optional;
  entry = value_at entry_point optional b;
  base = value_at image_base optional b;
  section_align = value_at section_alignment optional b;
  file_align = value_at file_alignment optional b;
  image = value_at image_size optional b;
  headers = value_at headers_size optional b;
  directories = value_at directory_count optional b;
}

-- the headers at a place
abbrev pub headers_at : List ℕ → ℕ → PeHeaders
headers_at b at = headers_by at (file_header_at b at) b (at + FILE_HEADER_SIZE)

-- the headers of a file
abbrev pub headers_of : List ℕ → PeHeaders
headers_of b = headers_at b (value_at dos_headers 0 b)

unfoldable pub section_at : List ℕ → ℕ → PeSection
section_at b at = record {
  vsize = value_at virtual_size at b;
  vaddr = value_at virtual_address at b;
  raw = value_at raw_size at b;
  at = value_at raw_pointer at b;
  flags = value_at section_flags at b;
}

-- n section headers, one behind the other from a place on
abbrev pub sections_from : List ℕ → ℕ → ℕ → List PeSection
sections_from b at zero = []
sections_from b at (suc n) = section_at b at ∷ sections_from b (at + SECTION_SIZE) n

-- where the section headers stand: behind the optional header
abbrev pub table_place : PeHeaders → ℕ
table_place h = h.at + FILE_HEADER_SIZE + h.optional

-- the sections of a file with these headers
abbrev pub sections_in : List ℕ → PeHeaders → List PeSection
sections_in b h = sections_from b (table_place h) h.count
