-- The ELF reading: what a static ELF file puts into memory, for a machine and a page size (System V gABI, "Program
-- Loading"; how much of a page a load shows is what kernels map). It is a function of the file's length, its header,
-- its program headers and, for the cells, its bytes by their places.
use Rattle.std.specs.Prelude.{ℕ, ◌+◌, ◌*◌, ◌-◌, ◌%◌, ◌==◌, ◌&&◌, ◌||◌, not, nat_le, nat_lt, if◌then◌else◌, Bool, List, [], ◌∷◌, ◌++◌, length, slice_index, Option, Some, None, Result}
use Rattle.ap_fields.specs.Fields.{number_at}
use Rattle.ap_fields.specs.Granules.{floor_of, ceil_of}
use Rattle.ap_elf.specs.declared.constants.TheConstants.{ELF_MAGIC, EI_CLASS, EI_DATA, EI_VERSION, ELFCLASS64, ELFDATA2LSB, EV_CURRENT, ET_EXEC, EHDR_SIZE, PHDR_SIZE, PT_DYNAMIC, PT_INTERP, MOST_PHDRS, ADDRESS_TOP}
use Rattle.ap_elf.specs.declared.types.Header.{Header}
use Rattle.ap_elf.specs.declared.types.Entry.{Entry}
use Rattle.ap_elf.specs.declared.fault.ElfFault.{ElfFault}
use Rattle.ap_elf.specs.declared.fault.ElfCause.{ElfCause}
use Rattle.ap_elf.specs.declared.fault.ElfCause.TheVariants.{Short, Magic, Class, Endian, Version, FileType, Machine, TableSize, TableCount, TableRange, Dynamic, Sizes, Range, Top, Congruent, Order, NoLoad}
use Rattle.ap_elf.specs.Fields.{header_of, entries_of, loads_in}
use Rattle.ap_fields.specs.FirstFault.{Rules, first_fault}
use Rattle.ap_fields.specs.Readings.{Cell, MemoryImage, image_unless, bytes_in}
use Rattle.ap_elf.specs.InputCell.{permissions_of}

abbrev pub refusal : ElfCause → ℕ → ℕ → ElfFault
refusal cause item value = record { cause = cause; item = item; value = value }

-- of the file's front
abbrev pub header_rules : ℕ → ℕ → Header → Rules ElfFault
header_rules machine len h =
    (nat_le EHDR_SIZE len, refusal Short 0 len)
    ∷ (number_at 4 0 h.ident == ELF_MAGIC, refusal Magic 0 (number_at 4 0 h.ident))
    ∷ (slice_index h.ident EI_CLASS == ELFCLASS64, refusal Class 0 (slice_index h.ident EI_CLASS))
    ∷ (slice_index h.ident EI_DATA == ELFDATA2LSB, refusal Endian 0 (slice_index h.ident EI_DATA))
    ∷ (slice_index h.ident EI_VERSION == EV_CURRENT, refusal Version 0 (slice_index h.ident EI_VERSION))
    ∷ (h.e_version == EV_CURRENT, refusal Version 0 h.e_version)
    ∷ (h.e_type == ET_EXEC, refusal FileType 0 h.e_type)
    ∷ (h.e_machine == machine, refusal Machine 0 h.e_machine)
    ∷ (h.e_phentsize == PHDR_SIZE, refusal TableSize 0 h.e_phentsize)
    ∷ (nat_le 1 h.e_phnum && nat_le h.e_phnum MOST_PHDRS, refusal TableCount 0 h.e_phnum)
    ∷ (nat_le (h.e_phoff + PHDR_SIZE * h.e_phnum) len, refusal TableRange 0 h.e_phoff)
    ∷ []

-- an interpreter, or tables for the dynamic linker
abbrev pub is_dynamic : Entry → Bool
is_dynamic p = p.kind == PT_INTERP || p.kind == PT_DYNAMIC

-- of the entries, counted from k
abbrev pub dynamic_rules : ℕ → List Entry → Rules ElfFault
dynamic_rules k [] = []
dynamic_rules k (p ∷ entries) = (not (is_dynamic p), refusal Dynamic k p.kind) ∷ dynamic_rules (k + 1) entries

-- of the load number k, where the pages of the load before it end at `low`
abbrev pub load_rules : ℕ → ℕ → ℕ → ℕ → Entry → Rules ElfFault
load_rules page len k low p =
    (nat_le p.filesz p.memsz, refusal Sizes k p.filesz)
    ∷ (p.filesz == 0 || nat_le (p.offset + p.filesz) len, refusal Range k p.offset)
    ∷ (nat_le (p.vaddr + p.memsz) ADDRESS_TOP, refusal Top k p.vaddr)
    ∷ (p.filesz == 0 || p.offset % page == p.vaddr % page, refusal Congruent k p.offset)
    ∷ (nat_le low (floor_of p.vaddr page), refusal Order k p.vaddr)
    ∷ []

-- of the loads, counted from k
abbrev pub loads_rules : ℕ → ℕ → ℕ → ℕ → List Entry → Rules ElfFault
loads_rules page len k low [] = []
loads_rules page len k low (p ∷ loads) =
    load_rules page len k low p ++ loads_rules page len (k + 1) (ceil_of (p.vaddr + p.memsz) page) loads

abbrev pub elf_rules : ℕ → ℕ → ℕ → Header → List Entry → Rules ElfFault
elf_rules machine page len h entries =
    header_rules machine len h
    ++ (dynamic_rules 1 entries
    ++ (loads_rules page len 1 0 (loads_in entries)
    ++ ((nat_lt 0 (length (loads_in entries)), refusal NoLoad 0 0) ∷ [])))

-- whether an address is in the pages of a load
abbrev pub has_in_pages : ℕ → Entry → ℕ → Bool
has_in_pages page p a = nat_le (floor_of p.vaddr page) a && nat_lt a (ceil_of (p.vaddr + p.memsz) page)

-- the byte that the pages of a load show at an address
abbrev pub page_byte : ℕ → (ℕ → ℕ) → Entry → ℕ → ℕ
page_byte len byte p a =
    let place = p.offset + a - p.vaddr in
    if p.filesz == 0 then 0
    else (if nat_lt a (p.vaddr + p.filesz) then byte place
    else (if nat_lt p.filesz p.memsz then 0
    else (if nat_lt place len then byte place else 0)))

-- the cell at an address, by the load whose pages have it
abbrev pub page_cell : ℕ → ℕ → (ℕ → ℕ) → List Entry → ℕ → Option Cell
page_cell page len byte [] a = None
page_cell page len byte (p ∷ loads) a =
    if has_in_pages page p a then Some (page_byte len byte p a, permissions_of p) else page_cell page len byte loads a

-- the reading by a header and program headers from anywhere
abbrev pub elf_reading_by : ℕ → ℕ → ℕ → Header → List Entry → (ℕ → ℕ) → Result MemoryImage ElfFault
elf_reading_by machine page len h entries byte =
    image_unless (first_fault (elf_rules machine page len h entries))
    (record { entry = h.e_entry; cell = page_cell page len byte (loads_in entries) })

-- the reading of a file
abbrev pub elf_reading : ℕ → ℕ → List ℕ → Result MemoryImage ElfFault
elf_reading machine page b = elf_reading_by machine page (length b) (header_of b) (entries_of b) (bytes_in b)
