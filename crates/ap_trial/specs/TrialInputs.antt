-- The inputs of a trial: an ELF program of a number, whose first load has so many pages of bytes of the number's sequence (System V
-- gABI, ELF64).
use Rattle.std.specs.Prelude.{ℕ, ◌+◌, ◌-◌, ◌*◌, List, [], ◌∷◌, ◌++◌, codes}
use Rattle.ap_fields.specs.Bytes.{zeros}
use Rattle.ap_fields.specs.Granules.{ceil_of}
use Rattle.ap_fields.specs.Structures.{Rows, structure}
use Rattle.ap_elf.specs.declared.constants.TheConstants.{EHDR_SIZE, ET_EXEC, EV_CURRENT, PF_R, PF_W, PF_X, PHDR_SIZE, PT_LOAD, SHDR_SIZE, SHT_STRTAB, SHT_SYMTAB, SYM_SIZE}
use Rattle.ap_elf.specs.declared.types.Header.{Header}
use Rattle.ap_elf.specs.declared.types.Entry.{Entry}
use Rattle.ap_elf.specs.declared.machine.Machine.{Machine}
use Rattle.ap_elf.specs.Machines.{granule_of, number_of}
use Rattle.ap_elf.specs.Written.{header_bytes, table_bytes}
use Rattle.ap_trial.specs.declared.headers.TheConstants.{HEADERS}
use Rattle.ap_trial.specs.declared.places.TheConstants.{FIRST}
use Rattle.ap_trial.specs.declared.tables.TheConstants.{SHN_ABS}
use Rattle.ap_trial.specs.Draws.{stepped, drawn}

-- the bytes of the first load
abbrev pub part_length : ℕ → ℕ
part_length pages = 4096 * pages

-- those of its granules
abbrev pub part_room : ℕ → ℕ → ℕ
part_room g pages = ceil_of (part_length pages) g

-- where the second load stands in the file
abbrev pub data_place : ℕ → ℕ → ℕ
data_place g pages = g + part_room g pages

-- where its bytes end, and the symbols start
abbrev pub tables_place : ℕ → ℕ → ℕ
tables_place g pages = data_place g pages + 4096

-- the addresses of the second load and of the third
abbrev pub data_address : ℕ → ℕ → ℕ
data_address g pages = FIRST + part_room g pages + g

abbrev pub rest_address : ℕ → ℕ → ℕ
rest_address g pages = ceil_of (data_address g pages + 9096) g + g

unfoldable pub trial_header : ℕ → Machine → Header
trial_header pages machine = record {
  ident = 127 ∷ 69 ∷ 76 ∷ 70 ∷ 2 ∷ 1 ∷ 1 ∷ 0 ∷ 0 ∷ 0 ∷ 0 ∷ 0 ∷ 0 ∷ 0 ∷ 0 ∷ 0 ∷ [];
  e_type = ET_EXEC;
  e_machine = number_of machine;
  e_version = EV_CURRENT;
  e_entry = FIRST;
  e_phoff = EHDR_SIZE;
  e_shoff = tables_place (granule_of machine) pages + 64;
  e_flags = 0;
  e_ehsize = EHDR_SIZE;
  e_phentsize = PHDR_SIZE;
  e_phnum = 3;
  e_shentsize = SHDR_SIZE;
  e_shnum = 3;
  e_shstrndx = 0;
}

-- a load, by its offset, address, file size, memory size and flags
unfoldable pub trial_load : ℕ → ℕ → ℕ → ℕ → ℕ → ℕ → Entry
trial_load g offset vaddr filesz memsz flags = record { kind = PT_LOAD; flags = flags; offset = offset; vaddr = vaddr; paddr = 0; filesz = filesz; memsz = memsz; align = g }

-- the three loads: bytes that may be executed, bytes that may be written with zeros behind them, and zeros alone
abbrev pub trial_loads : ℕ → ℕ → List Entry
trial_loads g pages =
    trial_load g g FIRST (part_length pages) (part_length pages) (PF_R + PF_X)
    ∷ trial_load g (data_place g pages) (data_address g pages) 4096 9096 (PF_R + PF_W)
    ∷ trial_load g 0 (rest_address g pages) 0 10000 (PF_R + PF_W)
    ∷ []

-- the symbol `ape_pe_entry`, an absolute one
abbrev pub symbol_rows : Rows
symbol_rows = ((0, 4), 1) ∷ ((6, 2), SHN_ABS) ∷ ((8, 8), FIRST + 16) ∷ []

-- a section of symbols, whose names are in section 2
abbrev pub symbols_rows : ℕ → Rows
symbols_rows at = ((4, 4), SHT_SYMTAB) ∷ ((24, 8), at) ∷ ((32, 8), 48) ∷ ((40, 4), 2) ∷ ((56, 8), SYM_SIZE) ∷ []

-- a section of names
abbrev pub strings_rows : ℕ → Rows
strings_rows at = ((4, 4), SHT_STRTAB) ∷ ((24, 8), at) ∷ ((32, 8), 14) ∷ []

-- a NUL, the name of the symbol and a NUL, and two zeros
abbrev pub names_text : List ℕ
names_text = 0 ∷ codes "ape_pe_entry" ++ (0 ∷ 0 ∷ 0 ∷ [])

-- the symbols and their names
unfoldable pub symbols_text : List ℕ
symbols_text = zeros 24 ++ (structure 24 0 symbol_rows ++ names_text)

-- the section headers, of symbols at a place
unfoldable pub sections_text : ℕ → List ℕ
sections_text at = zeros 64 ++ (structure 64 0 (symbols_rows at) ++ structure 64 0 (strings_rows (at + 48)))

-- the headers of the file and of its loads, up to the first granule
unfoldable pub headers_text : ℕ → Machine → List ℕ
headers_text pages machine =
    let g = granule_of machine in
    header_bytes (trial_header pages machine) ++ (table_bytes (trial_loads g pages) ++ zeros (g - HEADERS))

-- the bytes of the loads
unfoldable pub loads_text : ℕ → ℕ → ℕ → List ℕ
loads_text number g pages =
    drawn number (part_length pages)
    ++ (zeros (part_room g pages - part_length pages)
    ++ drawn (stepped number (part_length pages)) 4096)

-- the input of a number
unfoldable pub trial_input : ℕ → ℕ → Machine → List ℕ
trial_input number pages machine =
    let g = granule_of machine in
    headers_text pages machine
    ++ (loads_text number g pages
    ++ (symbols_text
    ++ sections_text (tables_place g pages)))
