-- The ELF header and the program headers as numbers in a file's bytes (System V gABI, ELF64, little endian).
use Rattle.std.specs.Prelude.{ℕ, zero, suc, ◌+◌, ◌==◌, ◌&&◌, not, Bool, List, [], ◌∷◌, take, filter}
use Rattle.ap_fields.specs.Fields.{number_at}
use Rattle.ap_elf.specs.declared.constants.TheConstants.{EI_NIDENT, PHDR_SIZE, PT_LOAD}
use Rattle.ap_elf.specs.declared.types.Header.{Header}
use Rattle.ap_elf.specs.declared.types.Entry.{Entry}

unfoldable pub header_of : List ℕ → Header
header_of b = record {
  ident = take EI_NIDENT b;
  e_type = number_at 2 16 b;
  e_machine = number_at 2 18 b;
  e_version = number_at 4 20 b;
  e_entry = number_at 8 24 b;
  e_phoff = number_at 8 32 b;
  e_shoff = number_at 8 40 b;
  e_flags = number_at 4 48 b;
  e_ehsize = number_at 2 52 b;
  e_phentsize = number_at 2 54 b;
  e_phnum = number_at 2 56 b;
  e_shentsize = number_at 2 58 b;
  e_shnum = number_at 2 60 b;
  e_shstrndx = number_at 2 62 b;
}

-- the program header at a place
unfoldable pub entry_at : List ℕ → ℕ → Entry
entry_at b at = record {
  kind = number_at 4 at b;
  flags = number_at 4 (at + 4) b;
  offset = number_at 8 (at + 8) b;
  vaddr = number_at 8 (at + 16) b;
  paddr = number_at 8 (at + 24) b;
  filesz = number_at 8 (at + 32) b;
  memsz = number_at 8 (at + 40) b;
  align = number_at 8 (at + 48) b;
}

-- so many program headers, one behind the other from a place on
abbrev pub entries_from : List ℕ → ℕ → ℕ → List Entry
entries_from b at zero = []
entries_from b at (suc n) = entry_at b at ∷ entries_from b (at + PHDR_SIZE) n

-- the program header table
unfoldable pub entries_of : List ℕ → List Entry
entries_of b = entries_from b (header_of b).e_phoff (header_of b).e_phnum

-- a load: an entry that puts something into memory
abbrev pub is_load : Entry → Bool
is_load p = p.kind == PT_LOAD && not (p.memsz == 0)

abbrev pub loads_in : List Entry → List Entry
loads_in entries = filter is_load entries
