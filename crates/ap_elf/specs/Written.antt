-- The ELF header and a program header as bytes: their fields in order, each with its lowest byte first (System V gABI,
-- ELF64).
use Rattle.std.specs.Prelude.{◌≡◌, ℕ, ◌*◌, ◌^◌, ◌<◌, List, [], ◌∷◌, ◌++◌, length}
use Rattle.std.specs.List.{flat_map}
use Rattle.ap_fields.specs.Bytes.{Holds}
use Rattle.ap_fields.specs.Fields.{bytes_of}
use Rattle.ap_elf.specs.declared.constants.TheConstants.{EI_NIDENT, PHDR_SIZE}
use Rattle.ap_elf.specs.declared.types.Header.{Header}
use Rattle.ap_elf.specs.declared.types.Entry.{Entry}
use Rattle.ap_elf.specs.Fields.{entries_from}

unfoldable pub header_bytes : Header → List ℕ
header_bytes h =
    h.ident
    ++ (bytes_of 2 h.e_type
    ++ (bytes_of 2 h.e_machine
    ++ (bytes_of 4 h.e_version
    ++ (bytes_of 8 h.e_entry
    ++ (bytes_of 8 h.e_phoff
    ++ (bytes_of 8 h.e_shoff
    ++ (bytes_of 4 h.e_flags
    ++ (bytes_of 2 h.e_ehsize
    ++ (bytes_of 2 h.e_phentsize
    ++ (bytes_of 2 h.e_phnum
    ++ (bytes_of 2 h.e_shentsize
    ++ (bytes_of 2 h.e_shnum
    ++ bytes_of 2 h.e_shstrndx))))))))))))

unfoldable pub entry_bytes : Entry → List ℕ
entry_bytes p =
    bytes_of 4 p.kind
    ++ (bytes_of 4 p.flags
    ++ (bytes_of 8 p.offset
    ++ (bytes_of 8 p.vaddr
    ++ (bytes_of 8 p.paddr
    ++ (bytes_of 8 p.filesz
    ++ (bytes_of 8 p.memsz
    ++ bytes_of 8 p.align))))))

-- a program header table
unfoldable pub table_bytes : List Entry → List ℕ
table_bytes entries = flat_map entry_bytes entries

-- a header whose fields have their widths
pub record HeaderFits (h : Header) : Type 0 where
  pub ident : length h.ident ≡ EI_NIDENT
  pub e_type : h.e_type < 256 ^ 2
  pub e_machine : h.e_machine < 256 ^ 2
  pub e_version : h.e_version < 256 ^ 4
  pub e_entry : h.e_entry < 256 ^ 8
  pub e_phoff : h.e_phoff < 256 ^ 8
  pub e_shoff : h.e_shoff < 256 ^ 8
  pub e_flags : h.e_flags < 256 ^ 4
  pub e_ehsize : h.e_ehsize < 256 ^ 2
  pub e_phentsize : h.e_phentsize < 256 ^ 2
  pub e_phnum : h.e_phnum < 256 ^ 2
  pub e_shentsize : h.e_shentsize < 256 ^ 2
  pub e_shnum : h.e_shnum < 256 ^ 2
  pub e_shstrndx : h.e_shstrndx < 256 ^ 2

-- a program header whose fields have their widths
pub record EntryFits (p : Entry) : Type 0 where
  pub kind : p.kind < 256 ^ 4
  pub flags : p.flags < 256 ^ 4
  pub offset : p.offset < 256 ^ 8
  pub vaddr : p.vaddr < 256 ^ 8
  pub paddr : p.paddr < 256 ^ 8
  pub filesz : p.filesz < 256 ^ 8
  pub memsz : p.memsz < 256 ^ 8
  pub align : p.align < 256 ^ 8

abbrev pub EntriesFit : List Entry → Type 0
EntriesFit [] = Unit {0}
EntriesFit (p ∷ entries) = EntryFits p × EntriesFit entries

-- A program header table has so many bytes for each program header, and a file that has it at a place has these program headers
-- there.
pub record IsReadBack (entries : List Entry) : Type 0 where
  pub size : length (table_bytes entries) ≡ PHDR_SIZE * length entries
  pub back : (w : List ℕ) (at : ℕ) → Holds w at (table_bytes entries) → entries_from w at (length entries) ≡ entries

abbrev pub TablesAreReadBack : Type 0
TablesAreReadBack = (entries : List Entry) → EntriesFit entries → IsReadBack entries
