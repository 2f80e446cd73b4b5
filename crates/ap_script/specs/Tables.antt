-- The ELF header and the program headers that the linker writes for an input (System V gABI, "ELF Header" and "Program
-- Header"; `PT_GNU_STACK` as Linux takes it).
use Rattle.std.specs.Prelude.{ℕ, zero, suc, ◌+◌, ◌-◌, ◌%◌, ◌==◌, ◌&&◌, nat_le, nat_lt, if◌then◌else◌, Bool, List, [], ◌∷◌, ◌++◌, map, Option, Some, None, bit_and}
use Rattle.ap_fields.specs.Granules.{floor_of}
use Rattle.ap_elf.specs.declared.constants.TheConstants.{ET_EXEC, EV_CURRENT, EHDR_SIZE, PHDR_SIZE, PT_LOAD, PT_NOTE, PT_TLS, PT_GNU_STACK, PF_R}
use Rattle.ap_elf.specs.declared.types.Header.{Header}
use Rattle.ap_elf.specs.declared.types.Entry.{Entry}
use Rattle.ap_elf.specs.Written.{header_bytes, table_bytes}
use Rattle.ap_check.specs.declared.load.Load.{Load}
use Rattle.ap_elf.specs.Machines.{granule_of, number_of}
use Rattle.ap_check.specs.Inputs.{Taken}
use Rattle.ap_layout.specs.declared.layout.Area.{Area}
use Rattle.ap_layout.specs.Positions.{PlacedInput, entry_count}
use Rattle.ap_layout.specs.Stacks.{stack_size}
use Rattle.ap_script.specs.declared.table.TheConstants.{STACK_ALIGN, ALL_FLAGS}

-- a load: its permissions, addresses and sizes are the input's, and its bytes stand in the area as far from a granule's start
-- as they do in memory; a load without bytes in the file has the empty area
abbrev pub load_entry : ℕ → Load → Area → Entry
load_entry g p x = record { kind = PT_LOAD; flags = p.perms.0; offset = x.file + p.vaddr % g; vaddr = p.vaddr; paddr = 0; filesz = p.filesz; memsz = p.memsz; align = g }

abbrev pub load_entries : ℕ → List Load → List Area → List Entry
load_entries g [] areas = []
load_entries g (p ∷ loads) [] = []
load_entries g (p ∷ loads) (x ∷ areas) = load_entry g p x ∷ load_entries g loads areas

abbrev pub stack_entries : Option Entry → List Entry
stack_entries None = []
stack_entries (Some p) = record { kind = PT_GNU_STACK; flags = bit_and p.flags ALL_FLAGS; offset = 0; vaddr = 0; paddr = 0; filesz = 0; memsz = stack_size (Some p); align = STACK_ALIGN } ∷ []

-- whether an address is in the file part of a load
abbrev pub is_backed : Load → ℕ → Bool
is_backed p a = nat_le p.vaddr a && nat_lt a (p.vaddr + p.filesz)

-- where the byte of an address in the file part of a load stands in the linked file
abbrev pub place_of : ℕ → List Load → List Area → ℕ → ℕ
place_of g [] areas a = 0
place_of g (p ∷ loads) [] a = 0
place_of g (p ∷ loads) (x ∷ areas) a = if is_backed p a then x.file + (a - floor_of p.vaddr g) else place_of g loads areas a

abbrev pub note_entry : ℕ → List Load → List Area → Entry → Entry
note_entry g loads areas p = record { kind = PT_NOTE; flags = PF_R; offset = place_of g loads areas p.vaddr; vaddr = p.vaddr; paddr = 0; filesz = p.filesz; memsz = p.filesz; align = if p.align == 8 then 8 else 4 }

abbrev pub tls_entries : ℕ → List Load → List Area → Option Entry → List Entry
tls_entries g loads areas None = []
tls_entries g loads areas (Some p) = record { kind = PT_TLS; flags = PF_R; offset = if p.filesz == 0 then 0 else place_of g loads areas p.vaddr; vaddr = p.vaddr; paddr = 0; filesz = p.filesz; memsz = p.memsz; align = p.align } ∷ []

-- the program headers of an input whose loads have these areas
unfoldable pub table_of : Taken → List Area → List Entry
table_of e areas =
    let g = granule_of e.machine in
    load_entries g e.loads areas
    ++ (stack_entries e.stack
    ++ (map (note_entry g e.loads areas) e.notes
    ++ tls_entries g e.loads areas e.tls))

-- the embedded header of an input whose table stands at a place
unfoldable pub embedded_header : Taken → ℕ → Header
embedded_header e at = record {
  ident = 127 ∷ 69 ∷ 76 ∷ 70 ∷ 2 ∷ 1 ∷ 1 ∷ 9 ∷ 0 ∷ 0 ∷ 0 ∷ 0 ∷ 0 ∷ 0 ∷ 0 ∷ 0 ∷ [];
  e_type = ET_EXEC;
  e_machine = number_of e.machine;
  e_version = EV_CURRENT;
  e_entry = e.entry;
  e_phoff = at;
  e_shoff = 0;
  e_flags = 0;
  e_ehsize = EHDR_SIZE;
  e_phentsize = PHDR_SIZE;
  e_phnum = entry_count e;
  e_shentsize = 0;
  e_shnum = 0;
  e_shstrndx = 0;
}

-- the bytes of both
abbrev pub embedded_bytes : Taken → ℕ → List ℕ
embedded_bytes e at = header_bytes (embedded_header e at)

abbrev pub table_text : Taken → List Area → List ℕ
table_text e areas = table_bytes (table_of e areas)

-- the embedded header of an input, counted from 0
abbrev pub embedded_at : List PlacedInput → ℕ → List ℕ
embedded_at [] i = []
embedded_at (p ∷ ps) zero = embedded_bytes p.input p.table
embedded_at (p ∷ ps) (suc i) = embedded_at ps i
