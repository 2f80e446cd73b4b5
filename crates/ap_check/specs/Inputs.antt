-- What is taken of an input, and what it meets by the rules.
use Rattle.std.specs.Prelude.{◌≡◌, ℕ, ◌+◌, ◌-◌, ◌^◌, ◌≤◌, ◌<◌, ◌==◌, ◌&&◌, not, nat_le, nat_lt, if◌then◌else◌, Bool, true, List, [], ◌∷◌, length, map, take, filter, sum_by, All, IfSome, Option, Some, None, bit_and, codes}
use Rattle.std.specs.List.{list_any}
use Rattle.ap_fields.specs.Granules.{floor_of, ceil_of}
use Rattle.ap_fields.specs.declared.sizes.TheConstants.{MOST_LOADS}
use Rattle.ap_elf.specs.declared.constants.TheConstants.{EM_AARCH64, EHDR_SIZE, PT_NOTE, PT_TLS, PT_GNU_STACK, PF_R, PF_W, PF_X, ADDRESS_TOP}
use Rattle.ap_elf.specs.declared.types.Header.{Header}
use Rattle.ap_elf.specs.declared.types.Entry.{Entry}
use Rattle.ap_elf.specs.declared.types.Tables.{Tables}
use Rattle.ap_elf.specs.declared.types.Located.{Located}
use Rattle.ap_elf.specs.declared.types.Located.TheVariants.{Part, Missing, At}
use Rattle.ap_elf.specs.Fields.{header_of, entries_of, loads_in}
use Rattle.ap_elf.specs.InputCell.{permissions_of}
use Rattle.ap_elf.specs.Symbols.{located, value_of}
use Rattle.ap_elf.specs.declared.machine.Machine.{Machine}
use Rattle.ap_elf.specs.declared.machine.Machine.TheVariants.{X64, A64}
use Rattle.ap_check.specs.declared.load.Load.{Load}
use Rattle.ap_check.specs.declared.symbols.Symbols.{Symbols}
use Rattle.ap_elf.specs.Machines.{granule_of}

-- an input that meets the rules
pub record Taken : Type 0 where
  pub size : ℕ
  pub number : ℕ
  pub machine : Machine
  pub entry : ℕ
  pub loads : List Load
  pub tls : Option Entry
  pub stack : Option Entry
  pub notes : List Entry
  pub symbols : Symbols

-- whether so many addresses from one on lie in the file part of a load
abbrev pub has_part : ℕ → ℕ → Load → Bool
has_part a count p = nat_le p.vaddr a && nat_le (a + count) (p.vaddr + p.filesz)

-- whether they lie in the file part of one of the loads
abbrev pub in_part : ℕ → ℕ → List Load → Bool
in_part a count loads = list_any (has_part a count) loads

abbrev pub has_address : Load → ℕ → Bool
has_address p a = nat_le p.vaddr a && nat_lt a (p.vaddr + p.memsz)

abbrev pub is_executable : Load → Bool
is_executable p = not (bit_and p.perms.0 PF_X == 0)

-- whether an address is one of a load that may be executed
abbrev pub can_start : ℕ → List Load → Bool
can_start a loads = list_any (λ p. has_address p a && is_executable p) loads

-- whether a load may be read, and isn't both written and executed
abbrev pub is_permitted : Load → Bool
is_permitted p = not (bit_and p.perms.0 PF_R == 0) && not (bit_and p.perms.0 (PF_W + PF_X) == PF_W + PF_X)

-- where the granules of the last load end, or `low` where there is none
abbrev pub last_stop : ℕ → ℕ → List Load → ℕ
last_stop g low [] = low
last_stop g low (p ∷ loads) = last_stop g (ceil_of (p.vaddr + p.memsz) g) loads

-- where the granules of the first load start
abbrev pub first_start : ℕ → List Load → ℕ
first_start g [] = 0
first_start g (p ∷ loads) = floor_of p.vaddr g

-- how far the granules of the loads reach
abbrev pub span_of : ℕ → List Load → ℕ
span_of g loads = last_stop g 0 loads - first_start g loads

-- how many bytes of the file the loads have
abbrev pub bytes_of_loads : List Load → ℕ
bytes_of_loads loads = sum_by (λ p. p.filesz) loads

-- a load of a file of so many bytes, behind the granules of the loads before it
pub record IsLoad (g size low : ℕ) (p : Load) : Type 0 where
  pub some : 0 < p.memsz
  pub sizes : p.filesz ≤ p.memsz
  pub part : 0 < p.filesz → p.offset + p.filesz ≤ size
  pub base : 65536 ≤ p.vaddr
  pub top : p.vaddr + p.memsz ≤ ADDRESS_TOP
  pub order : low ≤ floor_of p.vaddr g
  pub perms : p.perms.0 < 8
  pub readable : is_permitted p ≡ true

-- loads whose granules ascend from an address on
abbrev pub AreLoads : ℕ → ℕ → ℕ → List Load → Type 0
AreLoads g size low [] = Unit {0}
AreLoads g size low (p ∷ loads) = IsLoad g size low p × AreLoads g size (ceil_of (p.vaddr + p.memsz) g) loads

abbrev pub is_tls : Entry → Bool
is_tls p = p.kind == PT_TLS

-- the template of thread-local storage
pub record IsTls (loads : List Load) (p : Entry) : Type 0 where
  pub kind : p.kind ≡ PT_TLS
  pub sizes : p.filesz ≤ p.memsz
  pub small : p.memsz ≤ 2 ^ 30
  pub aligned : p.align ≤ 2 ^ 30
  pub top : p.vaddr + p.memsz ≤ ADDRESS_TOP
  pub part : 0 < p.filesz → in_part p.vaddr p.filesz loads ≡ true

-- a note that has bytes, all of them in the file part of one load
abbrev pub is_note : List Load → Entry → Bool
is_note loads p = p.kind == PT_NOTE && (not (p.filesz == 0) && in_part p.vaddr p.filesz loads)

-- an entry that speaks of the stack
abbrev pub is_stack : Entry → Bool
is_stack p = p.kind == PT_GNU_STACK

-- what each input meets that was taken
pub record Meets (i : Taken) : Type 0 where
  pub least : EHDR_SIZE ≤ i.size
  pub most : i.size ≤ 2 ^ 28
  pub some : 0 < length i.loads
  pub few : length i.loads ≤ MOST_LOADS
  pub loads : AreLoads (granule_of i.machine) i.size 0 i.loads
  pub span : span_of (granule_of i.machine) i.loads ≤ 2 ^ 30
  pub bytes : bytes_of_loads i.loads ≤ 2 ^ 28
  pub entry : can_start i.entry i.loads ≡ true
  pub tls : IfSome i.tls (λ p. IsTls i.loads p)
  pub stack : IfSome i.stack (λ p. is_stack p ≡ true)
  pub notes : All (λ p. is_note i.loads p ≡ true) i.notes
  pub five : length i.notes ≤ 5

-- what is taken of a load
abbrev pub load_of : Entry → Load
load_of p = record { offset = p.offset; vaddr = p.vaddr; filesz = p.filesz; memsz = p.memsz; perms = record { 0 = permissions_of p } }

-- the first that passes a test
abbrev pub first_of : (Entry → Bool) → List Entry → Option Entry
first_of test [] = None
first_of test (p ∷ entries) = if test p then Some p else first_of test entries

abbrev pub machine_of : ℕ → Machine
machine_of number = if number == EM_AARCH64 then A64 else X64

-- the loads that are taken of program headers
abbrev pub loads_of : List Entry → List Load
loads_of entries = map load_of (loads_in entries)

abbrev pub no_symbols : Symbols
no_symbols = record { pe_entry = None; mach_entry = None; image_base = None; idata = None; idata_end = None; iat = None; iat_end = None }

abbrev pub with_symbols : Taken → Symbols → Taken
with_symbols i symbols = record { size = i.size; number = i.number; machine = i.machine; entry = i.entry; loads = i.loads; tls = i.tls; stack = i.stack; notes = i.notes; symbols = symbols }

-- what is taken of a header, program headers and symbols
unfoldable pub taken_of : ℕ → ℕ → Header → List Entry → Symbols → Taken
taken_of n size h entries symbols = record {
  size = size;
  number = n;
  machine = machine_of h.e_machine;
  entry = h.e_entry;
  loads = loads_of entries;
  tls = first_of is_tls entries;
  stack = first_of is_stack entries;
  notes = take 5 (filter (is_note (loads_of entries)) entries);
  symbols = symbols;
}

-- what is found of the symbols of a file
abbrev pub located_of : List ℕ → Located
located_of b = located (length b) b (header_of b)

-- the values of the seven names, by the tables
unfoldable pub symbols_at : List ℕ → Tables → Symbols
symbols_at b t = record {
  pe_entry = value_of b t (codes "ape_pe_entry");
  mach_entry = value_of b t (codes "ape_mach_entry");
  image_base = value_of b t (codes "ape_image_base");
  idata = value_of b t (codes "ape_idata");
  idata_end = value_of b t (codes "ape_idata_end");
  iat = value_of b t (codes "ape_iat");
  iat_end = value_of b t (codes "ape_iat_end");
}

abbrev pub symbols_by : List ℕ → Located → Symbols
symbols_by b (Part p) = no_symbols
symbols_by b Missing = no_symbols
symbols_by b (At t) = symbols_at b t

-- what is taken of an input, by its bytes
unfoldable pub input_of : ℕ → List ℕ → Taken
input_of n b = taken_of n (length b) (header_of b) (entries_of b) (symbols_by b (located_of b))

-- one or two inputs as a list
abbrev pub inputs_of : Taken → Option Taken → List Taken
inputs_of first None = first ∷ []
inputs_of first (Some second) = first ∷ second ∷ []
