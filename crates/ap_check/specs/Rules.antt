-- The rules that an input of the linker has to meet, in their order, each with the fault that it gives where it fails.
-- They speak of the file's size, its header and its program headers, whatever source these were read from. The fields
-- are those of the System V gABI; the rules, their numbers and limits are this project's own.
use Rattle.std.specs.Prelude.{◌≡◌, ℕ, ◌+◌, ◌*◌, ◌^◌, ◌==◌, ◌&&◌, ◌||◌, not, nat_le, if◌then◌else◌, Bool, true, false, List, [], ◌∷◌, ◌++◌, length, map, slice_index, Option, None, Some, Result, MatchResult, bit_and}
use Rattle.ap_fields.specs.declared.sizes.TheConstants.{MOST_LOADS}
use Rattle.ap_fields.specs.Fields.{number_at}
use Rattle.ap_fields.specs.Granules.{floor_of, ceil_of}
use Rattle.ap_fields.specs.FirstFault.{Rules, first_fault}
use Rattle.ap_elf.specs.declared.constants.TheConstants.{ELF_MAGIC, EI_CLASS, EI_DATA, EI_VERSION, ELFCLASS64, ELFDATA2LSB, EV_CURRENT, ET_EXEC, EM_X86_64, EM_AARCH64, EHDR_SIZE, PHDR_SIZE, MOST_PHDRS, ADDRESS_TOP, PF_R, PF_W, PF_X}
use Rattle.ap_elf.specs.declared.types.Header.{Header}
use Rattle.ap_elf.specs.declared.types.Entry.{Entry}
use Rattle.ap_elf.specs.Fields.{header_of, entries_of, loads_in}
use Rattle.ap_elf.specs.ElfReading.{is_dynamic}
use Rattle.ap_elf.specs.declared.types.Located.{Located}
use Rattle.ap_elf.specs.declared.types.Located.TheVariants.{Part, Missing, At}
use Rattle.ap_elf.specs.Symbols.{part_of}
use Rattle.ap_check.specs.declared.fault.Fault.{Fault}
use Rattle.ap_check.specs.declared.load.Load.{Load}
use Rattle.ap_elf.specs.Machines.{granule_of}
use Rattle.ap_check.specs.Inputs.{in_part, can_start, span_of, bytes_of_loads, is_tls, load_of, loads_of, machine_of, located_of}

-- the fault of a rule, in the input number n
abbrev pub fault_of : ℕ → ℕ → ℕ → ℕ → Fault
fault_of n rule item value = record { rule = rule; input = n; item = item; value = value }

-- rules 1 and 2: 2^28 bytes at most, and a header
abbrev pub size_rules : ℕ → ℕ → Rules Fault
size_rules n size =
    (nat_le size (2 ^ 28), fault_of n 1 0 size)
    ∷ (nat_le EHDR_SIZE size, fault_of n 2 0 size)
    ∷ []

-- rules 3 to 6: an ELF file of 64 bits, little endian, version 1
abbrev pub ident_rules : ℕ → Header → Rules Fault
ident_rules n h =
    (number_at 4 0 h.ident == ELF_MAGIC, fault_of n 3 0 (number_at 4 0 h.ident))
    ∷ (slice_index h.ident EI_CLASS == ELFCLASS64, fault_of n 4 0 (slice_index h.ident EI_CLASS))
    ∷ (slice_index h.ident EI_DATA == ELFDATA2LSB, fault_of n 5 0 (slice_index h.ident EI_DATA))
    ∷ (slice_index h.ident EI_VERSION == EV_CURRENT, fault_of n 6 0 (slice_index h.ident EI_VERSION))
    ∷ []

-- rules 6 to 11: a program at fixed addresses for a machine that is known, with 1 to 64 program headers in the file
abbrev pub field_rules : ℕ → ℕ → Header → Rules Fault
field_rules n size h =
    (h.e_version == EV_CURRENT, fault_of n 6 0 h.e_version)
    ∷ (h.e_type == ET_EXEC, fault_of n 7 0 h.e_type)
    ∷ (h.e_machine == EM_X86_64 || h.e_machine == EM_AARCH64, fault_of n 8 0 h.e_machine)
    ∷ (h.e_phentsize == PHDR_SIZE, fault_of n 9 0 h.e_phentsize)
    ∷ (nat_le 1 h.e_phnum && nat_le h.e_phnum MOST_PHDRS, fault_of n 10 0 h.e_phnum)
    ∷ (nat_le (h.e_phoff + PHDR_SIZE * h.e_phnum) size, fault_of n 11 0 h.e_phoff)
    ∷ []

-- rules 3 to 11
unfoldable pub header_rules : ℕ → ℕ → Header → Rules Fault
header_rules n size h = ident_rules n h ++ field_rules n size h

-- rule 12, of entries counted from k: nothing is left to a dynamic linker
abbrev pub dynamic_rules : ℕ → ℕ → List Entry → Rules Fault
dynamic_rules n k [] = []
dynamic_rules n k (p ∷ entries) = (not (is_dynamic p), fault_of n 12 k p.kind) ∷ dynamic_rules n (k + 1) entries

-- rule 13: some loads, but not too many
abbrev pub count_rules : ℕ → ℕ → Rules Fault
count_rules n loads = (nat_le 1 loads && nat_le loads MOST_LOADS, fault_of n 13 0 loads) ∷ []

-- rules 14 to 18 of the load number k, where the granules of the load before it end at `low`, which is 0 for the first: its
-- sizes, its part of the file, its addresses, its permissions, and its place behind the load before it
abbrev pub load_rules : ℕ → ℕ → ℕ → ℕ → ℕ → Entry → Rules Fault
load_rules n size g k low p =
    (nat_le p.filesz p.memsz, fault_of n 14 k p.filesz)
    ∷ (p.filesz == 0 || nat_le (p.offset + p.filesz) size, fault_of n 15 k p.offset)
    ∷ (nat_le 65536 p.vaddr && nat_le (p.vaddr + p.memsz) ADDRESS_TOP, fault_of n 16 k p.vaddr)
    ∷ (not (bit_and p.flags PF_R == 0) && not (bit_and p.flags (PF_W + PF_X) == PF_W + PF_X), fault_of n 17 k p.flags)
    ∷ (nat_le low (floor_of p.vaddr g), fault_of n 18 k p.vaddr)
    ∷ []

-- rules 14 to 18, load by load
abbrev pub loads_rules : ℕ → ℕ → ℕ → ℕ → ℕ → List Entry → Rules Fault
loads_rules n size g k low [] = []
loads_rules n size g k low (p ∷ loads) =
    load_rules n size g k low p ++ loads_rules n size g (k + 1) (ceil_of (p.vaddr + p.memsz) g) loads

-- rule 19: how far the loads reach, and how many bytes of the file they have
abbrev pub span_rules : ℕ → ℕ → List Load → Rules Fault
span_rules n g loads =
    (nat_le (span_of g loads) (2 ^ 30), fault_of n 19 1 (span_of g loads))
    ∷ (nat_le (bytes_of_loads loads) (2 ^ 28), fault_of n 19 2 (bytes_of_loads loads))
    ∷ []

-- rule 20: the program starts in a load that may be executed
abbrev pub entry_rules : ℕ → ℕ → List Load → Rules Fault
entry_rules n e loads = (can_start e loads, fault_of n 20 0 e) ∷ []

-- what rule 21 asks of the one template of thread-local storage: its sizes, its alignment, its addresses, and its part of the file
abbrev pub stands : List Load → Entry → Bool
stands loads p =
    nat_le p.filesz p.memsz
    && (nat_le p.memsz (2 ^ 30) && nat_le p.align (2 ^ 30)
    && (nat_le (p.vaddr + p.memsz) ADDRESS_TOP
    && (p.filesz == 0 || in_part p.vaddr p.filesz loads)))

-- no entry is a template, of those that are counted from k
abbrev pub single_rules : ℕ → ℕ → List Entry → Rules Fault
single_rules n k [] = []
single_rules n k (p ∷ entries) = (not (is_tls p), fault_of n 21 k p.vaddr) ∷ single_rules n (k + 1) entries

-- rule 21: the first template is the only one, and it stands
abbrev pub tls_rules : ℕ → ℕ → List Load → List Entry → Rules Fault
tls_rules n k loads [] = []
tls_rules n k loads (p ∷ entries) =
    if is_tls p then single_rules n (k + 1) entries ++ ((stands loads p, fault_of n 21 k p.vaddr) ∷ [])
    else tls_rules n (k + 1) loads entries

-- rules 12 and 13
unfoldable pub count_of_loads_rules : ℕ → List Entry → Rules Fault
count_of_loads_rules n entries = dynamic_rules n 1 entries ++ count_rules n (length (loads_in entries))

-- rules 14 to 19, of the entries that are loads
unfoldable pub laid_rules : ℕ → ℕ → ℕ → List Entry → Rules Fault
laid_rules n size g loads = loads_rules n size g 1 0 loads ++ span_rules n g (map load_of loads)

-- rules 20 and 21
unfoldable pub end_rules : ℕ → ℕ → List Load → List Entry → Rules Fault
end_rules n e loads entries = entry_rules n e loads ++ tls_rules n 1 loads entries

-- rules 12 to 21
unfoldable pub table_rules : ℕ → ℕ → Header → List Entry → Rules Fault
table_rules n size h entries =
    count_of_loads_rules n entries
    ++ (laid_rules n size (granule_of (machine_of h.e_machine)) (loads_in entries)
    ++ end_rules n h.e_entry (loads_of entries) entries)

-- rules 1 to 21, of a size, a header and program headers
unfoldable pub bare_rules : ℕ → ℕ → Header → List Entry → Rules Fault
bare_rules n size h entries = size_rules n size ++ (header_rules n size h ++ table_rules n size h entries)

-- whether no part of the symbol table fails
abbrev pub holds_in : Located → Bool
holds_in (Part p) = false
holds_in Missing = true
holds_in (At t) = true

-- rule 22, of what was found of the symbols
abbrev pub symbols_rules : ℕ → Located → Rules Fault
symbols_rules n found = (holds_in found, fault_of n 22 0 (part_of found)) ∷ []

-- rules 1 to 22, of a size, a header, program headers and what was found of the symbols
unfoldable pub input_rules : ℕ → ℕ → Header → List Entry → Located → Rules Fault
input_rules n size h entries found = bare_rules n size h entries ++ symbols_rules n found

-- rules 1 to 22, by an input's bytes
unfoldable pub rules_of : ℕ → List ℕ → Rules Fault
rules_of n b = input_rules n (length b) (header_of b) (entries_of b) (located_of b)

-- the fault of the first rule that an input breaks, if any
abbrev pub first_fault_of : ℕ → List ℕ → Option Fault
first_fault_of n b = first_fault (rules_of n b)

-- a check answers by its rules: Ok where all hold, else the first fault
abbrev pub Checks : {T : Type 0} → Result T Fault → Rules Fault → Type 0
Checks result rules = MatchResult result (λ _. first_fault rules ≡ None) (λ f. first_fault rules ≡ Some f)
