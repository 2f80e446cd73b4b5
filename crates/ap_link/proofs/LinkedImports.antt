-- A linked file for Windows imports what its input for x86-64 imports.
use Rattle.std.proofs.Common.{◌≡◌, ◌≢◌, ℕ, ◌+◌, ◌-◌, ◌^◌, ◌<◌, ◌≤◌, ◌==◌, ◌&&◌, nat_le, true, false, inl, inr, cond, List, [], ◌∷◌, Option, Some, None, refl, sym, ap, ◌∙◌, subst, arith}
use Rattle.std.specs.Prelude.{IfSome}
use Rattle.std.specs.Option.{option_map}
use Rattle.std.proofs.lemmas.Bool.{and_parts, or_cases, leb-true}
use Rattle.std.proofs.lemmas.Bool.Decides.{nat_tests}
use Rattle.ap_fields.specs.FirstFault.{first_fault}
use Rattle.ap_fields.specs.Granules.{ceil_of}
use Rattle.ap_fields.specs.Readings.{Cell, MemoryImage, bytes_in, image_unless}
use Rattle.ap_fields.specs.Structures.{value_at}
use Rattle.ap_fields.proofs.Bytes.{number_at-holds}
use Rattle.ap_fields.proofs.FirstFaults.{append-none}
use Rattle.ap_elf.specs.declared.types.Entry.{Entry}
use Rattle.ap_elf.specs.declared.machine.Machine.{Machine}
use Rattle.ap_elf.specs.declared.machine.Machine.TheVariants.{X64, A64}
use Rattle.ap_elf.specs.Fields.{entries_of, loads_in}
use Rattle.ap_elf.specs.InputCell.{input_cell}
use Rattle.ap_elf.specs.Machines.{granule_of, is_machine}
use Rattle.ap_image.specs.Cells.{Memory, StandsIn}
use Rattle.ap_image.specs.PlanCells.{byte_of}
use Rattle.ap_image.specs.ImportWalk.{Items, items_of}
use Rattle.ap_image.specs.Imports.{imports_of}
use Rattle.ap_image.specs.declared.import_step.Ending.TheVariants as ends
use Rattle.ap_image.proofs.WalksAlike.{walk-stands, imports-stand}
use Rattle.ap_check.specs.declared.load.Load.{Load}
use Rattle.ap_check.specs.declared.imports.ImportTable.{ImportTable}
use Rattle.ap_check.specs.declared.options.Options.{Options}
use Rattle.ap_check.specs.Options.{for_windows}
use Rattle.ap_check.specs.Inputs.{Taken, AreLoads, has_part, in_part, last_stop, input_of, inputs_of, loads_of}
use Rattle.ap_check.specs.ImportRule as rule
use Rattle.ap_check.specs.ImportRule.{table_of, AreStanding, table_rules, import_rules}
use Rattle.ap_check.specs.Windows.{x64_of, base_of, pe_entry_of, image_rules, windows_rules, MeetsWindows}
use Rattle.ap_check.specs.Both.{x64_bytes}
use Rattle.ap_check.proofs.ImportLemmas.{memory-cells, walk-done}
use Rattle.ap_check.proofs.WindowsLemmas.{chosen}
use Rattle.ap_layout.specs.declared.layout.Area.{Area}
use Rattle.ap_pe.specs.declared.types.PeHeaders.{PeHeaders}
use Rattle.ap_pe.specs.declared.types.PeSection.{PeSection}
use Rattle.ap_pe.specs.Format.{dos_headers, headers_of, sections_in}
use Rattle.ap_pe.specs.Linked.{IsRange, table_directory, program_of}
use Rattle.ap_pe.specs.PeReading.{pe_cell, pe_rules, pe_reading}
use Rattle.ap_pe.specs.Written.{end_of, sections_of}
use Rattle.ap_pe.proofs.Programs.{ranges-are}
use Rattle.ap_pe.proofs.Rounding.{rounded}
use Rattle.ap_pemap.specs.PeImports as pe
use Rattle.ap_pemap.specs.PeImports.{items_at}
use Rattle.ap_link.specs.Same.{HasImage, Same}
use Rattle.ap_link.specs.Linked.{taken_second}
use Rattle.ap_link.specs.PeImages.{IsPeIn}
use Rattle.ap_link.specs.Imported.{input_memory, table_items, CarriesImports}
use Rattle.ap_link.proofs.PeWalk.{last-is, from-headers}
use Rattle.ap_link.proofs.PeImageProof.{pe-is-same}
use Rattle.ap_link.proofs.ImportDirectories.{directory-read}

-- ---- memories

stands-at : (x y : Option Cell) (byte : ℕ) → ((c : Cell) → x ≡ Some c → y ≡ Some c) → option_map byte_of x ≡ Some byte → option_map byte_of y ≡ Some byte
stands-at (Some c) y byte h e = ap (option_map byte_of) (h c refl) ∙ e
stands-at None y byte h e = absurd (cc)

image-is : {Fault : Type 0} (g : ℕ) (byte : ℕ → ℕ) (loads : List Entry) (start : ℕ) (Else : ℕ → Option Cell → Type 0) (o : Option Fault) (image : MemoryImage)
    → Same g byte loads start Else (image_unless o image) → HasImage g byte loads start Else image
image-is g byte loads start Else None image h = h
image-is g byte loads start Else (Some f) image h = absurd h

-- what the PE reading puts into memory has the input's bytes
memory-stands : (b file : List ℕ) (start : ℕ) (Else : ℕ → Option Cell → Type 0) → Same 4096 (bytes_in b) (loads_in (entries_of b)) start Else (pe_reading file) → StandsIn (input_memory b) (pe.memory_of file)
memory-stands b file start Else same a byte e =
    let h : PeHeaders = headers_of file in
    let sections : List PeSection = sections_in file h in
    let image : MemoryImage = record { entry = h.base + h.entry; cell = pe_cell (bytes_in file) h sections } in
    let has = image-is 4096 (bytes_in b) (loads_in (entries_of b)) start Else (first_fault (pe_rules file h sections)) image same in
    stands-at (input_cell (bytes_in b) (loads_in (entries_of b)) a) (image.cell a) byte (has.cells a) e

-- rule 28 walks over the input's cells
rule-memory : (b : List ℕ) (loads : List Load) → loads ≡ loads_of (entries_of b) → rule.memory_of (bytes_in b) loads ≡ input_memory b
rule-memory b loads is =
    let cells : rule.memory_of (bytes_in b) (loads_of (entries_of b)) ≡ input_memory b = λ i a. memory-cells (bytes_in b) (loads_in (entries_of b)) a i in
    ap (rule.memory_of (bytes_in b)) is ∙ cells

-- ---- walks

items-at : (memory : Memory) (base table : ℕ) → base < table → items_at memory base (table - base) ≡ items_of memory base table None
items-at memory base table past =
    let some : (table - base == 0) ≡ false = grind (arith, nat_tests) in
    let sum : base + (table - base) ≡ table = omega arith in
    rw (some, sum) refl

-- the walk over one memory gives what the walk over another gives, up to the table's end
record AreCarried (m n : Memory) (base : ℕ) (o : Option ImportTable) : Type 0 where
  pub items : items_at n base (table_directory base o).rva ≡ table_items m base o
  pub imports : imports_of n (items_at n base (table_directory base o).rva) ≡ imports_of m (table_items m base o)

are-carried : (m n : Memory) (base : ℕ) (o : Option ImportTable) → StandsIn m n → IfSome o (λ t. base < t.idata) → (table_items m base o).ending ≡ ends.Done → AreCarried m n base o
are-carried m n base None h past done = record { items = refl; imports = refl }
are-carried m n base (Some t) h past done =
    let at = items-at n base t.idata past in
    record {
      items = at ∙ walk-stands m n base t.idata (Some t.idata_end) h done;
      imports = ap (λ (i : Items). imports_of n i) at ∙ imports-stand m n base t.idata (Some t.idata_end) h done;
    }

-- where rule 28 holds
table-done : (number : ℕ) (loads : List Load) (base : ℕ) (m : Memory) (o : Option ImportTable) → first_fault (table_rules number loads base m o) ≡ None → (table_items m base o).ending ≡ ends.Done
table-done number loads base m None none = refl
table-done number loads base m (Some t) none = walk-done number loads base m t none

rule-done : (b : List ℕ) (e : Taken) → e.loads ≡ loads_of (entries_of b) → first_fault (import_rules e (base_of e) b) ≡ None → (table_items (input_memory b) (base_of e) (table_of e.symbols)).ending ≡ ends.Done
unfolding import_rules
rule-done b e is none =
    subst (λ (m : Memory). (table_items m (base_of e) (table_of e.symbols)).ending ≡ ends.Done) (rule-memory b e.loads is)
    (table-done e.number e.loads (base_of e) (rule.memory_of (bytes_in b) e.loads) (table_of e.symbols) none)

-- ---- the table's place

-- the file parts of loads don't begin before the loads
part-past : (size low a count : ℕ) (loads : List Load) → AreLoads 4096 size low loads → in_part a count loads ≡ true → low ≤ a
part-past size low a count [] order on = absurd (cc)
part-past size low a count (p ∷ loads) order on =
    let n = rounded p.vaddr p.filesz p.memsz in
    let sum = n.sum in let above = n.above in
    let first = order.0.order in
    elim (or_cases (has_part a count p) (in_part a count loads) on) [
      | inl here ↦ (let from = leb-true p.vaddr a (and_parts (nat_le p.vaddr a) (nat_le (a + count) (p.vaddr + p.filesz)) here).0 in omega arith)
      | inr later ↦ (let rest = part-past size (ceil_of (p.vaddr + p.memsz) 4096) a count loads order.1 later in omega arith)
    ]

table-past : (size base : ℕ) (loads : List Load) (o : Option ImportTable) → AreLoads 4096 size (base + 8192) loads → IfSome o (AreStanding loads) → IfSome o (λ t. base < t.idata)
table-past size base loads None order stands = tt
table-past size base loads (Some t) order stands =
    let both = and_parts (nat_le (t.idata + 20) t.idata_end) (nat_le (t.idata_end - t.idata) (2 ^ 20) && in_part t.idata (t.idata_end - t.idata) loads) stands.table in
    let part = and_parts (nat_le (t.idata_end - t.idata) (2 ^ 20)) (in_part t.idata (t.idata_end - t.idata) loads) both.1 in
    let past = part-past size (base + 8192) t.idata (t.idata_end - t.idata) loads order part.1 in
    omega arith

directory-fits : (base : ℕ) (o : Option ImportTable) → IfSome o (λ t. IsRange base t.idata t.idata_end) → ((table_directory base o).rva < 2 ^ 32) × ((table_directory base o).length < 2 ^ 32)
directory-fits base None is = (omega arith, omega arith)
directory-fits base (Some t) is = let low = is.low in let order = is.order in let top = is.top in (omega arith, omega arith)

base-small : (base entry last : ℕ) → base ≤ entry → entry < last → last ≤ 2 ^ 47 → base < 2 ^ 64
base-small base entry last from to top = omega arith

-- ---- the whole

pub imports-carried : (e : Taken) (b : List ℕ) (areas : List Area) (table : ℕ) (file : List ℕ) → MeetsWindows e → IsPeIn e (entries_of b) (bytes_in b) areas table (program_of e) file
    → first_fault (import_rules e (base_of e) b) ≡ None → CarriesImports b e file
imports-carried e b areas table file windows given none =
    let base : ℕ = base_of e in
    let o : Option ImportTable = table_of e.symbols in
    let linked = given.linked in
    let order : AreLoads 4096 e.size 0 e.loads = subst (λ (m : Machine). AreLoads (granule_of m) e.size 0 e.loads) given.machine linked.meets.loads in
    let behind = (from-headers e.size (base + 8192) e.loads linked.meets.some order given.room).0 in
    let small = base-small base (pe_entry_of e) (last_stop 4096 0 e.loads) given.from given.to (last-is e.size 0 e.loads order refl (omega arith)).1 in
    let widths = directory-fits base o (ranges-are e base o refl (record { meets = windows; base = refl }) linked.meets).0 in
    let place : value_at dos_headers 0 file ≡ 96 = number_at-holds 4 96 60 file (omega arith) given.place in
    let read = directory-read file 96 (end_of base e.loads) (program_of e) (sections_of base e.loads areas) (record { base = small; rva = widths.0; length = widths.1 }) place given.headers in
    let stands = memory-stands b file _ _ (pe-is-same e (entries_of b) (bytes_in b) areas table (program_of e) file given) in
    let done = rule-done b e linked.loads none in
    let carried = are-carried (input_memory b) (pe.memory_of file) base o stands (table-past e.size base e.loads o behind windows.imports) done in
    let rva = ap (λ d. d.rva) read.directory in
    let moved : pe.items_in file ≡ items_at (pe.memory_of file) base (table_directory base o).rva =
    ap (λ n. items_at (pe.memory_of file) n (pe.table_rva file (headers_of file))) read.base ∙ ap (items_at (pe.memory_of file) base) rva in
    record {
      directory = read.directory;
      items = moved ∙ carried.items;
      ending = ap (λ (i : Items). i.ending) (moved ∙ carried.items) ∙ done;
      imports = ap (λ (i : Items). imports_of (pe.memory_of file) i) moved ∙ carried.imports;
    }

-- ---- rule 28 of one or two inputs

-- it holds of an input for x86-64, where Windows was chosen
abbrev pub MeetsImports : Options → List ℕ → Taken → Type 0
MeetsImports options b e = for_windows options ≡ true → e.machine ≡ X64 → first_fault (import_rules e (base_of e) b) ≡ None

pub record MeetImports (options : Options) (a : List ℕ) (b : Option (List ℕ)) : Type 0 where
  pub first : MeetsImports options a (input_of 1 a)
  pub second : IfSome b (λ c. MeetsImports options c (input_of 2 c))

x64-imports : (options : Options) (inputs : List Taken) (bytes b : List ℕ) (e : Taken) → x64_of inputs ≡ Some e → bytes ≡ b → for_windows options ≡ true → first_fault (windows_rules options inputs bytes) ≡ None
    → first_fault (import_rules e (base_of e) b) ≡ None
x64-imports options inputs bytes b e is same on none =
    subst (λ x. first_fault (import_rules e (base_of e) x) ≡ None) same
    (append-none (image_rules e) (import_rules e (base_of e) bytes) (ap first_fault (sym (chosen options inputs bytes (Some e) on is)) ∙ none)).1

other-machine : (m n : Machine) → m ≢ n → n ≡ X64 → is_machine X64 m ≡ false
other-machine X64 n differ is = absurd (differ (sym is))
other-machine A64 n differ is = refl

pub meet-imports : (options : Options) (a : List ℕ) (b : Option (List ℕ)) → IfSome (taken_second b) (λ f. (input_of 1 a).machine ≢ f.machine)
    → first_fault (windows_rules options (inputs_of (input_of 1 a) (taken_second b)) (x64_bytes (input_of 1 a) a b)) ≡ None → MeetImports options a b
meet-imports options a None differ none =
    let e : Taken = input_of 1 a in
    record {
      first = λ on machine. x64-imports options (e ∷ []) a a e (ap (λ m. cond (is_machine X64 m) (Some e) None) machine) refl on none;
      second = tt;
    }
meet-imports options a (Some b) differ none =
    let e : Taken = input_of 1 a in
    let f : Taken = input_of 2 b in
    let bytes : List ℕ = x64_bytes e a (Some b) in
    record {
      first = λ on machine.
          x64-imports options (e ∷ f ∷ []) bytes a e (ap (λ m. cond (is_machine X64 m) (Some e) (x64_of (f ∷ []))) machine) (ap (λ m. cond (is_machine X64 m) a b) machine) on none;
      second = λ on machine.
          let not_first = other-machine e.machine f.machine differ machine in
          x64-imports options (e ∷ f ∷ []) bytes b f (ap (λ t. cond t (Some e) (x64_of (f ∷ []))) not_first ∙ ap (λ m. cond (is_machine X64 m) (Some f) None) machine)
          (ap (λ t. cond t a b) not_first) on none;
    }
