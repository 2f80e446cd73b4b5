-- What a file imports, by its plan.
use Rattle.std.proofs.Common.{◌≡◌, ◌≢◌, ℕ, ◌+◌, false, List, length, Option, Some, None, Result, Ok, Err, refl, sym, ap, ◌∙◌, subst, cond, arith}
use Rattle.std.proofs.lemmas.Bool.Decides.{nat_tests}
use Rattle.std.specs.Option.{option_map}
use Rattle.std.specs.Prelude.{Vec, ◌==◌}
use Rattle.std.specs.declared.alloc.Global.{Global}
use Rattle.ap_fields.specs.FirstFault.{first_fault}
use Rattle.ap_fields.specs.Readings.{bytes_in}
use Rattle.ap_image.specs.Plans.{Mapping, AreBacked}
use Rattle.ap_image.specs.Reading.{mapping_unless}
use Rattle.ap_image.specs.Cells.{Memory}
use Rattle.ap_image.specs.PlanCells.{byte_of, shown_by}
use Rattle.ap_image.specs.ImportWalk.{Items, ended, items_of}
use Rattle.ap_image.specs.declared.import_step.Ending.TheVariants as ends
use Rattle.ap_image.specs.declared.import_item.Import.{Import}
use Rattle.ap_pe.specs.declared.types.PeHeaders.{PeHeaders}
use Rattle.ap_pe.specs.declared.types.PeSection.{PeSection}
use Rattle.ap_pe.specs.declared.fault.PeFault.{PeFault}
use Rattle.ap_pe.specs.Format.{headers_of, sections_in}
use Rattle.ap_pe.specs.PeReading.{header_rules, mapping_rules, pe_rules, headers_result, headers_unless}
use Rattle.ap_pemap.specs.PePlans.{mapping_of, pe_plan}
use Rattle.ap_pemap.specs.Laws.{good, region-cells}
use Rattle.ap_pe.proofs.Framed.{align-taken}
use Rattle.ap_fields.proofs.FirstFaults.{append-none}
use Rattle.ap_pemap.specs.PeImports.{memory_of, table_rva, items_at, items_in, AreImports, Imports}
use Rattle.ap_pemap.specs.declared.imported.ImportFault.{ImportFault}

abbrev mapping_or : Mapping → Result Mapping PeFault → Mapping
mapping_or m (Ok x) = x
mapping_or m (Err f) = m

abbrev IsRefused : Result Mapping PeFault → Type 0
IsRefused (Ok x) = ⊥
IsRefused (Err f) = Unit {0}

-- a plan that isn't refused
record IsPlan (o : Option PeFault) (m x : Mapping) : Type 0 where
  pub none : o ≡ None
  pub same : x ≡ m

is-plan : (o : Option PeFault) (m x : Mapping) → mapping_unless o m ≡ Ok x → IsPlan o m x
is-plan None m x e = record { none = refl; same = sym (ap (mapping_or m) e) }
is-plan (Some f) m x e = absurd (subst IsRefused e tt)

planned : (b : List ℕ) (plan : Mapping) → pe_plan b ≡ Ok plan → IsPlan (first_fault (pe_rules b (headers_of b) (sections_in b (headers_of b)))) (mapping_of (headers_of b) (sections_in b (headers_of b))) plan
planned b plan e = is-plan _ _ plan e

headers-none : (b : List ℕ) (plan : Mapping) → pe_plan b ≡ Ok plan → first_fault (header_rules b) ≡ None
headers-none b plan e = (append-none (header_rules b) (mapping_rules (length b) (headers_of b) (sections_in b (headers_of b))) (planned b plan e).none).0

-- its headers aren't refused
pub headers-taken : (b : List ℕ) (plan : Mapping) → pe_plan b ≡ Ok plan → headers_result b ≡ Ok (headers_of b)
headers-taken b plan e = ap (λ o. headers_unless o (headers_of b)) (headers-none b plan e)

abbrev headers_or : PeHeaders → Result PeHeaders PeFault → PeHeaders
headers_or h (Ok x) = x
headers_or h (Err f) = h

pub headers-same : (b : List ℕ) (plan : Mapping) (h : PeHeaders) → pe_plan b ≡ Ok plan → Ok h ≡ headers_result b → h ≡ headers_of b
headers-same b plan h e is = ap (headers_or h) (is ∙ headers-taken b plan e)

-- its regions lie in the file
pub plan-backed : (b : List ℕ) (plan : Mapping) → pe_plan b ≡ Ok plan → AreBacked plan.regions (length b)
plan-backed b plan e =
    let p = planned b plan e in
    let h : PeHeaders = headers_of b in
    let sections : List PeSection = sections_in b h in
    let parts = append-none (header_rules b) (mapping_rules (length b) h sections) p.none in
    subst (λ (m : Mapping). AreBacked m.regions (length b)) (sym p.same) (good (length b) h sections (align-taken b parts.0) parts.1).backed

-- and it shows the bytes of the reading's memory
pub plan-memory : (b : List ℕ) (plan : Mapping) → pe_plan b ≡ Ok plan → shown_by (bytes_in b) plan.regions ≡ memory_of b
plan-memory b plan e =
    let p = planned b plan e in
    let h : PeHeaders = headers_of b in
    let sections : List PeSection = sections_in b h in
    ap (λ (m : Mapping). shown_by (bytes_in b) m.regions) p.same
    ∙ (λ i a. option_map byte_of (region-cells (bytes_in b) h sections a i))

-- the items of a table that is there
pub items-there : (b : List ℕ) (h : PeHeaders) (rva : ℕ) → h ≡ headers_of b → rva ≡ table_rva b h → rva ≢ 0 → items_in b ≡ items_of (memory_of b) h.base (h.base + rva) None
items-there b h rva same is more =
    let some : (rva == 0) ≡ false = grind (arith, nat_tests) in
    ap (λ (x : PeHeaders). items_at (memory_of b) x.base (table_rva b x)) (sym same)
    ∙ ap (items_at (memory_of b) h.base) (sym is)
    ∙ ap (λ t. cond t (ended ends.Done) (items_of (memory_of b) h.base (h.base + rva) None)) some

pub items-none : (b : List ℕ) (h : PeHeaders) (rva : ℕ) → h ≡ headers_of b → rva ≡ table_rva b h → rva ≡ 0 → items_in b ≡ items_at (memory_of b) h.base 0
items-none b h rva same is none =
    ap (λ (x : PeHeaders). items_at (memory_of b) x.base (table_rva b x)) (sym same)
    ∙ ap (items_at (memory_of b) h.base) (sym is ∙ none)

-- the imports that the plan's bytes have, by the walk of the table, are those of the file
pub imports-there : (b : List ℕ) (plan : Mapping) (left : Items) (base at : ℕ) (result : Result (Vec Import Global) ImportFault) → pe_plan b ≡ Ok plan
    → left ≡ items_of (shown_by (bytes_in b) plan.regions) base at None → items_in b ≡ items_of (memory_of b) base at None
    → AreImports (shown_by (bytes_in b) plan.regions) left result → Imports b result
imports-there b plan left base at result e walk items h =
    let P : Items → Type 0 = λ x. AreImports (shown_by (bytes_in b) plan.regions) x result in
    let Q : Memory → Type 0 = λ m. AreImports m (items_of m base at None) result in
    let R : Items → Type 0 = λ x. AreImports (memory_of b) x result in
    subst R (sym items) (subst Q (plan-memory b plan e) (subst P walk h))
