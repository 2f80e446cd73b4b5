-- The plan of a file of which the headers and the section headers are read by the file's name.
use Rattle.std.proofs.Common.{◌≡◌, ℕ, ◌≤◌, List, [], ◌∷◌, ◌++◌, length, map, Option, Some, None, Result, Ok, Err, refl, sym, ap, ◌∙◌, subst, arith}
use Rattle.ap_fields.specs.FirstFault.{Rules, first_fault}
use Rattle.ap_fields.proofs.FirstFaults.{none-append, some-append}
use Rattle.ap_image.specs.declared.plan.Region.{Region}
use Rattle.ap_image.specs.Plans.{Mapping, AreAscendingFrom, AreBacked}
use Rattle.ap_image.specs.Reading.{mapping_unless}
use Rattle.ap_pe.specs.declared.types.PeHeaders.{PeHeaders}
use Rattle.ap_pe.specs.declared.types.PeSection.{PeSection}
use Rattle.ap_pe.specs.declared.fault.PeFault.{PeFault}
use Rattle.ap_pe.specs.Format.{headers_of, sections_in}
use Rattle.ap_pe.specs.PeReading.{header_rules, extent_rules, sections_rules, image_rules, mapping_rules, headers_extent, end_behind, headers_unless, headers_result}
use Rattle.ap_pemap.specs.PePlans.{region_of, headers_region, regions_of, mapping_of, mapped_plan, pe_plan}
use Rattle.ap_pemap.specs.Laws.{good}

refused-by : (o : Option PeFault) (b : List ℕ) (e : PeFault) → first_fault (header_rules b) ≡ o → Err e ≡ headers_unless o (headers_of b) → Err e ≡ pe_plan b
refused-by None b e is h = absurd (cc)
refused-by (Some f) b e is h =
    let same : e ≡ f = cc in
    let rest : Rules PeFault = mapping_rules (length b) (headers_of b) (sections_in b (headers_of b)) in
    ap (λ (x : PeFault). Err x) same
    ∙ sym (ap (λ (o : Option PeFault). mapping_unless o (mapping_of (headers_of b) (sections_in b (headers_of b)))) (some-append (header_rules b) rest f is))

-- headers that are refused decide
pub refused-named : (b : List ℕ) (e : PeFault) → Err e ≡ headers_result b → Err e ≡ pe_plan b
refused-named b e h = refused-by (first_fault (header_rules b)) b e refl h

planned-by : (o : Option PeFault) (b : List ℕ) (h : PeHeaders) → first_fault (header_rules b) ≡ o → Ok h ≡ headers_unless o (headers_of b) → (h ≡ headers_of b) × (first_fault (header_rules b) ≡ None)
planned-by None b h is e = (cc, is)
planned-by (Some f) b h is e = absurd (cc)

-- else the plan is that of the headers and the sections
pub planned-named : (size : ℕ) (b : List ℕ) (h : PeHeaders) (sections : List PeSection) (plan : Result Mapping PeFault) → size ≡ length b → Ok h ≡ headers_result b → sections ≡ sections_in b h → plan ≡ mapped_plan size h sections
    → plan ≡ pe_plan b
planned-named size b h sections plan sized known table is =
    let taken = planned-by (first_fault (header_rules b)) b h refl known in
    is
    ∙ ap (λ n. mapped_plan n h sections) sized
    ∙ ap (mapped_plan (length b) h) table
    ∙ ap (λ (x : PeHeaders). mapped_plan (length b) x (sections_in b x)) taken.0
    ∙ ap (λ (o : Option PeFault). mapping_unless o (mapping_of (headers_of b) (sections_in b (headers_of b)))) (sym (none-append (header_rules b) (mapping_rules (length b) (headers_of b) (sections_in b (headers_of b))) taken.1))

-- the regions of headers and sections that meet their rules
pub planned-good : (size end : ℕ) (h : PeHeaders) (sections : List PeSection) (first regions : List Region) → 4096 ≤ h.section_align → first_fault (extent_rules size h) ≡ None
    → first_fault (sections_rules size h.section_align 1 (headers_extent h) sections) ≡ None → end ≡ end_behind h.section_align (headers_extent h) sections → first_fault (image_rules h end) ≡ None
    → first ≡ headers_region h ∷ [] → regions ≡ first ++ map (region_of h.base h.section_align) sections → AreAscendingFrom 0 regions × AreBacked regions size
planned-good size end h sections first regions align extent each stop image head made =
    let rules : first_fault (mapping_rules size h sections) ≡ None =
    none-append (extent_rules size h) (sections_rules size h.section_align 1 (headers_extent h) sections ++ image_rules h (end_behind h.section_align (headers_extent h) sections)) extent
    ∙ none-append (sections_rules size h.section_align 1 (headers_extent h) sections) (image_rules h (end_behind h.section_align (headers_extent h) sections)) each
    ∙ sym (ap (λ k. first_fault (image_rules h k)) stop) ∙ image in
    let all : regions ≡ regions_of h sections = made ∙ ap (λ (l : List Region). l ++ map (region_of h.base h.section_align) sections) head in
    let both = good size h sections (omega arith) rules in (
      subst (AreAscendingFrom 0) (sym all) both.ascending,
      subst (λ (l : List Region). AreBacked l size) (sym all) both.backed,
    )
