-- Why the laws of the reading hold: proofs, which nobody has to read.
use Rattle.std.proofs.Common.{◌≡◌, ℕ, ◌+◌, ◌-◌, ◌%◌, ◌^◌, ◌<◌, ◌≤◌, Bool, true, false, not, if◌then◌else◌, nat_lt, ◌==◌, ◌&&◌, min, List, [], ◌∷◌, ◌++◌, length, map, Option, Some, None, refl, ap, ◌∙◌, subst, arith, inl, inr}
use Rattle.std.proofs.lemmas.Bool.{cases_Bool}
use Rattle.std.proofs.lemmas.Bool.Decides.{nat_tests}
use Rattle.std.proofs.lemmas.Nat.{div-add-mod'}
use Rattle.ap_fields.specs.FirstFault.{first_fault}
use Rattle.ap_fields.specs.Granules.{ceil_of}
use Rattle.ap_fields.specs.Readings.{Cell, MemoryImage, image_unless, bytes_in}
use Rattle.ap_fields.proofs.FirstFaults.{append-none}
use Rattle.ap_image.specs.declared.plan.Region.{Region}
use Rattle.ap_image.specs.Plans.{Mapping, IsRegion, AreAscendingFrom, AreBacked, end_of, region_byte, cell_in}
use Rattle.ap_image.specs.Reading.{Shows, IsPlanOf, AgreeAt, mapping_unless}
use Rattle.ap_pe.specs.declared.types.PeHeaders.{PeHeaders}
use Rattle.ap_pe.specs.declared.types.PeSection.{PeSection}
use Rattle.ap_pe.specs.declared.fault.PeFault.{PeFault}
use Rattle.ap_pe.specs.Format.{headers_of, sections_in}
use Rattle.ap_pe.specs.PeReading.{header_rules, extent_rules, section_rules, sections_rules, image_rules, mapping_rules, pe_rules, extent_of, headers_extent, end_behind, permissions_of, is_within, section_byte, section_cell, pe_cell, pe_reading}
use Rattle.ap_pe.specs.Looks.{Looks}
use Rattle.ap_pe.proofs.Framed.{are-alike, align-taken}
use Rattle.ap_pemap.specs.PePlans.{region_of, headers_region, regions_of, mapping_of, pe_plan}

ceil-above : (a g : ℕ) → 0 < g → a ≤ ceil_of a g
ceil-above a g pos =
    let sum = div-add-mod' (a + g - 1) g in
    let small : (a + g - 1) % g < g = omega arith in
    omega arith

-- what the rules of a section say
record Ruled (len align end : ℕ) (s : PeSection) : Type 0 where
  pub vaddr : s.vaddr ≡ end
  pub extent : 0 < extent_of align s
  pub part : 0 < s.raw → s.at + s.raw ≤ len

ruled : (len align k end : ℕ) (s : PeSection) → 0 < align → first_fault (section_rules len align k end s) ≡ None → Ruled len align end s
ruled len align k end s pos h =
    let some : 0 < (if s.vsize == 0 then s.raw else s.vsize) = grind (arith, nat_tests) in
    let above = ceil-above (if s.vsize == 0 then s.raw else s.vsize) align pos in
    record {
      vaddr = grind (arith, nat_tests);
      extent = omega arith;
      part = grind (arith, nat_tests);
    }

-- a section's region by numbers
region-numbers : (len at raw extent : ℕ) (r : Region) → 0 < extent → (0 < raw → at + raw ≤ len) → r.span ≡ extent → r.backed ≡ (if at == 0 then 0 else min raw extent) → r.at ≡ (if raw == 0 then 0 else at)
    → IsRegion r × (r.at + r.backed ≤ len)
region-numbers len at raw extent r some part span backed place = (
  record { maps = omega arith; part = grind (arith, nat_tests); bare = grind (arith, nat_tests) },
  grind (arith, nat_tests),
)

-- sections whose rules hold
record AreMapped (len align base end : ℕ) (sections : List PeSection) : Type 0 where
  pub ascending : AreAscendingFrom (base + end) (map (region_of base align) sections)
  pub backed : AreBacked (map (region_of base align) sections) len

mapped : (len align base k end : ℕ) (sections : List PeSection) → 0 < align → base + end_behind align end sections ≤ 2 ^ 47 → first_fault (sections_rules len align k end sections) ≡ None → AreMapped len align base end sections
unfolding region_of
mapped len align base k end [] pos top none = record { ascending = top; backed = tt }
mapped len align base k end (s ∷ sections) pos top none =
    let parts = append-none (section_rules len align k end s) (sections_rules len align (k + 1) (end + extent_of align s) sections) none in
    let r = ruled len align k end s pos parts.0 in
    let n = region-numbers len s.at s.raw (extent_of align s) (region_of base align s) r.extent r.part refl refl refl in
    let rest = mapped len align base (k + 1) (end + extent_of align s) sections pos top parts.1 in
    let vaddr = r.vaddr in
    let next : base + (end + extent_of align s) ≡ end_of (region_of base align s) = omega arith in
    record {
      ascending = (omega arith, n.0, subst (λ (z : ℕ). AreAscendingFrom z (map (region_of base align) sections)) next rest.ascending);
      backed = (n.1, rest.backed);
    }

extent-from : (len : ℕ) (h : PeHeaders) → first_fault (extent_rules len h) ≡ None → (0 < h.headers) × (h.headers ≤ len)
extent-from len h none = (grind (arith, nat_tests), grind (arith, nat_tests))

top-from : (h : PeHeaders) (end : ℕ) → first_fault (image_rules h end) ≡ None → h.base + end ≤ 2 ^ 47
top-from h end none = grind (arith, nat_tests)

-- where all rules hold, the regions ascend and lie in the file
pub record IsGood (len : ℕ) (h : PeHeaders) (sections : List PeSection) : Type 0 where
  pub ascending : AreAscendingFrom 0 (regions_of h sections)
  pub backed : AreBacked (regions_of h sections) len

pub good : (len : ℕ) (h : PeHeaders) (sections : List PeSection) → 0 < h.section_align → first_fault (mapping_rules len h sections) ≡ None → IsGood len h sections
unfolding headers_region
good len h sections align none =
    let end : ℕ = end_behind h.section_align (headers_extent h) sections in
    let a = append-none (extent_rules len h) (sections_rules len h.section_align 1 (headers_extent h) sections ++ image_rules h end) none in
    let b = append-none (sections_rules len h.section_align 1 (headers_extent h) sections) (image_rules h end) a.1 in
    let m = mapped len h.section_align h.base 1 (headers_extent h) sections align (top-from h end b.1) b.0 in
    let shown = extent-from len h a.0 in
    let some = shown.0 in let fits = shown.1 in
    let above : h.headers ≤ headers_extent h = ceil-above h.headers h.section_align align in
    record {
      ascending = (omega arith, record { maps = omega arith; part = above; bare = λ z. refl }, m.ascending);
      backed = (omega arith, m.backed);
    }

-- two spellings of a section's byte
byte-same : (byte : ℕ → ℕ) (at raw extent k : ℕ) → k < extent
    → (if nat_lt k (if at == 0 then 0 else min raw extent) then byte ((if raw == 0 then 0 else at) + k) else 0) ≡ (if not (at == 0) && nat_lt k raw then byte (at + k) else 0)
byte-same byte at raw extent k inside =
    elim (cases_Bool (at == 0)) [
      | inl none ↦ (let off : nat_lt k 0 ≡ false = grind (arith, nat_tests) in rw (none, off) refl)
      | inr some ↦ (
          let same : nat_lt k (min raw extent) ≡ nat_lt k raw = grind (arith, nat_tests) in
          rw (some, same) (elim (cases_Bool (nat_lt k raw)) [
            | inl on ↦ (let more : (raw == 0) ≡ false = grind (arith, nat_tests) in rw (on, more) refl)
            | inr off ↦ rw off refl
          ]))
    ]

cell-if : (b : Bool) (v w perms : ℕ) (x y : Option Cell) → (b ≡ true → v ≡ w) → x ≡ y → (if b then Some (v, perms) else x) ≡ (if b then Some (w, perms) else y)
cell-if true v w perms x y same rest = ap (λ (z : ℕ). Some (z, perms)) (same refl)
cell-if false v w perms x y same rest = rest

within : (start count a : ℕ) → is_within start count a ≡ true → a - start < count
within start count a on = grind (arith, nat_tests)

pub section-cells : (base align : ℕ) (byte : ℕ → ℕ) (sections : List PeSection) (a : ℕ) → cell_in byte (map (region_of base align) sections) a ≡ section_cell base align byte sections a
unfolding region_of
section-cells base align byte [] a = refl
section-cells base align byte (s ∷ sections) a =
    cell-if (is_within (base + s.vaddr) (extent_of align s) a) (region_byte byte (region_of base align s) a) (section_byte byte s (a - (base + s.vaddr))) (permissions_of s) _ _
    (λ on. byte-same byte s.at s.raw (extent_of align s) (a - (base + s.vaddr)) (within (base + s.vaddr) (extent_of align s) a on))
    (section-cells base align byte sections a)

plus-zero : (n : ℕ) → 0 + n ≡ n
plus-zero n = omega arith

pub region-cells : (byte : ℕ → ℕ) (h : PeHeaders) (sections : List PeSection) (a : ℕ) → cell_in byte (regions_of h sections) a ≡ pe_cell byte h sections a
unfolding headers_region
region-cells byte h sections a =
    cell-if (is_within h.base (headers_extent h) a) (region_byte byte (headers_region h) a) (if nat_lt (a - h.base) h.headers then byte (a - h.base) else 0) 4 _ _
    (λ on. ap (λ n. if nat_lt (a - h.base) h.headers then byte n else 0) (plus-zero (a - h.base)))
    (section-cells h.base h.section_align byte sections a)

plan-unless : (fault : Option PeFault) (m : Mapping) (file : List ℕ) (image : MemoryImage) → (fault ≡ None → Shows m file image) → IsPlanOf (mapping_unless fault m) file (image_unless fault image)
plan-unless None m file image h = h refl
plan-unless (Some fault) m file image h = refl

-- law cells
pub cells-pe : (b : List ℕ) → IsPlanOf (pe_plan b) b (pe_reading b)
cells-pe b =
    let h : PeHeaders = headers_of b in
    let sections : List PeSection = sections_in b h in
    plan-unless (first_fault (pe_rules b h sections)) _ b _
    (λ none.
    let parts = append-none (header_rules b) (mapping_rules (length b) h sections) none in
    record { backed = (good (length b) h sections (align-taken b parts.0) parts.1).backed; entry = refl; cells = λ a. region-cells (bytes_in b) h sections a })

mapping-alike : (o p : Option PeFault) (x y : Mapping) → o ≡ p → (o ≡ None → x ≡ y) → mapping_unless o x ≡ mapping_unless p y
mapping-alike None p x y same h = ap (λ (m : Mapping). mapping_unless None m) (h refl) ∙ ap (λ q. mapping_unless q y) same
mapping-alike (Some e) p x y same h = ap (λ q. mapping_unless q y) same

-- law frame
pub frame-pe : (f g : List ℕ) → length f ≡ length g → AgreeAt (Looks f) f g → pe_plan f ≡ pe_plan g
frame-pe f g len agree =
    let alike = are-alike f g len agree in
    mapping-alike _ _ _ _ alike.fault
    (λ none. ap (λ (h : PeHeaders). mapping_of h (sections_in f (headers_of f))) (alike.headers none) ∙ ap (mapping_of (headers_of g)) (alike.sections none))
