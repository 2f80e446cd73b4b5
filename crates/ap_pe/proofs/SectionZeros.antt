-- The sections of an input's loads leave zeros.
use Rattle.std.proofs.Common.{◌≡◌, inl, inr, ℕ, zero, suc, ◌+◌, ◌/◌, ◌%◌, ◌<◌, ◌≤◌, ◌==◌, Bool, true, false, if◌then◌else◌, nat_lt, List, [], ◌∷◌, ◌++◌, refl, ap, arith}
use Rattle.std.proofs.lemmas.Bool.{cases_Bool}
use Rattle.std.proofs.lemmas.Bool.Decides.{nat_tests}
use Rattle.ap_fields.specs.Granules.{floor_of, ceil_of}
use Rattle.ap_check.specs.declared.load.Load.{Load}
use Rattle.ap_check.specs.Inputs.{IsLoad, AreLoads}
use Rattle.ap_layout.specs.declared.layout.Area.{Area}
use Rattle.ap_layout.specs.Areas.{Serves, ServeAll}
use Rattle.ap_pe.specs.Sections.{Named, if_bit, raw_of, load_section, filler_section, sections_behind}
use Rattle.ap_pe.specs.Written.{raw_sum, is_code, first_code}
use Rattle.ap_pe.proofs.Rounding.{rounded}
use Rattle.ap_pe.proofs.HeaderZeros.{SectionZeros, SectionsZeros}

flags-zero : (n : ℕ) (b : Bool) → n < 8 → (0x40000000 + (if_bit n 1 0x20000020 + (if_bit n 2 0x80000000 + (if b then 0x80 else 0x40)))) / 256 % 256 ≡ 0
flags-zero zero true small = refl
flags-zero zero false small = refl
flags-zero (suc zero) true small = refl
flags-zero (suc zero) false small = refl
flags-zero (suc (suc zero)) true small = refl
flags-zero (suc (suc zero)) false small = refl
flags-zero (suc (suc (suc zero))) true small = refl
flags-zero (suc (suc (suc zero))) false small = refl
flags-zero (suc (suc (suc (suc zero)))) true small = refl
flags-zero (suc (suc (suc (suc zero)))) false small = refl
flags-zero (suc (suc (suc (suc (suc zero))))) true small = refl
flags-zero (suc (suc (suc (suc (suc zero))))) false small = refl
flags-zero (suc (suc (suc (suc (suc (suc zero)))))) true small = refl
flags-zero (suc (suc (suc (suc (suc (suc zero)))))) false small = refl
flags-zero (suc (suc (suc (suc (suc (suc (suc zero))))))) true small = refl
flags-zero (suc (suc (suc (suc (suc (suc (suc zero))))))) false small = refl
flags-zero (suc (suc (suc (suc (suc (suc (suc (suc n)))))))) b small = absurd (omega arith)

raw-even : (p : Load) → raw_of p % 256 ≡ 0
raw-even p = elim (cases_Bool (p.filesz == 0)) [
  | inl none ↦ rw none refl
  | inr some ↦ rw some (let e : ceil_of (p.vaddr % 4096 + p.filesz) 512 % 256 ≡ 0 = omega arith in e)
]

place-even : (news : List Area) (p : Load) (x : Area) → Serves 4096 news p x → x.file % 256 ≡ 0
place-even news p x held =
    elim (cases_Bool (p.filesz == 0)) [
      | inl none ↦ (let z : p.filesz ≡ 0 = grind (arith, nat_tests) in let e : x.file ≡ 0 = ap (λ (a : Area). a.file) (held.bare z) in omega arith)
      | inr not_none ↦ (let some : 0 < p.filesz = grind (arith, nat_tests) in let h = held.granule some in omega arith)
    ]

load-zeros : (base size low : ℕ) (news : List Area) (p : Load) (x : Area) → base % 65536 ≡ 0 → base ≤ floor_of p.vaddr 4096 → IsLoad 4096 size low p → Serves 4096 news p x → SectionZeros (97, load_section base p x)
unfolding load_section
load-zeros base size low news p x even room load held = record {
  letter = omega arith;
  vaddr = let n = rounded p.vaddr p.filesz p.memsz in let s = n.start in omega arith;
  raw = raw-even p;
  at = place-even news p x held;
  flags = flags-zero p.perms.0 (raw_of p == 0) load.perms;
}

gap-zeros : (base from to : ℕ) → base % 65536 ≡ 0 → base ≤ from → from % 4096 ≡ 0 → SectionZeros (103, filler_section base from to)
unfolding filler_section
gap-zeros base from to even room even_from = record { letter = omega arith; vaddr = omega arith; raw = refl; at = refl; flags = refl }

with-gap : (b : Bool) (base from to : ℕ) (named : List Named) → base % 65536 ≡ 0 → base ≤ from → from % 4096 ≡ 0 → SectionsZeros named → SectionsZeros ((if b then (103, filler_section base from to) ∷ [] else []) ++ named)
with-gap true base from to named even room even_from h = (gap-zeros base from to even room even_from, h)
with-gap false base from to named even room even_from h = h

pub sections-zeros : (base size low : ℕ) (news : List Area) (loads : List Load) (areas : List Area) → base % 65536 ≡ 0 → base ≤ low → low % 4096 ≡ 0 → AreLoads 4096 size low loads → ServeAll 4096 news loads areas
    → SectionsZeros (sections_behind base low loads areas)
sections-zeros base size low news [] areas even room even_low order held = tt
sections-zeros base size low news (p ∷ loads) [] even room even_low order held = tt
sections-zeros base size low news (p ∷ loads) (x ∷ areas) even room even_low order held =
    let n = rounded p.vaddr p.filesz p.memsz in
    let first = order.0.order in
    let sum = n.sum in let above = n.above in
    let to : ℕ = ceil_of (p.vaddr + p.memsz) 4096 in
    with-gap (nat_lt low (floor_of p.vaddr 4096)) base low (floor_of p.vaddr 4096) ((97, load_section base p x) ∷ sections_behind base to loads areas) even room even_low
    (load-zeros base size low news p x even (omega arith) order.0 held.0, sections-zeros base size to news loads areas even (omega arith) n.stop order.1 held.1)

pub sum-even : (test : Named → Bool) (named : List Named) → SectionsZeros named → raw_sum test named % 256 ≡ 0
sum-even test [] h = refl
sum-even test (s ∷ named) h =
    let rest = sum-even test named h.1 in
    let raw = h.0.raw in
    elim (cases_Bool (test s)) [
      | inl on ↦ rw on (let e : (s.1.raw + raw_sum test named) % 256 ≡ 0 = omega arith in e)
      | inr off ↦ rw off (let e : (0 + raw_sum test named) % 256 ≡ 0 = omega arith in e)
    ]

pub first-even : (named : List Named) → SectionsZeros named → first_code named % 256 ≡ 0
first-even [] h = refl
first-even (s ∷ named) h = elim (cases_Bool (is_code s)) [
  | inl on ↦ rw on h.0.vaddr
  | inr off ↦ rw off (first-even named h.1)
]
