-- Sums over sections.
use Rattle.std.proofs.Common.{ℕ, ◌+◌, ◌^◌, ◌≤◌, ◌==◌, Bool, true, false, if◌then◌else◌, nat_lt, List, [], ◌∷◌, ◌++◌, inl, inr, arith}
use Rattle.std.proofs.lemmas.Bool.{cases_Bool}
use Rattle.ap_fields.specs.Granules.{floor_of, ceil_of}
use Rattle.ap_check.specs.declared.load.Load.{Load}
use Rattle.ap_layout.specs.declared.layout.Area.{Area}
use Rattle.ap_pe.specs.Sections.{Named, Fit, raw_of, load_section, filler_section, sections_behind}
use Rattle.ap_pe.specs.Written.{raw_sum}
use Rattle.ap_pe.proofs.Fitting.{fit-end}
use Rattle.ap_pe.proofs.Rounding.{rounded}

one-more : (b : Bool) (raw rest : ℕ) → (if b then raw else 0) + rest ≤ raw + rest
one-more true raw rest = omega arith
one-more false raw rest = omega arith

-- what a load's section shows lies in the load's granules
raw-within : (p : Load) → p.filesz ≤ p.memsz → floor_of p.vaddr 4096 + raw_of p ≤ ceil_of (p.vaddr + p.memsz) 4096
raw-within p sizes =
    let n = rounded p.vaddr p.filesz p.memsz in
    let sum = n.sum in let above = n.above in let most = n.raw_most in let inside = n.raw_within sizes in
    elim (cases_Bool (p.filesz == 0)) [
      | inl none ↦ rw none (omega arith)
      | inr some ↦ rw some (omega arith)
    ]

with-filler : (b : Bool) (test : Named → Bool) (base end to : ℕ) (named : List Named) → raw_sum test ((if b then (103, filler_section base end to) ∷ [] else []) ++ named) ≤ raw_sum test named
unfolding filler_section
with-filler true test base end to named = let m = one-more (test (103, filler_section base end to)) 0 (raw_sum test named) in omega arith
with-filler false test base end to named = omega arith

-- sections show no more bytes of the file than they have addresses
pub sum-within : (test : Named → Bool) (base end : ℕ) (loads : List Load) (areas : List Area) → Fit base end loads → end + raw_sum test (sections_behind base end loads areas) ≤ base + 2 ^ 31
unfolding load_section
sum-within test base end [] areas fit = let h : end ≤ base + 2 ^ 31 = fit in omega arith
sum-within test base end (p ∷ loads) [] fit = let h = fit-end base end (p ∷ loads) fit in omega arith
sum-within test base end (p ∷ loads) (x ∷ areas) fit =
    let to : ℕ = ceil_of (p.vaddr + p.memsz) 4096 in
    let rest = sum-within test base to loads areas fit.2 in
    let raw = raw-within p fit.1 in
    let first = fit.0 in
    let filled = with-filler (nat_lt end (floor_of p.vaddr 4096)) test base end (floor_of p.vaddr 4096) ((97, load_section base p x) ∷ sections_behind base to loads areas) in
    let one = one-more (test (97, load_section base p x)) (raw_of p) (raw_sum test (sections_behind base to loads areas)) in
    omega arith

-- .. so that their sums fit in a field
pub sum-behind : (test : Named → Bool) (base : ℕ) (loads : List Load) (areas : List Area) → Fit base (base + 8192) loads → raw_sum test (sections_behind base (base + 8192) loads areas) ≤ 2 ^ 31
sum-behind test base loads areas fit = let h = sum-within test base (base + 8192) loads areas fit in omega arith
