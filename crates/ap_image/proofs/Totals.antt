-- How many addresses regions have.
use Rattle.std.proofs.Common.{◌≡◌, ℕ, ◌+◌, ◌^◌, ◌≤◌, List, [], ◌∷◌, arith}
use Rattle.std.proofs.lemmas.List.Sums.{sum_by-cons}
use Rattle.ap_image.specs.declared.plan.Region.{Region}
use Rattle.ap_image.specs.Plans.{AreAscendingFrom, end_of}
use Rattle.ap_image.specs.ImageFiles.{total_of}

pub total_of-top : (low : ℕ) (regions : List Region) → AreAscendingFrom low regions → low + total_of regions ≤ 2 ^ 47
total_of-top low [] h = omega arith
total_of-top low (r ∷ regions) h =
    let from : low ≤ r.start = h.0 in
    let rest : end_of r + total_of regions ≤ 2 ^ 47 = total_of-top (end_of r) regions h.2 in
    let both : total_of (r ∷ regions) ≡ r.span + total_of regions = sum_by-cons (λ (q : Region). q.span) r regions in
    omega arith

pub ruleset total_steps = (total_of-top)
