use Rattle.std.proofs.Common.{◌+◌, ◌^◌, ◌≤◌, ap, sym, subst, ◌∙◌, arith}
use Rattle.ap_image.specs.Plans.{Mapping, AreAscendingFrom, cell_in}
use Rattle.ap_trial.proofs.CellLemmas.{last-low, last-none}
use Rattle.ap_trial.proofs.cells.top.Goals as goal

pub overflow_add-result : goal.overflow_add-result
overflow_add-result c =
    let r = c.in-Some.r.now in
    let here = c.in-Some.ensures.item in
    let up = subst (AreAscendingFrom 0) (sym c.as_slice.ensures.value) c.plan.invariant in
    let low : r.start + r.span ≤ 2 ^ 47 = last-low c.as_slice.result.now r up here.3.0 here.1 in
    omega arith

pub returns-in-Some : goal.returns-in-Some
returns-in-Some c = λ byte a above.
    let r = c.in-Some.r.now in
    let here = c.in-Some.ensures.item in
    let up = subst (AreAscendingFrom 0) (sym c.as_slice.ensures.value) c.plan.invariant in
    let same = c.as_slice.ensures.value ∙ ap (λ (m : Mapping). m.regions) c.plan.view_is in
    ap (λ regions. cell_in byte regions a) (sym same) ∙ last-none byte c.as_slice.result.now r a up here.3.0 here.1 above
