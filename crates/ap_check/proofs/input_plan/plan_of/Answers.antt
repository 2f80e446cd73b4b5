use Rattle.std.proofs.Common.{◌∙◌, List, map, sym, ap, subst}
use Rattle.ap_image.specs.declared.plan.Region.{Region}
use Rattle.ap_image.specs.Plans.{AreAscendingFrom, AreBacked}
use Rattle.ap_image.specs.PlanCells.{shown_by}
use Rattle.ap_elf.specs.Machines.{granule_of}
use Rattle.ap_check.specs.Inputs.{Taken}
use Rattle.ap_check.specs.InputPlans.{region_of}
use Rattle.ap_check.proofs.ImportLemmas.{regions-ascend, regions-backed, regions-show}
use Rattle.ap_check.proofs.input_plan.plan_of.Goals as goal

pub invariant_of-result : goal.invariant_of-result
invariant_of-result c =
    let i = c.input.inside in
    subst (AreAscendingFrom 0) (ap (map region_of) (sym c.as_slice.ensures.value) ∙ sym c.regions.ensures) (regions-ascend i.machine i.size i.loads.items c.input.invariant.loads)

pub returns-clause-backed : goal.returns-clause-backed
returns-clause-backed c =
    let i = c.input.inside in
    let size = ap (λ (t : Taken). t.size) c.input.view_is in
    subst (λ size. AreBacked c.regions.result.items size) size
    (subst (λ regions. AreBacked regions i.size) (ap (map region_of) (sym c.as_slice.ensures.value) ∙ sym c.regions.ensures)
    (regions-backed (granule_of i.machine) i.size 0 i.loads.items c.input.invariant.loads))

pub returns-clause-bytes : goal.returns-clause-bytes
returns-clause-bytes c = λ byte a.
    ap (λ (regions : List Region). shown_by byte regions a) (c.regions.ensures ∙ ap (map region_of) (c.as_slice.ensures.value ∙ ap (λ (t : Taken). t.loads) c.input.view_is))
    ∙ regions-show byte c.args.input.now.loads a
