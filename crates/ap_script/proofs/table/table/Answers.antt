use Rattle.std.proofs.Common.{ap, ◌∙◌, subst}
use Rattle.ap_elf.specs.Machines.{granule_of}
use Rattle.ap_check.specs.Inputs.{Meets}
use Rattle.ap_script.proofs.Fitting.{placed-input}
use Rattle.ap_script.proofs.table.table.Goals as goal

pub push_loads-requires-clause-placed : goal.push_loads-requires-clause-placed
push_loads-requires-clause-placed c =
    let e = c.input.view_is in
    placed-input c.args.input.now c.granule-granule.result c.deref.result.now c.args.areas.now (subst Meets e c.input.invariant) c.requires.same c.requires.places
    (c.granule-granule.ensures ∙ ap (λ i. granule_of i.machine) e) (c.deref.ensures.0 ∙ ap (λ i. i.loads) e)

pub push_notes-requires-clause-placed : goal.push_notes-requires-clause-placed
push_notes-requires-clause-placed c =
    let e = c.input.view_is in
    placed-input c.args.input.now c.granule-granule.result c.deref-2.result.now c.args.areas.now (subst Meets e c.input.invariant) c.requires.same c.requires.places
    (c.granule-granule.ensures ∙ ap (λ i. granule_of i.machine) e) (c.deref-2.ensures.0 ∙ ap (λ i. i.loads) e)

pub push_tls-requires-clause-placed : goal.push_tls-requires-clause-placed
push_tls-requires-clause-placed c =
    let e = c.input.view_is in
    placed-input c.args.input.now c.granule-granule.result c.deref-4.result.now c.args.areas.now (subst Meets e c.input.invariant) c.requires.same c.requires.places
    (c.granule-granule.ensures ∙ ap (λ i. granule_of i.machine) e) (c.deref-4.ensures.0 ∙ ap (λ i. i.loads) e)
