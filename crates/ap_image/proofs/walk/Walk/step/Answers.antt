use Rattle.ap_image.proofs.WalkLemmas.{has_next, walks-on-seen, step-item-seen, step-done-seen, step-fault-seen}
use Rattle.ap_image.proofs.walk.Walk.step.Goals as goal

pub invariant_of-self : goal.invariant_of-self
invariant_of-self g c =
    let next = c.in-Ok-Some in
    walks-on-seen _ _ next.item c.self.view_is c.self.invariant (has_next _ next.field-0 next.item next.field-0-is next.ensures.item)

pub returns-in-Ok-Some-clause-step : goal.returns-in-Ok-Some-clause-step
returns-in-Ok-Some-clause-step g c =
    let next = c.in-Ok-Some in
    step-item-seen (g.C.Cells.state c.args.cells.now) (g.C.Cells.state c.next.new.cells) _ _ next.field-0 next.item c.self.view_is next.field-0-is c.in_default.not-Some
    (has_next _ next.field-0 next.item next.field-0-is next.ensures.item) next.ensures.next.0 next.ensures.next.1

pub returns-in-Ok-None-clause-step : goal.returns-in-Ok-None-clause-step
returns-in-Ok-None-clause-step g c =
    let next = c.in-Ok-None in
    step-done-seen (g.C.Cells.state c.args.cells.now) (g.C.Cells.state c.next.new.cells) _ _ next.field-0 c.self.view_is next.field-0-is c.in_default.not-Some next.ensures.next.0 next.ensures.next.1

pub returns-in-Err-Fault-clause-step : goal.returns-in-Err-Fault-clause-step
returns-in-Err-Fault-clause-step g c =
    let next = c.in-Err-Fault in
    step-fault-seen (g.C.Cells.state c.args.cells.now) (g.C.Cells.state c.next.new.cells) _ _ next.field-0 next.fault c.self.view_is next.field-0-is c.in_default.not-Some next.ensures.next
