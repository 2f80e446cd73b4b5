use Rattle.std.proofs.Common.{subst}
use Rattle.ap_run.specs.Shows.{Printed}
use Rattle.ap_run.proofs.Trying.{trial-printed}
use Rattle.ap_run.proofs.trial.trial.Goals as goal

pub returns-in-Ok : goal.returns-in-Ok
returns-in-Ok g c =
    let before = g.O.Sink.state c.args.out.now in
    let after = g.O.Sink.state c.print_text.new.out in
    trial-printed before after c.args.number c.args.pages c.in-Ok.text.items c.print_text.result c.in-Ok.ensures
    (subst (λ text. Printed before after text c.print_text.result) c.deref.ensures.value c.print_text.ensures)
