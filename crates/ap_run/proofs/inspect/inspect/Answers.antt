use Rattle.std.proofs.Common.{subst}
use Rattle.ap_run.specs.Inspected.{Inspected}
use Rattle.ap_run.specs.Shows.{Printed}
use Rattle.ap_run.proofs.Showing.{ends-printed, ends-bare}
use Rattle.ap_run.proofs.inspect.inspect.Goals as goal

pub returns-in-Ok : goal.returns-in-Ok
returns-in-Ok g c =
    let before = g.O.Sink.state c.args.out.now in
    let after = g.O.Sink.state c.print_text.new.out in
    ends-printed (g.F.Files.state c.args.files.now) (g.F.Files.state c.text_of.new.files) before after Inspected c.args.name.now c.in-Ok.text.items c.print_text.result c.in-Ok.ensures
    (subst (λ text. Printed before after text c.print_text.result) c.deref.ensures.value c.print_text.ensures)

pub returns-in-Err : goal.returns-in-Err
returns-in-Err g c =
    ends-bare (g.F.Files.state c.args.files.now) (g.F.Files.state c.text_of.new.files) (g.O.Sink.state c.args.out.now) Inspected c.args.name.now c.in-Err.cause c.in-Err.ensures
