use Rattle.std.proofs.Common.{subst}
use Rattle.ap_run.specs.Scripted.{Scripted}
use Rattle.ap_run.specs.ScriptRuns.{script_run}
use Rattle.ap_run.specs.Shows.{Printed}
use Rattle.ap_run.proofs.Showing.{ends-printed, ends-bare}
use Rattle.ap_run.proofs.script.script.Goals as goal

pub returns-in-Ok : goal.returns-in-Ok
returns-in-Ok g c =
    let before = g.O.Sink.state c.args.out.now in
    let after = g.O.Sink.state c.print_text.new.out in
    ends-printed (g.F.Files.state c.args.files.now) (g.F.Files.state c.text_of.new.files) before after (Scripted (script_run c.args.run.now)) c.args.run.now.file.now c.in-Ok.text.items c.print_text.result c.in-Ok.ensures
    (subst (λ text. Printed before after text c.print_text.result) c.deref.ensures.value c.print_text.ensures)

pub returns-in-Err : goal.returns-in-Err
returns-in-Err g c =
    ends-bare (g.F.Files.state c.args.files.now) (g.F.Files.state c.text_of.new.files) (g.O.Sink.state c.args.out.now) (Scripted (script_run c.args.run.now)) c.args.run.now.file.now c.in-Err.cause c.in-Err.ensures
