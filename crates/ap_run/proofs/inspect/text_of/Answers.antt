use Rattle.std.proofs.Common.{subst}
use Rattle.ap_run.specs.Inspected.{ReportsTo}
use Rattle.ap_run.specs.Whole.{MakesOf}
use Rattle.ap_run.proofs.ReadWhole.{whole-unread, whole-read}
use Rattle.ap_run.proofs.inspect.text_of.Goals as goal

pub returns-in-Ok : goal.returns-in-Ok
returns-in-Ok g c =
    whole-read (g.F.Files.state c.args.files.now) (g.F.Files.state c.fetch.new.files) ReportsTo c.args.name.now c.in-Ok.file c.told.result c.in-Ok.ensures
    (subst (λ bytes. MakesOf ReportsTo bytes c.told.result) c.deref.ensures.value c.told.ensures)

pub returns-in-Err : goal.returns-in-Err
returns-in-Err g c =
    whole-unread (g.F.Files.state c.args.files.now) (g.F.Files.state c.fetch.new.files) ReportsTo c.args.name.now c.in-Err.cause c.in-Err.ensures
