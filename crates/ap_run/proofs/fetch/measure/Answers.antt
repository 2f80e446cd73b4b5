use Rattle.std.proofs.Common.{arith}
use Rattle.ap_files.proofs.ReadLemmas.{size_unread}
use Rattle.ap_run.proofs.Fetching.{too-large, small-enough}
use Rattle.ap_run.proofs.fetch.measure.Goals as goal

pub returns-in-Err : goal.returns-in-Err
returns-in-Err g c =
    size_unread (g.F.Files.state c.args.files.now) (g.F.Files.state c.size.new.self) c.args.name.now c.in-Err.field-0 c.in-Err.ensures

pub returns-then-size-gt-MOST : goal.returns-then-size-gt-MOST
returns-then-size-gt-MOST g c =
    too-large (g.F.Files.state c.args.files.now) (g.F.Files.state c.size.new.self) c.args.name.now c.in-Ok.size c.in-Ok.ensures (omega arith)

pub returns : goal.returns
returns g c =
    small-enough (g.F.Files.state c.args.files.now) (g.F.Files.state c.size.new.self) c.args.name.now c.in-Ok.size c.in-Ok.ensures (omega arith)
