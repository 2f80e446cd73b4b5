use Rattle.std.proofs.Common.{Ok, Err}
use Rattle.ap_run.proofs.Planning.{plans-unmeasured, is-planned}
use Rattle.ap_run.proofs.planned.plan_of.Goals as goal

pub returns-in-Err-clause-plan : goal.returns-in-Err-clause-plan
returns-in-Err-clause-plan g c =
    plans-unmeasured (g.F.Files.state c.args.files.now) (g.F.Files.state c.measure.new.files) c.args.format.now c.args.name.now c.in-Err.cause c.in-Err.ensures

pub returns-in-Ok-Ok-clause-plan : goal.returns-in-Ok-Ok-clause-plan
returns-in-Ok-Ok-clause-plan g c =
    let planned = is-planned (g.F.Files.state c.args.files.now) (g.F.Files.state c.measure.new.files) (g.F.Files.state c.plan_in.new.files) c.args.format.now c.args.name.now c.in-Ok.size
    c.in-Ok-Ok.field-0 (Ok c.in-Ok-Ok.plan) c.in-Ok.ensures c.in-Ok-Ok.ensures.read c.in-Ok-Ok.field-0-is in
    (planned.0, c.in-Ok.ensures.2, planned.1)

pub returns-in-Ok-Err-clause-plan : goal.returns-in-Ok-Err-clause-plan
returns-in-Ok-Err-clause-plan g c =
    is-planned (g.F.Files.state c.args.files.now) (g.F.Files.state c.measure.new.files) (g.F.Files.state c.plan_in.new.files) c.args.format.now c.args.name.now c.in-Ok.size
    c.in-Ok-Err.field-0 (Err c.in-Ok-Err.fault) c.in-Ok.ensures c.in-Ok-Err.ensures.read c.in-Ok-Err.field-0-is
