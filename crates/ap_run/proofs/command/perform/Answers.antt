use Rattle.ap_run.proofs.Perform.{script-ends, assimilate-ends, inspect-ends}
use Rattle.ap_run.proofs.Trying.{trial-ends, trial-within}
use Rattle.ap_run.proofs.command.perform.Goals as goal

pub returns-in-Script : goal.returns-in-Script
returns-in-Script g c =
    script-ends (g.F.Files.state c.args.files.now) (g.F.Files.state c.script.new.files) (g.O.Sink.state c.args.out.now) (g.O.Sink.state c.script.new.out) c.args.command.now
    c.in-Script.system c.in-Script.machine c.in-Script.file c.as_str-in-Script.result.now c.as_str-in-Script-2.result.now c.as_str-in-Script-3.result.now c.in-Script.ape c.in-Script.nul c.script.result
    c.in-Script.is c.as_str-in-Script.ensures c.as_str-in-Script-2.ensures c.as_str-in-Script-3.ensures c.script.ensures

pub returns-in-Assimilate : goal.returns-in-Assimilate
returns-in-Assimilate g c =
    assimilate-ends (g.F.Files.state c.args.files.now) (g.F.Files.state c.assimilate.new.files) (g.O.Sink.state c.args.out.now) c.args.command.now c.in-Assimilate.form c.in-Assimilate.machine c.in-Assimilate.name c.in-Assimilate.file
    c.as_str-in-Assimilate-2.result.now c.as_str-in-Assimilate.result.now c.assimilate.result c.in-Assimilate.is c.as_str-in-Assimilate.ensures c.as_str-in-Assimilate-2.ensures c.assimilate.ensures

pub returns-in-Inspect : goal.returns-in-Inspect
returns-in-Inspect g c =
    inspect-ends (g.F.Files.state c.args.files.now) (g.F.Files.state c.inspect.new.files) (g.O.Sink.state c.args.out.now) (g.O.Sink.state c.inspect.new.out) c.args.command.now c.in-Inspect.file
    c.as_str-in-Inspect.result.now c.inspect.result c.in-Inspect.is c.as_str-in-Inspect.ensures c.inspect.ensures

pub trial-requires-clause-least : goal.trial-requires-clause-least
trial-requires-clause-least g c = (trial-within c.args.command.now c.in-Trial.number c.in-Trial.pages c.in-Trial.is c.requires).0

pub trial-requires-clause-most : goal.trial-requires-clause-most
trial-requires-clause-most g c = (trial-within c.args.command.now c.in-Trial.number c.in-Trial.pages c.in-Trial.is c.requires).1

pub returns-in-Trial : goal.returns-in-Trial
returns-in-Trial g c =
    trial-ends (g.F.Files.state c.args.files.now) (g.O.Sink.state c.args.out.now) (g.O.Sink.state c.trial.new.out) c.args.command.now c.in-Trial.number c.in-Trial.pages c.trial.result c.in-Trial.is c.trial.ensures
