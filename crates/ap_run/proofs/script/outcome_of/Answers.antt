use Rattle.std.proofs.Common.{rules}
use Rattle.ap_run.specs.ScriptRuns.{script_run}
use Rattle.ap_run.proofs.Scripts.{no-memory, answered}
use Rattle.ap_run.proofs.script.outcome_of.Goals as goal

pub returns-in_err-env : goal.returns-in_err-env
returns-in_err-env c = no-memory (script_run c.args.run.now) c.args.file.now c.from_residual.result (search rules)

pub returns-in_err-host : goal.returns-in_err-host
returns-in_err-host c = no-memory (script_run c.args.run.now) c.args.file.now c.from_residual-in_err-host.result (search rules)

pub returns : goal.returns
returns c =
    answered (script_run c.args.run.now) c.args.file.now c.in_ok-env.env c.in_ok-host.host c.run_script.new.host c.run_script.result c.in_ok-env.ensures c.in_ok-host.ensures c.run_script.ensures
