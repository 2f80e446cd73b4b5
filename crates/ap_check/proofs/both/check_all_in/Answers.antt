use Rattle.std.proofs.Common.{rules, ℕ, Result, Err, option_copied}
use Rattle.ap_check.specs.declared.end.CheckEnd.{CheckEnd}
use Rattle.ap_check.specs.declared.job.Job.{Job}
use Rattle.ap_check.specs.ImportRule.{ChecksTold}
use Rattle.ap_check.specs.Inputs.{inputs_of}
use Rattle.ap_check.specs.Mac.{system_rules}
use Rattle.ap_check.specs.Both.{taken_machines_rules, pair_rules}
use Rattle.ap_check.proofs.WaysOut.{way_out}
use Rattle.ap_check.proofs.WindowsLemmas.{told-later, told-end}
use Rattle.ap_check.proofs.both.check_all_in.Goals as goal

pub returns-in_err-base-clause-rules : goal.returns-in_err-base-clause-rules
returns-in_err-base-clause-rules g c =
    let old = g.F.Files.state c.args.files.now in
    let new = g.F.Files.state c.check_systems_in.new.files in
    let name = c.args.name.now in
    let options = c.args.options.now in
    let first = c.args.first.now in
    let second = option_copied c.args.second in
    let end = c.in_err-base.field-0.0 in
    let R : Result ℕ CheckEnd = Err end in
    way_out (ChecksTold old new name (pair_rules options first second)) c.from_residual-in_err-base.result end (search rules)
    (told-end ℕ Job old new name (pair_rules options first second) end
    (told-later ℕ old new name (taken_machines_rules first second) (system_rules options (inputs_of first second)) R c.in_ok-check_machines.ensures.rules c.in_err-base.ensures.rules))
