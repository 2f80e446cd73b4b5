use Rattle.std.proofs.Common.{rules, ℕ, Result, Ok, Err, option_copied}
use Rattle.ap_check.specs.declared.fault.Fault.{Fault}
use Rattle.ap_check.specs.declared.end.CheckEnd.TheVariants.{Rule}
use Rattle.ap_check.specs.ImportRule.{ChecksTold}
use Rattle.ap_check.specs.Inputs.{inputs_of}
use Rattle.ap_check.specs.Windows.{windows_rules}
use Rattle.ap_check.specs.Mac.{mac_rules, system_rules}
use Rattle.ap_check.proofs.WaysOut.{way_out}
use Rattle.ap_check.proofs.WindowsLemmas.{told-before, told-behind}
use Rattle.ap_check.proofs.both.check_systems_in.Goals as goal

pub returns-in_err-base-clause-rules : goal.returns-in_err-base-clause-rules
returns-in_err-base-clause-rules g c =
    let old = g.F.Files.state c.args.files.now in
    let new = g.F.Files.state c.check_windows_in.new.files in
    let name = c.args.name.now in
    let options = c.args.options.now in
    let inputs = inputs_of c.args.first.now (option_copied c.args.second) in
    let end = c.in_err-base.field-0.0 in
    way_out (ChecksTold old new name (system_rules options inputs)) c.from_residual.result end (search rules)
    (told-before ℕ old new name (windows_rules options inputs) (mac_rules options inputs) end c.in_err-base.ensures.rules)

pub returns-in_err-check_mac-clause-rules : goal.returns-in_err-check_mac-clause-rules
returns-in_err-check_mac-clause-rules g c =
    let old = g.F.Files.state c.args.files.now in
    let new = g.F.Files.state c.check_windows_in.new.files in
    let name = c.args.name.now in
    let options = c.args.options.now in
    let inputs = inputs_of c.args.first.now (option_copied c.args.second) in
    let fault = c.in_err-check_mac.field-0.0 in
    let R : Result ℕ Fault = Err fault in
    way_out (ChecksTold old new name (system_rules options inputs)) c.from_residual-in_err-check_mac.result (Rule fault) (search rules)
    (told-behind ℕ ℕ old new name (windows_rules options inputs) (mac_rules options inputs) c.in_ok-base.base R c.in_ok-base.ensures.rules c.in_err-check_mac.ensures.rules)

pub returns-clause-rules : goal.returns-clause-rules
returns-clause-rules g c =
    let old = g.F.Files.state c.args.files.now in
    let new = g.F.Files.state c.check_windows_in.new.files in
    let options = c.args.options.now in
    let inputs = inputs_of c.args.first.now (option_copied c.args.second) in
    let R : Result ℕ Fault = Ok c.in_ok-base.base in
    told-behind ℕ ℕ old new c.args.name.now (windows_rules options inputs) (mac_rules options inputs) c.in_ok-base.base R c.in_ok-base.ensures.rules c.in_ok-check_mac.ensures.rules
