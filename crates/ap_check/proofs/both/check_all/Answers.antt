use Rattle.std.proofs.Common.{Result, Ok, Err, option_copied}
use Rattle.ap_check.specs.declared.fault.Fault.{Fault}
use Rattle.ap_check.specs.declared.job.Job.{Job}
use Rattle.ap_files.proofs.SliceLemmas.{slice_told}
use Rattle.ap_check.proofs.Pairs.{checks-both}
use Rattle.ap_check.proofs.WindowsLemmas.{sized-slice}
use Rattle.ap_check.proofs.both.check_all.Goals as goal

pub check_all_in-requires-clause-size : goal.check_all_in-requires-clause-size
check_all_in-requires-clause-size c = sized-slice _ c.args.bytes.now c.requires.size

pub returns-in-Ok-clause-rules : goal.returns-in-Ok-clause-rules
returns-in-Ok-clause-rules c = slice_told c.in-Ok.ensures.rules.1

pub returns-in-Ok-clause-bytes : goal.returns-in-Ok-clause-bytes
returns-in-Ok-clause-bytes c a b are is =
    checks-both c.args.options.now a b c.args.first.now (option_copied c.args.second) c.args.bytes.now (Ok c.in-Ok.job) are is (slice_told c.in-Ok.ensures.rules.1)

pub returns-in-Err-Rule-clause-rules : goal.returns-in-Err-Rule-clause-rules
returns-in-Err-Rule-clause-rules c = slice_told (rw c.in-Err-Rule.field-0-is at c.in-Err-Rule.ensures.rules).1

pub returns-in-Err-Rule-clause-bytes : goal.returns-in-Err-Rule-clause-bytes
returns-in-Err-Rule-clause-bytes c a b are is =
    let R : Result Job Fault = Err c.in-Err-Rule.fault in
    checks-both c.args.options.now a b c.args.first.now (option_copied c.args.second) c.args.bytes.now R are is (slice_told (rw c.in-Err-Rule.field-0-is at c.in-Err-Rule.ensures.rules).1)
