use Rattle.ap_inspect.proofs.OneReport.{one-report}
use Rattle.ap_inspect.proofs.law.files_have_one_report.Goals as goal

pub returns : goal.returns
returns c = one-report
