use Rattle.ap_files.proofs.SliceLemmas.{slice_told}
use Rattle.ap_run.proofs.planned.plan_over.Goals as goal

pub returns-clause-plan : goal.returns-clause-plan
returns-clause-plan c = slice_told c.in-Ok.ensures.read.1
