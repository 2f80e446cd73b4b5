use Rattle.ap_dispatch.proofs.LinkedDispatch.{linked_ends}
use Rattle.ap_dispatch.proofs.law.scripts_dispatch.Goals as goal

pub returns : goal.returns
returns c = linked_ends
