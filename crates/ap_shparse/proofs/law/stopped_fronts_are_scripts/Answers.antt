use Rattle.ap_shparse.proofs.JoinLemmas.{stopped_then}
use Rattle.ap_shparse.proofs.law.stopped_fronts_are_scripts.Goals as goal

pub returns : goal.returns
returns c = stopped_then
