use Rattle.ap_shparse.proofs.JoinLemmas.{unstopped_is}
use Rattle.ap_shparse.proofs.law.whole_fronts_are_scripts.Goals as goal

pub returns : goal.returns
returns c = unstopped_is
