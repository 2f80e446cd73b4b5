use Rattle.ap_shparse.proofs.JoinLemmas.{one_script}
use Rattle.ap_shparse.proofs.law.texts_have_one_script.Goals as goal

pub returns : goal.returns
returns c = one_script
