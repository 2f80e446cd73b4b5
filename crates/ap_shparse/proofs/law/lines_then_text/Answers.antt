use Rattle.ap_shparse.proofs.JoinLemmas.{lines_then}
use Rattle.ap_shparse.proofs.law.lines_then_text.Goals as goal

pub returns : goal.returns
returns c = lines_then
