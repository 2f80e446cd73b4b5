use Rattle.ap_octal.proofs.DdOntoItself.{past_end}
use Rattle.ap_octal.proofs.law.dd_past_the_end_does_nothing.Goals as goal

pub returns : goal.returns
returns c = past_end
