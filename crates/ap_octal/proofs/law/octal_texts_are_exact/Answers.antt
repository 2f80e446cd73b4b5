use Rattle.ap_octal.proofs.OctalLemmas.{exact}
use Rattle.ap_octal.proofs.law.octal_texts_are_exact.Goals as goal

pub returns : goal.returns
returns c = exact
