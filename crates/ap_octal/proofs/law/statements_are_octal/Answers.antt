use Rattle.ap_octal.proofs.OctalLemmas.{octal-octals}
use Rattle.ap_octal.proofs.law.statements_are_octal.Goals as goal

pub returns : goal.returns
returns c = octal-octals
