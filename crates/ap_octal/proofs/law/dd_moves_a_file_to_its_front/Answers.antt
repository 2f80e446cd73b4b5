use Rattle.ap_octal.proofs.DdOntoItself.{onto_itself}
use Rattle.ap_octal.proofs.law.dd_moves_a_file_to_its_front.Goals as goal

pub returns : goal.returns
returns c = onto_itself
