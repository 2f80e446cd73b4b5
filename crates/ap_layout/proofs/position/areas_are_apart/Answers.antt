use Rattle.ap_layout.proofs.Fitting.{fitting-apart}
use Rattle.ap_layout.proofs.position.areas_are_apart.Goals as goal

pub returns : goal.returns
returns c = fitting-apart
