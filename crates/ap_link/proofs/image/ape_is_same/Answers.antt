use Rattle.ap_link.proofs.LinkedImages.{ape-is-same}
use Rattle.ap_link.proofs.image.ape_is_same.Goals as goal

pub returns : goal.returns
returns c = ape-is-same
