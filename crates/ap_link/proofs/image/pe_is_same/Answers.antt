use Rattle.ap_link.proofs.PeImageProof.{pe-is-same}
use Rattle.ap_link.proofs.image.pe_is_same.Goals as goal

pub returns : goal.returns
returns c = pe-is-same
