use Rattle.ap_link.proofs.MachImageProof.{mach-is-same}
use Rattle.ap_link.proofs.image.mach_is_same.Goals as goal

pub returns : goal.returns
returns c = mach-is-same
