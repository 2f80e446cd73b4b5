use Rattle.ap_files.proofs.SliceLemmas.{slice_told}
use Rattle.ap_pe.proofs.slice.read_pe.Goals as goal

pub returns : goal.returns
returns c = slice_told c.in-Ok.ensures.read.1
