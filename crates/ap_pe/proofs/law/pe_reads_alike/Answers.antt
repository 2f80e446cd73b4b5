use Rattle.ap_pe.proofs.Framed.{reads-alike}
use Rattle.ap_pe.proofs.law.pe_reads_alike.Goals as goal

pub returns : goal.returns
returns c = reads-alike
