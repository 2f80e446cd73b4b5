use Rattle.ap_mach.proofs.Framed.{reads-alike}
use Rattle.ap_mach.proofs.law.mach_reads_alike.Goals as goal

pub returns : goal.returns
returns c = reads-alike
