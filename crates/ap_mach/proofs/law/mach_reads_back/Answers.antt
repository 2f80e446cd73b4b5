use Rattle.ap_mach.proofs.HeaderReads.{reads-back}
use Rattle.ap_mach.proofs.Protections.{segments-allow}
use Rattle.ap_mach.proofs.law.mach_reads_back.Goals as goal

pub returns-clause-reading : goal.returns-clause-reading
returns-clause-reading c = reads-back

pub returns-clause-perms : goal.returns-clause-perms
returns-clause-perms c = segments-allow
