use Rattle.ap_elf.specs.Machines.{number_of}
use Rattle.ap_elfmap.specs.Laws.{page-granule}
use Rattle.ap_files.proofs.SliceLemmas.{slice_told}
use Rattle.ap_loader.proofs.HeaderPlans.{plan-image}
use Rattle.ap_loader.proofs.reading.ApeReadingReading.read.Goals as goal

pub returns-clause-plan : goal.returns-clause-plan
returns-clause-plan c = slice_told c.in-Ok.ensures.read.1

pub returns-clause-image : goal.returns-clause-image
returns-clause-image c =
    let r = c.args.self.now in
    plan-image (number_of r.machine) r.page c.args.file.now c.in-Ok.plan (page-granule r.machine r.page c.requires) (slice_told c.in-Ok.ensures.read.1)
