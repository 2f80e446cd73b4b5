use Rattle.std.proofs.Common.{◌≡◌, List, ℕ, subst, sym}
use Rattle.ap_files.proofs.SliceLemmas.{slice_told}
use Rattle.ap_image.specs.Reading.{IsPlanOf}
use Rattle.ap_mach.specs.MachReading.{mach_reading}
use Rattle.ap_machmap.specs.MachPlans.{mach_plan}
use Rattle.ap_machmap.specs.Laws.{cells-mach}
use Rattle.ap_machmap.proofs.reading.MachReadingReading.read.Goals as goal

pub returns-clause-plan : goal.returns-clause-plan
returns-clause-plan c = slice_told c.in-Ok.ensures.read.1

pub returns-clause-image : goal.returns-clause-image
returns-clause-image c =
    let file : List ℕ = c.args.file.now in
    let plan : c.in-Ok.plan ≡ mach_plan file = slice_told c.in-Ok.ensures.read.1 in
    subst (λ p. IsPlanOf p file (mach_reading file)) (sym plan) (cells-mach file)
