use Rattle.std.proofs.Common.{◌≡◌, List, ℕ, subst, sym}
use Rattle.ap_files.proofs.SliceLemmas.{slice_told}
use Rattle.ap_pe.specs.PeReading.{pe_reading}
use Rattle.ap_image.specs.Reading.{IsPlanOf}
use Rattle.ap_pemap.specs.PePlans.{pe_plan}
use Rattle.ap_pemap.specs.Laws.{cells-pe}
use Rattle.ap_pemap.proofs.reading.PeReadingReading.read.Goals as goal

pub returns-clause-plan : goal.returns-clause-plan
returns-clause-plan c = slice_told c.in-Ok.ensures.read.1

pub returns-clause-image : goal.returns-clause-image
returns-clause-image c =
    let file : List ℕ = c.args.file.now in
    let plan : c.in-Ok.plan ≡ pe_plan file = slice_told c.in-Ok.ensures.read.1 in
    subst (λ p. IsPlanOf p file (pe_reading file)) (sym plan) (cells-pe file)
