use Rattle.std.proofs.Common.{◌≡◌, List, ℕ, subst, sym}
use Rattle.ap_files.proofs.SliceLemmas.{slice_told}
use Rattle.ap_elf.specs.Fields.{header_of, entries_of}
use Rattle.ap_elf.specs.ElfReading.{elf_reading}
use Rattle.ap_elf.specs.Machines.{number_of}
use Rattle.ap_image.specs.Reading.{IsPlanOf}
use Rattle.ap_elfmap.specs.ElfPlans.{elf_plan}
use Rattle.ap_elfmap.specs.Laws.{page-granule, cells-by}
use Rattle.ap_elfmap.proofs.reading.ElfReadingReading.read.Goals as goal

pub returns-clause-plan : goal.returns-clause-plan
returns-clause-plan c = slice_told c.in-Ok.ensures.read.1

pub returns-clause-image : goal.returns-clause-image
returns-clause-image c =
    let r = c.args.self.now in
    let file : List ℕ = c.args.file.now in
    let plan : c.in-Ok.plan ≡ elf_plan (number_of r.machine) r.page file = slice_told c.in-Ok.ensures.read.1 in
    subst (λ p. IsPlanOf p file (elf_reading (number_of r.machine) r.page file)) (sym plan)
    (cells-by (number_of r.machine) r.page (header_of file) (entries_of file) file (page-granule r.machine r.page c.requires))
