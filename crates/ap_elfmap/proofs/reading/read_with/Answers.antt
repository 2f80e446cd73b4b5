use Rattle.std.proofs.Common.{◌≡◌, List, ℕ, length, subst, sym}
use Rattle.ap_fields.specs.Bytes.{over}
use Rattle.ap_fields.specs.Readings.{bytes_in}
use Rattle.ap_files.proofs.SliceLemmas.{slice_told}
use Rattle.ap_elf.specs.Fields.{header_of, entries_of}
use Rattle.ap_elf.specs.ElfReading.{elf_reading_by}
use Rattle.ap_elf.specs.Machines.{number_of}
use Rattle.ap_image.specs.Reading.{IsPlanOf}
use Rattle.ap_elfmap.specs.ElfPlans.{elf_plan_by}
use Rattle.ap_elfmap.specs.Laws.{page-granule, cells-by}
use Rattle.ap_elfmap.proofs.reading.read_with.Goals as goal

pub returns-clause-plan : goal.returns-clause-plan
returns-clause-plan c = slice_told c.in-Ok.ensures.read.1

-- the plan is the definition's, so it shows what the definition says
pub returns-clause-image : goal.returns-clause-image
returns-clause-image c =
    let m = number_of c.args.machine in
    let file : List ℕ = c.args.file.now in
    let whole : List ℕ = over file c.args.header.now in
    let plan : c.in-Ok.plan ≡ elf_plan_by m c.args.page (length file) (header_of whole) (entries_of whole) = slice_told c.in-Ok.ensures.read.1 in
    subst (λ p. IsPlanOf p file (elf_reading_by m c.args.page (length file) (header_of whole) (entries_of whole) (bytes_in file))) (sym plan)
    (cells-by m c.args.page (header_of whole) (entries_of whole) file (page-granule c.args.machine c.args.page c.requires))
