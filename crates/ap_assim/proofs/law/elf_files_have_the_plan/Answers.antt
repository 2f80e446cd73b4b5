use Rattle.ap_assim.proofs.Plans.{same_plan}
use Rattle.ap_assim.proofs.law.elf_files_have_the_plan.Goals as goal

-- src/law.rt:11:1
pub returns : goal.returns
returns c = same_plan
