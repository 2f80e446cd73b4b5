use Rattle.ap_link.proofs.LinkedImages.{elf-is-same}
use Rattle.ap_link.proofs.image.elf_is_same.Goals as goal

pub returns : goal.returns
returns c = elf-is-same
