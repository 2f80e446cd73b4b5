use Rattle.ap_elf.proofs.ReadBack.{tables-read_back}
use Rattle.ap_elf.proofs.write.tables_are_read_back.Goals as goal

pub returns : goal.returns
returns c = tables-read_back
