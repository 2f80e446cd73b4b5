use Rattle.std.proofs.Common.{rules}
use Rattle.ap_pe.proofs.Programs.{ranges-are}
use Rattle.ap_pe.proofs.windows.program.Goals as goal

pub table-requires : goal.table-requires
table-requires c = (ranges-are c.args.e.now c.args.base c.table_of-imports.result (search rules) c.requires.ready (search rules)).0

pub slots-requires : goal.slots-requires
slots-requires c = (ranges-are c.args.e.now c.args.base c.table_of-imports.result (search rules) c.requires.ready (search rules)).1
