use Rattle.ap_script.proofs.BlockParts.{block-begins, block-body, block-tables}
use Rattle.ap_script.proofs.law.blocks_hold_tables.Goals as goal

pub returns-clause-begins : goal.returns-clause-begins
returns-clause-begins c = block-begins

pub returns-clause-body : goal.returns-clause-body
returns-clause-body c = block-body

pub returns-clause-tables : goal.returns-clause-tables
returns-clause-tables c = block-tables
