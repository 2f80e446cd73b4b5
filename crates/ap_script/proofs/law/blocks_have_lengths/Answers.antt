use Rattle.std.proofs.Common.{arith}
use Rattle.ap_script.proofs.BlockParts.{length-body, length-text, length-block}
use Rattle.ap_script.proofs.law.blocks_have_lengths.Goals as goal

pub returns-clause-body : goal.returns-clause-body
returns-clause-body c = length-body

pub returns-clause-text : goal.returns-clause-text
returns-clause-text c = λ options inputs l fits. let long = length-text options inputs l fits in omega arith

pub returns-clause-block : goal.returns-clause-block
returns-clause-block c = length-block
