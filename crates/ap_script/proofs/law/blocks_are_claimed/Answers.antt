use Rattle.ap_script.proofs.Claimed.{block-claimed}
use Rattle.ap_script.proofs.law.blocks_are_claimed.Goals as goal

pub returns : goal.returns
returns c = block-claimed
