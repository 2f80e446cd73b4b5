use Rattle.ap_link.proofs.TakenStatements.{block-magic}
use Rattle.ap_link.proofs.law.blocks_have_magic.Goals as goal

pub returns : goal.returns
returns c = block-magic
