use Rattle.ap_claims.proofs.Filled.{claims-fill}
use Rattle.ap_claims.proofs.laws.claims_fill_a_block.Goals as goal

pub returns : goal.returns
returns c = claims-fill
