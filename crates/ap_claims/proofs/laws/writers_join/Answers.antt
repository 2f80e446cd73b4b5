use Rattle.ap_claims.proofs.Writers.{are-writers}
use Rattle.ap_claims.proofs.laws.writers_join.Goals as goal

pub returns : goal.returns
returns c = are-writers
