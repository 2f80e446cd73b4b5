use Rattle.ap_claims.proofs.Clashes.{claims-exact}
use Rattle.ap_claims.proofs.laws.claims_are_exact.Goals as goal

pub returns : goal.returns
returns c = claims-exact
