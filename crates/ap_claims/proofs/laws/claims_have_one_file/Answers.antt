use Rattle.ap_claims.proofs.OneFile.{claims-agree, files-made, files-one}
use Rattle.ap_claims.proofs.Unclashed.{files-pass}
use Rattle.ap_claims.proofs.laws.claims_have_one_file.Goals as goal

pub returns-clause-one : goal.returns-clause-one
returns-clause-one c = files-one

pub returns-clause-made : goal.returns-clause-made
returns-clause-made c = files-made

pub returns-clause-agree : goal.returns-clause-agree
returns-clause-agree c = claims-agree

pub returns-clause-free : goal.returns-clause-free
returns-clause-free c = files-pass
