use Rattle.ap_script.proofs.TableZeros.{body-zeros}
use Rattle.ap_script.proofs.law.bodies_hold_zeros.Goals as goal

pub returns : goal.returns
returns c = body-zeros
