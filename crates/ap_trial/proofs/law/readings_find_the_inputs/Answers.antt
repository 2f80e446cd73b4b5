use Rattle.ap_trial.proofs.InputsFound.{inputs-found}
use Rattle.ap_trial.proofs.law.readings_find_the_inputs.Goals as goal

pub returns : goal.returns
returns c = inputs-found
