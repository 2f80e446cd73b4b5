use Rattle.ap_trial.proofs.InputPairs.{pair-passes}
use Rattle.ap_trial.proofs.law.inputs_meet_the_rules.Goals as goal

pub returns : goal.returns
returns c = pair-passes
