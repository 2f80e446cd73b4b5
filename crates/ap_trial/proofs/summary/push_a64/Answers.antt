use Rattle.ap_trial.specs.Summaries.{a64_lines}
use Rattle.ap_trial.proofs.LineLemmas.{three-lines}
use Rattle.ap_trial.proofs.summary.push_a64.Goals as goal

pub returns : goal.returns
unfolding a64_lines
returns c = three-lines _ _ _ _ _ _ _ _ c.in_ok-push_fold.ensures c.in_ok-push_fold-2.ensures c.push_fold-3.ensures
