use Rattle.ap_trial.specs.Summaries.{x64_lines}
use Rattle.ap_trial.proofs.LineLemmas.{four-lines}
use Rattle.ap_trial.proofs.summary.push_x64.Goals as goal

pub returns : goal.returns
unfolding x64_lines
returns c = four-lines _ _ _ _ _ _ _ _ _ _ c.in_ok-push_fold.ensures c.in_ok-push_fold-2.ensures c.in_ok-push_fold-3.ensures c.push_fold-4.ensures
