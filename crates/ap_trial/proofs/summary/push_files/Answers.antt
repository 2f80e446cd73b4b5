use Rattle.ap_trial.specs.Summaries.{file_lines}
use Rattle.ap_trial.proofs.LineLemmas.{four-lines}
use Rattle.ap_trial.proofs.summary.push_files.Goals as goal

pub returns : goal.returns
unfolding file_lines
returns c = four-lines _ _ _ _ _ _ _ _ _ _ c.in_ok-push_size.ensures c.in_ok-push_size-2.ensures c.in_ok-push_size-3.ensures c.push_fold.ensures
