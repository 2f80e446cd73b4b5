use Rattle.ap_trial.proofs.OneSummary.{summary-once}
use Rattle.ap_trial.proofs.law.trials_have_one_summary.Goals as goal

pub returns : goal.returns
returns c = summary-once
