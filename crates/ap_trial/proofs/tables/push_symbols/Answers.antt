use Rattle.ap_trial.specs.TrialInputs.{symbols_text}
use Rattle.ap_trial.proofs.LineLemmas.{three-lines}
use Rattle.ap_trial.proofs.tables.push_symbols.Goals as goal

pub returns : goal.returns
unfolding symbols_text
returns c = three-lines _ _ _ _ _ _ _ _ c.in_ok-push_zeros.ensures c.in_ok-push_symbol.ensures c.push_names.ensures
