use Rattle.std.proofs.Common.{◌∙◌}
use Rattle.ap_trial.proofs.FoldLemmas.{fold-none}
use Rattle.ap_trial.proofs.fold.fold_bytes.Goals as goal

pub returns : goal.returns
returns c = c.fold_above.ensures ∙ fold-none 0 c.args.bytes.now
