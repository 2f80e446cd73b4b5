use Rattle.std.proofs.Common.{◌≡◌, replicate}
use Rattle.ap_trial.specs.Folds.{folded_all}
use Rattle.ap_trial.proofs.fold.fold_same.Given as goal

abbrev pub invariant-loop : goal.invariant-loop
invariant-loop l = l.h ≡ folded_all l.fn.h (replicate l.counter l.v)
