use Rattle.std.proofs.Common.{◌≡◌, take}
use Rattle.ap_trial.specs.Folds.{cells_of, fold_over}
use Rattle.ap_trial.proofs.cells.fold_image.Given as goal

abbrev pub invariant-loop-load : goal.invariant-loop-load
invariant-loop-load l = l.h ≡ fold_over (cells_of l.image) 0 (take l.load-index l.loads)
