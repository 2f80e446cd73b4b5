use Rattle.std.proofs.Common.{◌≡◌, ◌≤◌, ◌-◌}
use Rattle.ap_trial.specs.Folds.{folded_all, cells_of, cell_numbers}
use Rattle.ap_trial.proofs.cells.fold_pieces.Given as goal

abbrev pub invariant-loop-at : goal.invariant-loop-at
invariant-loop-at l = record {
  below : l.at ≤ l.end;
  done : folded_all l.fn.h (cell_numbers (cells_of l.image) l.fn.a (l.end - l.fn.a)) ≡ folded_all l.h (cell_numbers (cells_of l.image) l.at (l.end - l.at));
}

abbrev pub decreases-loop-at : goal.decreases-loop-at
decreases-loop-at l = l.end - l.at
