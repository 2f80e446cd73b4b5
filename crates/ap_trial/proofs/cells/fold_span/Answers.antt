use Rattle.ap_trial.specs.Folds.{cells_of}
use Rattle.ap_trial.proofs.CellLemmas.{span-whole}
use Rattle.ap_trial.proofs.cells.fold_span.Goals as goal

pub returns : goal.returns
returns c =
    span-whole (cells_of c.args.image.now) c.args.h c.fold_pieces-h.result c.fold_same.result c.args.a c.stop-end.result c.args.count
    c.stop-end.ensures.from c.stop-end.ensures.most c.stop-end.ensures.bare c.fold_pieces-h.ensures c.fold_same.ensures
