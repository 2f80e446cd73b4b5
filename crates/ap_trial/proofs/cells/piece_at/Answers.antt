use Rattle.ap_trial.proofs.CellLemmas.{piece-sizes, piece-cells, gap-cells}
use Rattle.ap_trial.proofs.cells.piece_at.Goals as goal

pub returns-in-Some-clause-some : goal.returns-in-Some-clause-some
returns-in-Some-clause-some c =
    let image = c.args.image.now in
    (piece-sizes image.file image.plan.regions c.args.a c.args.most c.in-Some.piece c.requires c.in-Some.ensures.piece).0

pub returns-in-Some-clause-numbers : goal.returns-in-Some-clause-numbers
returns-in-Some-clause-numbers c =
    let image = c.args.image.now in
    piece-cells image.file image.plan.regions c.args.a c.in-Some.piece c.in-Some.ensures.cells

pub returns-in-None-clause-numbers : goal.returns-in-None-clause-numbers
returns-in-None-clause-numbers c =
    let image = c.args.image.now in
    gap-cells image.file image.plan.regions c.args.a c.args.most c.from_bits_retain.result.0 c.from_bits_retain.ensures c.in-None.ensures.piece
