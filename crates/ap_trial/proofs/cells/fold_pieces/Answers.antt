use Rattle.std.proofs.Common.{◌+◌, ◌≤◌, length, arith}
use Rattle.ap_trial.specs.Folds.{cells_of, piece_numbers}
use Rattle.ap_trial.proofs.CellLemmas.{pieces-more, pieces-end}
use Rattle.ap_trial.proofs.cells.fold_pieces.Goals as goal

pub loop-at-preserved : goal.loop-at-preserved
loop-at-preserved c =
    let p = c.piece_at-piece.result in
    let most = c.piece_at-piece.ensures.most in
    let below : c.loop-at.at ≤ c.args.end = c.loop-at.invariant.below in
    record {
      below = omega arith;
      done = pieces-more (cells_of c.args.image.now) c.args.h c.loop-at.h c.fold_piece-h.result c.args.a c.loop-at.at c.args.end (length p.bytes.now + p.zeros) (piece_numbers p)
          below most c.piece_at-piece.ensures.numbers c.fold_piece-h.ensures c.loop-at.invariant.done;
    }

pub returns : goal.returns
returns c = pieces-end (cells_of c.args.image.now) c.args.h c.loop-at.h c.args.a c.loop-at.at c.args.end (omega arith) c.loop-at.invariant.done
