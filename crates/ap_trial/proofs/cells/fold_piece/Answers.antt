use Rattle.std.proofs.Common.{◌+◌, ◌*◌, ◌++◌, map, ap, ◌∙◌}
use Rattle.ap_fields.specs.Bytes.{zeros}
use Rattle.ap_trial.specs.Folds.{folded_all}
use Rattle.ap_trial.proofs.CellLemmas.{piece-whole}
use Rattle.ap_trial.proofs.cells.fold_piece.Goals as goal

pub returns : goal.returns
returns c =
    let p = c.args.piece.now in
    piece-whole c.args.h c.fold_above-h.result c.fold_same.result (256 * c.from-above.result) p.bytes.now p.zeros c.fold_above-h.ensures c.fold_same.ensures
    ∙ ap (λ perms. folded_all c.args.h (map (λ byte. byte + 256 * perms) (p.bytes.now ++ zeros p.zeros))) (c.from-above.ensures ∙ c.bits.ensures)
