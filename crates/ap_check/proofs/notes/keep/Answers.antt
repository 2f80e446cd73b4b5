use Rattle.std.proofs.Common.{sym, arith, [], ◌∷◌, length, ◌≡◌}
use Rattle.std.proofs.lemmas.Bool.Decides.{nat_tests}
use Rattle.ap_check.proofs.Firsts.{take-over}
use Rattle.ap_check.proofs.notes.keep.Goals as goal

pub returns-else-not-is_full : goal.returns-else-not-is_full
returns-else-not-is_full c =
    let full : length c.args.notes.now.items ≡ 5 = grind (arith, nat_tests, c.is_full.ensures.value) in
    sym (take-over 5 c.args.notes.now.items (c.args.p.now ∷ []) full)
