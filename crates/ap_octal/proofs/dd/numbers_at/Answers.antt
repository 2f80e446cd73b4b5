use Rattle.std.proofs.Common.{◌≡◌, true, false, arith}
use Rattle.ap_octal.proofs.DdPlaces.{no_bs, no_skip, no_count, ends_there}
use Rattle.ap_octal.proofs.dd.numbers_at.Goals as goal
use Rattle.ap_octal.proofs.dd.numbers_at.Goals.{else-size-ge1-via-then-size-ge1+else-stands, else-size-ge1-via-else-size-ge1}

pub returns-in_err-size : goal.returns-in_err-size
returns-in_err-size c = rw c.from_residual.ensures (no_bs c.args.text.now c.args.at c.in_err-size.ensures)

pub returns-in_err-skip : goal.returns-in_err-skip
returns-in_err-skip c = rw c.from_residual-in_err-skip.ensures (no_skip c.args.text.now c.args.at c.in_ok-size.size c.in_ok-size.skip_at c.in_ok-size.ensures c.in_err-skip.ensures)

pub returns-in_err-count : goal.returns-in_err-count
returns-in_err-count c =
    rw c.from_residual-in_err-count.ensures
    (no_count c.args.text.now c.args.at c.in_ok-size.size c.in_ok-size.skip_at c.in_ok-skip.skip c.in_ok-skip.count_at c.in_ok-size.ensures c.in_ok-skip.ensures c.in_err-count.ensures)

pub returns-else-size-ge1 : goal.returns-else-size-ge1
returns-else-size-ge1 c size skip count there =
    let ends =
    ends_there c.args.text.now c.args.at c.in_ok-size.size c.in_ok-size.skip_at c.in_ok-skip.skip c.in_ok-skip.count_at c.in_ok-count.count c.in_ok-count.conv_at c.in_ok-size.ensures
    c.in_ok-skip.ensures c.in_ok-count.ensures size skip count there in
    elim c.else-size-ge1.branch [
      | else-size-ge1-via-then-size-ge1+else-stands w ↦ absurd (let e : false ≡ true = w.if-stands.ensures.1 ends.1 in cc)
      | else-size-ge1-via-else-size-ge1 w ↦ omega (arith, ends.0)
    ]
