use Rattle.ap_octal.proofs.DdPlaces.{no_operand}
use Rattle.ap_octal.proofs.dd.operand_at.Goals as goal

pub returns-in_err-number : goal.returns-in_err-number
returns-in_err-number c =
    rw c.from_residual.ensures
    (no_operand c.args.text.now c.args.at c.args.name.now c.digits_end-end.result c.digits_end-end.ensures.low c.digits_end-end.ensures.digits c.digits_end-end.ensures.end
    c.in_err-number.ensures)
