use Rattle.std.proofs.Common.{sym, ◌∙◌, arith}
use Rattle.ap_words.proofs.Digits.{first-none, first-some, none-left}
use Rattle.ap_words.proofs.number.+read_digits.Goals as goal

pub returns-in_err-next-in-len1-up : goal.returns-in_err-next-in-len1-up
returns-in_err-next-in-len1-up t c =
    c.from_residual.ensures
    ∙ sym (first-none c.args.number c.args.digits.now c.in-len1-up.len_at_least (sym c.with_digit.ensures ∙ c.in_err-next-in-len1-up.was))

pub returns-in-empty : goal.returns-in-empty
returns-in-empty t c = sym (none-left c.args.number c.args.digits.now c.ranges.number.fits (omega (arith, c.in-empty.len_below)))

pub returns-in_ok-next-in-len1-up : goal.returns-in_ok-next-in-len1-up
returns-in_ok-next-in-len1-up t c =
    c.read_digits.ensures
    ∙ sym (first-some c.args.number c.in_ok-next-in-len1-up.next c.args.digits.now c.in-len1-up.len_at_least (sym c.with_digit.ensures ∙ c.in_ok-next-in-len1-up.was))
