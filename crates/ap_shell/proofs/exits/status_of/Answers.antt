use Rattle.std.proofs.Common.{◌∙◌, ◌+◌, ap, sym, drop, arith}
use Rattle.ap_shell.specs.EndCommands.{at_most_255}
use Rattle.ap_shell.proofs.TextLemmas.{digit_more, status_of_some, too_big}
use Rattle.ap_shell.proofs.exits.status_of.Goals as goal

pub returns-then-status-gt255 : goal.returns-then-status-gt255
returns-then-status-gt255 c =
    sym (status_of_some c.args.text.now (omega arith)
    ∙ ap at_most_255 (c.loop-digit.invariant.rest
    ∙ digit_more c.loop-digit.status c.loop-digit.digit-index c.args.text.now c.loop-digit-test.true (sym c.is_digit.ensures ∙ c.if-not-is_digit.false))
    ∙ too_big (drop (c.loop-digit.digit-index + 1) c.args.text.now) _ c.if-status-gt255.true)
