use Rattle.std.proofs.Common.{below_more, arith, inl, inr}
use Rattle.std.proofs.lemmas.Bool.{cases_lt}
use Rattle.ap_octal.proofs.DdPlaces.{none_here, none_past}
use Rattle.ap_octal.proofs.dd.dd_statement.Goals as goal

pub loop-at-preserved : goal.loop-at-preserved
loop-at-preserved c k low =
    below_more _ _ (λ j below. c.loop-at.invariant j (omega arith) below)
    (none_here c.args.file.now c.window_of-window.result.now c.loop-at.at c.window_of-window.ensures.bytes c.in_default.ensures) k

pub returns : goal.returns
returns c k low within there =
    elim (cases_lt k c.loop-at.at) [
      | inl below ↦ c.loop-at.invariant k low below there
      | inr above ↦ none_past c.args.file.now c.window_of-window.result.now k c.window_of-window.ensures.bytes (omega arith) there
    ]
