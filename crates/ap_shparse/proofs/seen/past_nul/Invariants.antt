use Rattle.std.proofs.Common.{◌≡◌, ◌+◌, drop}
use Rattle.ap_shparse.specs.Grammar.{past_nul}
use Rattle.ap_shparse.proofs.seen.past_nul.Given as goal

abbrev pub invariant-loop-at : goal.invariant-loop-at
invariant-loop-at l = past_nul l.seen l.text ≡ l.at + past_nul l.left (drop l.at l.text)
