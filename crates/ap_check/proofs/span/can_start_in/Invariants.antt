use Rattle.std.proofs.Common.{◌≡◌, drop}
use Rattle.ap_check.specs.Inputs.{can_start}
use Rattle.ap_check.proofs.span.can_start_in.Given as goal

abbrev pub invariant-loop-p : goal.invariant-loop-p
invariant-loop-p l = can_start l.entry l.loads ≡ can_start l.entry (drop l.p-index l.loads)
