use Rattle.std.proofs.Common.{◌≡◌, drop}
use Rattle.ap_check.specs.Inputs.{first_of, is_stack}
use Rattle.ap_check.proofs.stack.stack.Given as goal

abbrev pub invariant-loop-p : goal.invariant-loop-p
invariant-loop-p l = first_of is_stack l.entries ≡ first_of is_stack (drop l.p-index l.entries)
