use Rattle.std.proofs.Common.{◌≡◌, drop}
use Rattle.ap_check.specs.Inputs.{in_part}
use Rattle.ap_check.proofs.part.in_part.Given as goal

abbrev pub invariant-loop-p : goal.invariant-loop-p
invariant-loop-p l = in_part l.address l.count l.loads ≡ in_part l.address l.count (drop l.p-index l.loads)
