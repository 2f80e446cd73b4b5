use Rattle.std.proofs.Common.{◌≡◌, take, filter}
use Rattle.ap_check.specs.Inputs.{is_note}
use Rattle.ap_check.proofs.notes.notes.Given as goal

abbrev pub invariant-loop-p : goal.invariant-loop-p
invariant-loop-p l = l.notes.items ≡ take 5 (filter (is_note l.loads) (take l.p-index l.entries))
