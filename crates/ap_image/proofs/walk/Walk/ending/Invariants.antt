use Rattle.std.proofs.Common.{◌≡◌, Some}
use Rattle.ap_image.specs.Cells.{Memory}
use Rattle.ap_image.specs.WalkSteps.{left_of}
use Rattle.ap_image.proofs.walk.Walk.ending.Given as goal

abbrev pub invariant-loop-fault : goal.invariant-loop-fault
invariant-loop-fault g l = record {
  state : g.C.Cells.state l.cells ≡ g.C.Cells.state l.fn.cells;
  left : (m : Memory) → (g.C.Cells.state l.fn.cells).told ≡ Some m → (left_of m l.self).ending ≡ (left_of m l.fn.self).ending;
}

abbrev pub decreases-loop-fault : goal.decreases-loop-fault
decreases-loop-fault g l = l.self.left
