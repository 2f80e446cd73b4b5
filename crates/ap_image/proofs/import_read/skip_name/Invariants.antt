use Rattle.std.proofs.Common.{◌≡◌, Some, Ok}
use Rattle.ap_image.specs.Cells.{Memory}
use Rattle.ap_image.specs.ImportWalk.{name_at}
use Rattle.ap_image.specs.WalkSteps.{passed}
use Rattle.ap_image.proofs.ImportNames.{name_left}
use Rattle.ap_image.proofs.import_read.skip_name.Given as goal

abbrev pub invariant-loop-i : goal.invariant-loop-i
invariant-loop-i g l = record {
  state : g.C.Cells.state l.cells ≡ g.C.Cells.state l.fn.cells;
  left : (m : Memory) → (g.C.Cells.state l.fn.cells).told ≡ Some m → passed (name_at m l.start) ≡ name_left m l.start 1025 l.i (λ rest. Ok tt);
}
