use Rattle.std.proofs.Common.{◌≡◌, length, Some}
use Rattle.ap_image.specs.Cells.{Memory}
use Rattle.ap_image.specs.ImportWalk.{bytes_from}
use Rattle.ap_image.proofs.ImportReads.{filled_from}
use Rattle.ap_image.proofs.import_read.bytes_at.Given as goal

abbrev pub invariant-loop-i : goal.invariant-loop-i
invariant-loop-i g l = record {
  state : g.C.Cells.state l.cells ≡ g.C.Cells.state l.fn.cells;
  long : length l.bytes ≡ g.row.N;
  left : (m : Memory) → (g.C.Cells.state l.fn.cells).told ≡ Some m → bytes_from m l.at g.row.N ≡ filled_from m l.at g.row.N l.i l.bytes;
}
