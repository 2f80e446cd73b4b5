use Rattle.std.proofs.Common.{◌≤◌, ◌-◌, length, take, None}
use Rattle.ap_files.specs.Appends.{Appends}
use Rattle.ap_files.proofs.piece.append.Given as goal

abbrev pub invariant-loop-at : goal.invariant-loop-at
invariant-loop-at g l = record {
  below : l.at ≤ length l.piece;
  done : Appends (g.F.Files.state l.fn.files) (g.F.Files.state l.files) l.name (take l.at l.piece) None;
}

abbrev pub decreases-loop-at : goal.decreases-loop-at
decreases-loop-at g l = length l.piece - l.at
