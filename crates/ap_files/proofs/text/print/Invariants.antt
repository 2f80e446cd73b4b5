use Rattle.std.proofs.Common.{◌≡◌, ◌≤◌, ◌-◌, length, take}
use Rattle.ap_files.specs.Prints.{Gains}
use Rattle.ap_files.proofs.text.print.Given as goal

abbrev pub invariant-loop-at : goal.invariant-loop-at
invariant-loop-at g l = record {
  below : l.at ≤ length l.text;
  gained : Gains (g.S.Sink.state l.fn.sink) (g.S.Sink.state l.sink) (take l.at l.text);
  faults : (g.S.Sink.state l.sink).faults ≡ (g.S.Sink.state l.fn.sink).faults;
}

abbrev pub decreases-loop-at : goal.decreases-loop-at
decreases-loop-at g l = length l.text - l.at
