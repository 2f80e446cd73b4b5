use Rattle.std.proofs.Common.{◌≡◌, ◌≤◌, length, drop}
use Rattle.ap_layout.specs.Twins.{sharing}
use Rattle.ap_layout.proofs.Walked.{Walked}
use Rattle.ap_layout.proofs.areas.areas_of_loads.Given as goal

-- what is left is placed from the cursor on
abbrev pub invariant-loop-i : goal.invariant-loop-i
invariant-loop-i l = record {
  far : Walked (sharing l.masks l.others l.granule l.loads) l.granule l.from l.loads l.i l.areas.items (drop l.i l.loads) l.end;
  count : length l.areas.items ≡ l.i;
  up : l.from ≤ l.end;
}
