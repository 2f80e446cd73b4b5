use Rattle.std.proofs.Common.{◌-◌, ◌<◌, ◌≤◌, length}
use Rattle.ap_elf.specs.Seen.{KeepsMarks}
use Rattle.ap_elf.proofs.Markings.{PartMarked}
use Rattle.ap_elf.proofs.marks.mark_part.Given as goal

abbrev pub invariant-loop-from : goal.invariant-loop-from
invariant-loop-from l = record {
  some : 0 < length l.marks;
  kept : KeepsMarks l.fn.marks l.marks;
  high : l.from ≤ length l.part;
  marked : PartMarked l.part l.text l.at l.marks l.from;
}

abbrev pub decreases-loop-from : goal.decreases-loop-from
decreases-loop-from l = length l.part - l.from
