use Rattle.std.proofs.Common.{◌<◌, length}
use Rattle.ap_elf.specs.Symbols.{symbols_from}
use Rattle.ap_elf.specs.Seen.{KeepsMarks, AreNamed}
use Rattle.ap_elf.proofs.named.mark_symbols.Given as goal

abbrev pub invariant-loop-i : goal.invariant-loop-i
invariant-loop-i l = record {
  some : 0 < length l.marks;
  kept : KeepsMarks l.fn.marks l.marks;
  marked : AreNamed l.marks (symbols_from l.part 0 l.i);
}
