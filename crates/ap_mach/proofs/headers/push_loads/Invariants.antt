use Rattle.std.proofs.Common.{◌≡◌, ◌+◌, ◌*◌, ◌++◌, length, drop}
use Rattle.ap_mach.specs.Segments.{load_segments, segment_table}
use Rattle.ap_mach.proofs.headers.push_loads.Given as goal

abbrev pub invariant-loop-i : goal.invariant-loop-i
invariant-loop-i l = record {
  count : l.k ≡ l.i + 1;
  long : length l.out.items ≡ length l.fn.out.items + 72 * l.i;
  made : l.fn.out.items ++ segment_table 1 (load_segments l.loads l.areas) ≡ l.out.items ++ segment_table l.k (load_segments (drop l.i l.loads) (drop l.i l.areas));
}
