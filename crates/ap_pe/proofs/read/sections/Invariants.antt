use Rattle.std.proofs.Common.{◌≡◌, length}
use Rattle.ap_pe.specs.Format.{sections_from}
use Rattle.ap_pe.proofs.read.sections.Given as goal

abbrev pub invariant-loop-i : goal.invariant-loop-i
invariant-loop-i l = record {
  found : l.found.items ≡ sections_from l.b 0 l.i;
  count : length l.found.items ≡ l.i;
}
