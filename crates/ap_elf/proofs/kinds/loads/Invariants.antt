use Rattle.std.proofs.Common.{◌≡◌, ◌≤◌, length, take}
use Rattle.ap_elf.specs.Fields.{loads_in}
use Rattle.ap_elf.proofs.kinds.loads.Given as goal

abbrev pub invariant-loop-p : goal.invariant-loop-p
invariant-loop-p l = record {
  found : l.found.items ≡ loads_in (take l.p-index l.entries);
  few : length l.found.items ≤ l.p-index;
}
