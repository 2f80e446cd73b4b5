use Rattle.std.proofs.Common.{◌≡◌, length, map, take}
use Rattle.ap_check.specs.Inputs.{load_of}
use Rattle.ap_check.proofs.load.taken_loads.Given as goal

abbrev pub invariant-loop-p : goal.invariant-loop-p
invariant-loop-p l = record {
  loads : l.loads.items ≡ map load_of (take l.p-index l.entries);
  few : length l.loads.items ≡ l.p-index;
}
