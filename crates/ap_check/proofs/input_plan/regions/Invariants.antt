use Rattle.std.proofs.Common.{◌≡◌, length, map, take}
use Rattle.ap_check.specs.InputPlans.{region_of}
use Rattle.ap_check.proofs.input_plan.regions.Given as goal

abbrev pub invariant-loop-p : goal.invariant-loop-p
invariant-loop-p l = record {
  regions : l.regions.items ≡ map region_of (take l.p-index l.loads);
  few : length l.regions.items ≡ l.p-index;
}
