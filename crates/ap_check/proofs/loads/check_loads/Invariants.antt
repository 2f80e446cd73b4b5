use Rattle.std.proofs.Common.{◌≡◌, ◌≤◌, ◌+◌, ◌*◌, ◌^◌, drop, map}
use Rattle.ap_fields.specs.FirstFault.{first_fault}
use Rattle.ap_check.specs.Rules.{loads_rules}
use Rattle.ap_check.specs.Inputs.{load_of, last_stop, bytes_of_loads}
use Rattle.ap_check.proofs.loads.check_loads.Given as goal

abbrev pub invariant-loop-p : goal.invariant-loop-p
invariant-loop-p l = record {
  count : l.k ≡ l.p-index + 1;
  rules : first_fault (loads_rules l.number l.size l.granule 1 0 l.loads) ≡ first_fault (loads_rules l.number l.size l.granule l.k l.extent.stop (drop l.p-index l.loads));
  stop : last_stop l.granule 0 (map load_of l.loads) ≡ last_stop l.granule l.extent.stop (map load_of (drop l.p-index l.loads));
  bytes : bytes_of_loads (map load_of l.loads) ≡ l.extent.bytes + bytes_of_loads (map load_of (drop l.p-index l.loads));
  small : l.extent.bytes ≤ l.p-index * 2 ^ 47;
}
