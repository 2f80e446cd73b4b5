use Rattle.std.proofs.Common.{◌≡◌, ◌+◌, length, take, drop, map}
use Rattle.ap_fields.specs.FirstFault.{first_fault}
use Rattle.ap_elf.specs.ElfReading.{loads_rules}
use Rattle.ap_elfmap.specs.ElfPlans.{region_of}
use Rattle.ap_elfmap.proofs.loads.regions.Given as goal

abbrev pub invariant-loop-p : goal.invariant-loop-p
invariant-loop-p l = record {
  count : l.k ≡ l.p-index + 1;
  rules : first_fault (loads_rules l.page l.size 1 0 l.loads) ≡ first_fault (loads_rules l.page l.size l.k l.low (drop l.p-index l.loads));
  made : l.regions.items ≡ map (region_of l.page l.size) (take l.p-index l.loads);
  few : length l.regions.items ≡ l.p-index;
}
