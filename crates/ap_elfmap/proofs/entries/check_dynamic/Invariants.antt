use Rattle.std.proofs.Common.{◌≡◌, ◌+◌, drop}
use Rattle.ap_fields.specs.FirstFault.{first_fault}
use Rattle.ap_elf.specs.ElfReading.{dynamic_rules}
use Rattle.ap_elfmap.proofs.entries.check_dynamic.Given as goal

abbrev pub invariant-loop-p : goal.invariant-loop-p
invariant-loop-p l = record {
  count : l.k ≡ l.p-index + 1;
  left : first_fault (dynamic_rules 1 l.entries) ≡ first_fault (dynamic_rules l.k (drop l.p-index l.entries));
}
