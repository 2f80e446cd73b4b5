use Rattle.std.proofs.Common.{◌≡◌, ◌+◌, drop}
use Rattle.ap_fields.specs.FirstFault.{first_fault}
use Rattle.ap_check.specs.Rules.{dynamic_rules}
use Rattle.ap_check.proofs.entries.check_dynamic.Given as goal

abbrev pub invariant-loop-p : goal.invariant-loop-p
invariant-loop-p l = record {
  count : l.k ≡ l.p-index + 1;
  left : first_fault (dynamic_rules l.number 1 l.entries) ≡ first_fault (dynamic_rules l.number l.k (drop l.p-index l.entries));
}
