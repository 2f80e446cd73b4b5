use Rattle.std.proofs.Common.{◌≡◌, ◌+◌, drop}
use Rattle.ap_fields.specs.FirstFault.{first_fault}
use Rattle.ap_check.specs.Rules.{single_rules}
use Rattle.ap_check.proofs.tls.check_single.Given as goal

abbrev pub invariant-loop-p : goal.invariant-loop-p
invariant-loop-p l = record {
  count : l.k ≡ l.first + l.p-index;
  left : first_fault (single_rules l.number l.first l.entries) ≡ first_fault (single_rules l.number l.k (drop l.p-index l.entries));
}
