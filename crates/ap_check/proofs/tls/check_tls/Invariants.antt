use Rattle.std.proofs.Common.{◌≡◌, ◌+◌, drop}
use Rattle.ap_fields.specs.FirstFault.{first_fault}
use Rattle.ap_check.specs.Rules.{tls_rules}
use Rattle.ap_check.specs.Inputs.{first_of, is_tls}
use Rattle.ap_check.proofs.tls.check_tls.Given as goal

abbrev pub invariant-loop-p : goal.invariant-loop-p
invariant-loop-p l = record {
  count : l.k ≡ l.p-index + 1;
  left : first_fault (tls_rules l.number 1 l.loads l.entries) ≡ first_fault (tls_rules l.number l.k l.loads (drop l.p-index l.entries));
  first : first_of is_tls l.entries ≡ first_of is_tls (drop l.p-index l.entries);
}
