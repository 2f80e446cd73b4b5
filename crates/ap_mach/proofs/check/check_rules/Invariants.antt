use Rattle.std.proofs.Common.{◌≡◌, drop}
use Rattle.ap_fields.specs.FirstFault.{first_fault}
use Rattle.ap_mach.proofs.check.check_rules.Given as goal

abbrev pub invariant-loop-holds : goal.invariant-loop-holds
invariant-loop-holds l = first_fault l.rules ≡ first_fault (drop l.holds-index l.rules)
