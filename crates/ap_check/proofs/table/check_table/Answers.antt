use Rattle.std.proofs.Common.{arith}
use Rattle.std.proofs.lemmas.Grind.{common_steps}
use Rattle.ap_fields.proofs.FirstFaults.{join_steps}
use Rattle.ap_check.specs.Rules.{table_rules}
use Rattle.ap_check.specs.Inputs.{taken_of, no_symbols}
use Rattle.ap_check.proofs.Held.{meets_from}
use Rattle.ap_check.proofs.table.check_table.Goals as goal

pub invariant_of-result : goal.invariant_of-result
unfolding table_rules taken_of
invariant_of-result c =
    meets_from c.args.number c.args.size c.args.h.now c.args.entries.now no_symbols _ c.requires.least c.requires.most (grind (arith, common_steps, join_steps)) (grind (arith, common_steps))
