use Rattle.std.proofs.Common.{◌+◌, ◌-◌}
use Rattle.ap_fields.specs.declared.sizes.TheConstants.{WINDOW}
use Rattle.ap_inspect.proofs.statements.+push_statements.Given as goal

abbrev pub decreases-push_statements : goal.decreases-push_statements
decreases-push_statements l = WINDOW + 1 - l.from
