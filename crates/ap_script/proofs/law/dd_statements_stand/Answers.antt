use Rattle.ap_script.proofs.DdStatements.{first-block, none-block}
use Rattle.ap_script.proofs.law.dd_statements_stand.Goals as goal

pub returns-clause-first : goal.returns-clause-first
returns-clause-first c = first-block

pub returns-clause-none : goal.returns-clause-none
returns-clause-none c = none-block
