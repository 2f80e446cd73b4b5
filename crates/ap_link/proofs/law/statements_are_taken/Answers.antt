use Rattle.ap_script.specs.Tables.{embedded_bytes}
use Rattle.ap_script.proofs.InputStatements.{header_for-input}
use Rattle.ap_link.proofs.TakenStatements.{taken-block, taken-other}
use Rattle.ap_link.proofs.law.statements_are_taken.Goals as goal

pub returns-clause-taken : goal.returns-clause-taken
returns-clause-taken c = λ options inputs l rest p meets differ fits has.
    taken-block options inputs l rest p.input.machine (embedded_bytes p.input p.table) meets fits (header_for-input options inputs l p differ fits has)

pub returns-clause-other : goal.returns-clause-other
returns-clause-other c = taken-other
