use Rattle.std.proofs.Common.{◌++◌}
use Rattle.ap_script.specs.Tables.{embedded_bytes}
use Rattle.ap_script.specs.Blocks.{block_of}
use Rattle.ap_script.specs.Stands.{statement_place}
use Rattle.ap_script.proofs.Openings.{parts-holds}
use Rattle.ap_script.proofs.StatementPlaces.{opens-only, parts-block, place-within}
use Rattle.ap_script.proofs.InputStatements.{count-places, places-order, embeds-block, header_for-input}
use Rattle.ap_script.proofs.law.statements_stand.Goals as goal

pub returns-clause-only : goal.returns-clause-only
returns-clause-only c = opens-only

pub returns-clause-count : goal.returns-clause-count
returns-clause-count c = count-places

pub returns-clause-order : goal.returns-clause-order
returns-clause-order c = places-order

pub returns-clause-text : goal.returns-clause-text
returns-clause-text c = λ options inputs l rest p differ fits has.
    parts-holds (block_of options inputs l ++ rest) (statement_place options inputs l p.input.machine) (embedded_bytes p.input p.table)
    (parts-block options inputs l rest p.input.machine (embedded_bytes p.input p.table) fits (header_for-input options inputs l p differ fits has))

pub returns-clause-within : goal.returns-clause-within
returns-clause-within c = λ options inputs l p differ fits has.
    place-within options inputs l p.input.machine (embedded_bytes p.input p.table) fits (header_for-input options inputs l p differ fits has)

pub returns-clause-embeds : goal.returns-clause-embeds
returns-clause-embeds c = λ options inputs l rest p differ fits has.
    embeds-block options inputs l rest p.input.machine (embedded_bytes p.input p.table) fits (header_for-input options inputs l p differ fits has)
