use Rattle.ap_script.proofs.TableLengths.{length-table_text}
use Rattle.ap_script.proofs.ScriptParts.{length-embedded}
use Rattle.ap_script.proofs.law.headers_have_lengths.Goals as goal

pub returns-clause-header : goal.returns-clause-header
returns-clause-header c = length-embedded

pub returns-clause-table : goal.returns-clause-table
returns-clause-table c = λ news areas e serves. length-table_text news e areas serves
