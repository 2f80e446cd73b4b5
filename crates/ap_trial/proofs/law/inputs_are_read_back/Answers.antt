use Rattle.ap_trial.proofs.Lengths.{length-input}
use Rattle.ap_trial.proofs.InputHeaders.{input-header, input-entries}
use Rattle.ap_trial.proofs.law.inputs_are_read_back.Goals as goal

pub returns-clause-header : goal.returns-clause-header
returns-clause-header c = input-header

pub returns-clause-entries : goal.returns-clause-entries
returns-clause-entries c = input-entries

pub returns-clause-length : goal.returns-clause-length
returns-clause-length c = length-input
