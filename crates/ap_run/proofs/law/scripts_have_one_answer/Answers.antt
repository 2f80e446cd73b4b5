use Rattle.ap_run.proofs.Scripts.{has-answer, one-answer}
use Rattle.ap_run.proofs.law.scripts_have_one_answer.Goals as goal

pub returns-clause-some : goal.returns-clause-some
returns-clause-some c = has-answer

pub returns-clause-one : goal.returns-clause-one
returns-clause-one c = one-answer
