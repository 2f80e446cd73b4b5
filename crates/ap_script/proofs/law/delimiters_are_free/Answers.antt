use Rattle.ap_script.proofs.DelimiterWords.{number-free, free-delimiter}
use Rattle.ap_script.proofs.law.delimiters_are_free.Goals as goal

pub returns-clause-number : goal.returns-clause-number
returns-clause-number c = λ body short. (number-free body short).0

pub returns-clause-free : goal.returns-clause-free
returns-clause-free c = free-delimiter
