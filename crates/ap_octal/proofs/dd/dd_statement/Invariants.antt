use Rattle.memchr.specs.Find.{Nowhere}
use Rattle.ap_octal.specs.DdPlace.{HasDd}
use Rattle.ap_octal.proofs.dd.dd_statement.Given as goal

abbrev pub invariant-loop-at : goal.invariant-loop-at
invariant-loop-at l = Nowhere (HasDd l.file) 0 l.at
