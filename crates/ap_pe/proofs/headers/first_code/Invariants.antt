use Rattle.std.proofs.Common.{◌≡◌, drop}
use Rattle.ap_pe.specs.Written.{first_code}
use Rattle.ap_pe.proofs.headers.first_code.Given as goal

abbrev pub invariant-loop-s : goal.invariant-loop-s
invariant-loop-s l = first_code l.sections ≡ first_code (drop l.s-index l.sections)
