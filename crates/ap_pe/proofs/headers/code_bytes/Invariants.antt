use Rattle.std.proofs.Common.{◌≡◌, ◌+◌, drop}
use Rattle.ap_pe.specs.Written.{raw_sum, is_code}
use Rattle.ap_pe.proofs.headers.code_bytes.Given as goal

abbrev pub invariant-loop-s : goal.invariant-loop-s
invariant-loop-s l = l.sum + raw_sum is_code (drop l.s-index l.sections) ≡ raw_sum is_code l.sections
