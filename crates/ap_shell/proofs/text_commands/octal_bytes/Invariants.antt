use Rattle.std.proofs.Common.{length}
use Rattle.ap_octal.specs.OctalSteps.{Splits}
use Rattle.ap_shell.proofs.text_commands.octal_bytes.Given as goal

abbrev pub invariant-loop-rest : goal.invariant-loop-rest
invariant-loop-rest l = Splits l.text l.bytes l.rest

abbrev pub decreases-loop-rest : goal.decreases-loop-rest
decreases-loop-rest l = length l.rest
