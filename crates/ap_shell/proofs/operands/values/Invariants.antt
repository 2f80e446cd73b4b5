use Rattle.std.proofs.Common.{◌≡◌, ◌++◌, drop}
use Rattle.ap_shell.specs.DdCommand.{values}
use Rattle.ap_shell.proofs.operands.values.Given as goal

abbrev pub invariant-loop-word : goal.invariant-loop-word
invariant-loop-word l = values l.name l.words ≡ l.found ++ values l.name (drop l.word-index l.words)
