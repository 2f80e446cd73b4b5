use Rattle.std.proofs.Common.{◌≡◌, ◌++◌, drop}
use Rattle.ap_shell.specs.Words.{as_one}
use Rattle.ap_shell.proofs.copies.as_one.Given as goal

abbrev pub invariant-loop-text : goal.invariant-loop-text
invariant-loop-text l = as_one l.texts ≡ l.joined ++ as_one (drop l.text-index l.texts)
