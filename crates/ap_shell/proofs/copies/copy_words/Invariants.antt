use Rattle.std.proofs.Common.{◌≡◌, take}
use Rattle.ap_shell.proofs.copies.copy_words.Given as goal

abbrev pub invariant-loop-text : goal.invariant-loop-text
invariant-loop-text l = l.copies ≡ take l.text-index l.texts
