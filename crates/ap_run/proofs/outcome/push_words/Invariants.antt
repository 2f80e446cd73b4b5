use Rattle.std.proofs.Common.{◌≡◌, ◌++◌, take, flat_map}
use Rattle.ap_run.specs.Outcomes.{word_line}
use Rattle.ap_run.proofs.outcome.push_words.Given as goal

abbrev pub invariant-loop-word : goal.invariant-loop-word
invariant-loop-word l = l.text.items ≡ l.initial.text.items ++ flat_map word_line (take l.word-index l.words)
