use Rattle.std.proofs.Common.{◌≡◌, map, take}
use Rattle.ap_words.proofs.text.Texts.from_strs.Given as goal

abbrev pub invariant-loop-text : goal.invariant-loop-text
invariant-loop-text l = l.inner.items ≡ map (λ s. s.now) (take l.text-index l.texts)
