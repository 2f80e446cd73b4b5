use Rattle.std.proofs.Common.{◌≡◌, drop}
use Rattle.ap_words.specs.Conditions.{is_none_of}
use Rattle.ap_words.proofs.conditions.is_none_of.Given as goal

abbrev pub invariant-loop-name : goal.invariant-loop-name
invariant-loop-name l = is_none_of l.out l.names ≡ is_none_of l.out (drop l.name-index l.names)
