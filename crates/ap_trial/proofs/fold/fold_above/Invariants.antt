use Rattle.std.proofs.Common.{◌≡◌, ◌+◌, map, take}
use Rattle.ap_trial.specs.Folds.{folded_all}
use Rattle.ap_trial.proofs.fold.fold_above.Given as goal

abbrev pub invariant-loop-byte : goal.invariant-loop-byte
invariant-loop-byte l = l.h ≡ folded_all l.fn.h (map (λ byte. byte + l.above) (take l.byte-index l.bytes))
