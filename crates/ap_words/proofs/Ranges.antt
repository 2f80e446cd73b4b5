-- How many values an operand takes.
use Rattle.std.proofs.Common.{◌≡◌, ap}
use Rattle.std.specs.Prelude.{Option, Some, None, IsSomeAnd}

pub some-is : {T : Type 0} (o : Option T) (x : T) → IsSomeAnd o (λ r. r ≡ x) → o ≡ Some x
some-is None x h = absurd h
some-is (Some y) x h = ap (λ z. Some z) h
