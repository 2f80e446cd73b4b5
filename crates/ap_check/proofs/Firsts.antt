-- The first elements of a list that grows.
use Rattle.std.proofs.Common.{◌≡◌, ℕ, zero, suc, List, [], ◌∷◌, ◌++◌, length, take, refl, ap, arith}

-- more behind the first n
pub take-again : {X : Type 0} (n : ℕ) (xs ys : List X) → take n (take n xs ++ ys) ≡ take n (xs ++ ys)
take-again zero xs ys = refl
take-again (suc n) [] ys = refl
take-again (suc n) (x ∷ xs) ys = ap (λ zs. x ∷ zs) (take-again n xs ys)

-- what stands behind n elements is not among the first n
pub take-over : {X : Type 0} (n : ℕ) (xs ys : List X) → length xs ≡ n → take n (xs ++ ys) ≡ xs
take-over zero [] ys h = refl
take-over zero (x ∷ xs) ys h = absurd (omega arith)
take-over (suc n) [] ys h = absurd (omega arith)
take-over (suc n) (x ∷ xs) ys h = ap (λ zs. x ∷ zs) (take-over n xs ys (omega arith))

pub ruleset first_steps = (take-again, take-over)
