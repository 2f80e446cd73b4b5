-- The sequence of a number, step by step.
use Rattle.std.proofs.Common.{◌≡◌, ℕ, zero, suc, ◌+◌, List, [], ◌∷◌, ◌++◌, refl, ap, sym, ◌∙◌, arith}
use Rattle.ap_trial.specs.Draws.{next_of, byte_of, stepped, drawn}

stepped-front : (x n : ℕ) → stepped (next_of x) n ≡ next_of (stepped x n)
unfolding stepped
stepped-front x zero = refl
stepped-front x (suc n) = ap next_of (stepped-front x n)

drawn-suc : (x n : ℕ) → drawn x (suc n) ≡ drawn x n ++ byte_of (next_of (stepped x n)) ∷ []
unfolding drawn stepped
drawn-suc x zero = refl
drawn-suc x (suc n) =
    ap (λ l. byte_of (next_of x) ∷ l) (drawn-suc (next_of x) n)
    ∙ ap (λ y. byte_of (next_of x) ∷ (drawn (next_of x) n ++ byte_of (next_of y) ∷ [])) (stepped-front x n)

pub drawn-more : (x n : ℕ) → drawn x (n + 1) ≡ drawn x n ++ byte_of (next_of (stepped x n)) ∷ []
drawn-more x n = ap (drawn x) (let e : n + 1 ≡ suc n = omega arith in e) ∙ drawn-suc x n

pub stepped-more : (x n : ℕ) → stepped x (n + 1) ≡ next_of (stepped x n)
unfolding stepped
stepped-more x n = ap (stepped x) (let e : n + 1 ≡ suc n = omega arith in e)

pub drawn-none : (x : ℕ) → drawn x 0 ≡ []
unfolding drawn
drawn-none x = refl

pub stepped-none : (x : ℕ) → stepped x 0 ≡ x
unfolding stepped
stepped-none x = refl

end-none : (x : ℕ) (l : List ℕ) → l ≡ l ++ drawn x 0
unfolding drawn
end-none x [] = refl
end-none x (y ∷ l) = ap (λ m. y ∷ m) (end-none x l)

pub drawn-start : (x : ℕ) (l : List ℕ) → (l ≡ l ++ drawn x 0) × (x ≡ stepped x 0)
drawn-start x l = (end-none x l, sym (stepped-none x))

pub ruleset draw_steps = (drawn-none, stepped-none, drawn-more, stepped-more)
