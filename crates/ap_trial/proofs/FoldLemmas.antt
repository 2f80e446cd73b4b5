-- Folds, number by number.
use Rattle.std.proofs.Common.{◌≡◌, ℕ, ◌+◌, ◌*◌, ◌<◌, ◌%◌, ◌^◌, List, [], ◌∷◌, length, get_or, take, map, replicate, refl, sym, ap, ◌∙◌, arith}
use Rattle.std.proofs.lemmas.List.{replicate_more}
use Rattle.std.proofs.lemmas.List.Sums.{fold_push, fold_more}
use Rattle.std.proofs.lemmas.List.Folds.{fold-map}
use Rattle.std.proofs.Math.Nat.{mod-add-mod}
use Rattle.ap_trial.specs.Folds.{folded, folded_all}

-- bytes to which nothing is added
map-none : (xs : List ℕ) → map (λ byte. byte + 0) xs ≡ xs
map-none [] = refl
map-none (x ∷ xs) = ap (λ l. (x + 0) ∷ l) (map-none xs) ∙ ap (λ y. y ∷ xs) (let e : x + 0 ≡ x = omega arith in e)

pub fold-none : (h : ℕ) (xs : List ℕ) → folded_all h (map (λ byte. byte + 0) xs) ≡ folded_all h xs
fold-none h xs = ap (folded_all h) (map-none xs)

-- one more byte
pub above-more : (h above : ℕ) (xs : List ℕ) (i d : ℕ) → i < length xs → folded_all h (map (λ byte. byte + above) (take (i + 1) xs)) ≡ folded (folded_all h (map (λ byte. byte + above) (take i xs))) (get_or xs i d + above)
above-more h above xs i d below =
    fold-map folded (λ byte. byte + above) h (take (i + 1) xs)
    ∙ fold_more (λ k byte. folded k (byte + above)) h xs i d below
    ∙ ap (λ k. folded k (get_or xs i d + above)) (sym (fold-map folded (λ byte. byte + above) h (take i xs)))

pub ruleset above_steps = (above-more)

-- a number once more
pub same-more : (h v n : ℕ) → folded_all h (replicate (n + 1) v) ≡ folded (folded_all h (replicate n v)) v
same-more h v n = ap (folded_all h) (sym (replicate_more n v)) ∙ fold_push folded h (replicate n v) v

pub ruleset same_steps = (same-more)

-- sums that wrap
wraps : (x v m : ℕ) → ((x % m + v) % m + 1) % m ≡ (x + v + 1) % m
wraps x v m =
    let first : x % m + v + 1 ≡ x % m + (v + 1) = omega arith in
    let last : x + (v + 1) ≡ x + v + 1 = omega arith in
    mod-add-mod (x % m + v) m 1 ∙ ap (λ k. k % m) first ∙ mod-add-mod x m (v + 1) ∙ ap (λ k. k % m) last

pub folded-wraps : (h v : ℕ) → ((h * 1099511628211 % 2 ^ 64 + v) % 2 ^ 64 + 1) % 2 ^ 64 ≡ folded h v
folded-wraps h v = wraps (h * 1099511628211) v (2 ^ 64)

pub ruleset wrap_steps = (folded-wraps)
