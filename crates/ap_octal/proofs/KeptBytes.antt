-- The first 64 of the bytes so far, in an array of 64.
use Rattle.std.proofs.Common.{◌≡◌, ℕ, ◌+◌, ◌<◌, ◌≤◌, List, [], ◌∷◌, ◌++◌, length, take, set, sym, ap, ◌∙◌, arith}
use Rattle.std.proofs.lemmas.List.{take_all, take_more_set, take-append-le, length_push}

-- a byte that has room
pub kept-more : (first next front : List ℕ) (n b : ℕ) → length first ≡ 64 → n ≡ length front → n < 64 → take n first ≡ take 64 front → next ≡ set first n b
    → take (n + 1) next ≡ take 64 (front ++ b ∷ [])
kept-more first next front n b size count room kept is =
    ap (take (n + 1)) is
    ∙ take_more_set first n b (omega arith)
    ∙ ap (λ t. t ++ b ∷ []) (kept ∙ take_all 64 front (omega arith))
    ∙ sym (take_all 64 (front ++ b ∷ []) (let e = length_push front b in omega arith))

-- and one that hasn't
pub kept-past : (first next front : List ℕ) (n b : ℕ) → length first ≡ 64 → n ≡ length front → 64 ≤ n → take n first ≡ take 64 front → next ≡ first
    → take (n + 1) next ≡ take 64 (front ++ b ∷ [])
kept-past first next front n b size count full kept is =
    ap (take (n + 1)) is
    ∙ take_all (n + 1) first (omega arith)
    ∙ sym (take_all n first (omega arith))
    ∙ kept
    ∙ sym (take-append-le 64 front (b ∷ []) (omega arith))
