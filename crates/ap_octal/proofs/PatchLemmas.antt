-- Lists with bytes patched in, one patch behind another.
use Rattle.std.proofs.Common.{◌≡◌, ℕ, ◌+◌, ◌≤◌, List, ◌++◌, length, take, drop, ap, ◌∙◌, arith, append_assoc, length-append}
use Rattle.std.proofs.lemmas.List.{take_at, length-take-le}
use Rattle.std.proofs.lemmas.Slice.{drop-append-drop}
use Rattle.ap_fields.specs.Fields.{patched}

-- the patch that stands behind another makes it longer
pub patched-behind : (b xs ys : List ℕ) (at : ℕ) → at + length xs ≤ length b → patched (patched b at xs) (at + length xs) ys ≡ patched b at (xs ++ ys)
patched-behind b xs ys at fits =
    let n : ℕ = at + length xs in
    let front : length (take at b ++ xs) ≡ n = length-append (take at b) xs ∙ ap (λ k. k + length xs) (length-take-le at b (omega arith)) in
    let first : take n (patched b at xs) ≡ take at b ++ xs = take_at (take at b ++ xs) (drop n b) n front in
    let last : drop (n + length ys) (patched b at xs) ≡ drop (at + length (xs ++ ys)) b =
    drop-append-drop n b (take at b ++ xs) (n + length ys) (omega arith) front ∙ ap (λ k. drop k b) (let e = length-append xs ys in let s : n + length ys ≡ at + length (xs ++ ys) = omega arith in s) in
    ap (λ t. t ++ ys ++ drop (n + length ys) (patched b at xs)) first
    ∙ ap (λ d. take at b ++ xs ++ ys ++ d) last
    ∙ ap (λ t. t ++ drop (at + length (xs ++ ys)) b) (append_assoc (take at b) xs ys)
