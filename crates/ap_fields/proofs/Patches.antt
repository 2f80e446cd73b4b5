-- Lists with bytes patched in.
use Rattle.std.proofs.Common.{◌≡◌, ℕ, suc, ◌+◌, ◌<◌, ◌≤◌, ◌^◌, ◌/◌, ◌%◌, List, [], ◌∷◌, ◌++◌, length, take, drop, set, get_or, sym, ap, ◌∙◌, arith, append_assoc, length-append}
use Rattle.std.proofs.lemmas.List.{set_split, set_at, drop_more, length-take-le, length_push}
use Rattle.std.proofs.lemmas.Fmt.{decimal_step}
use Rattle.std.specs.Fmt.{decimal}
use Rattle.ap_fields.specs.Fields.{patched}

-- a written byte is a patch of one
pub patched-one : (b : List ℕ) (at d : ℕ) → at < length b → set b at d ≡ patched b at (d ∷ [])
patched-one b at d h =
    set_split b at d h
    ∙ sym (append_assoc (take at b) (d ∷ []) (drop (suc at) b))
    ∙ ap (λ k. take at b ++ (d ∷ []) ++ drop k b) (let e : suc at ≡ at + 1 = omega arith in e)

-- a byte written behind a patch makes it longer
pub patched-more : (b ds : List ℕ) (at d : ℕ) → at + length ds < length b → set (patched b at ds) (at + length ds) d ≡ patched b at (ds ++ d ∷ [])
patched-more b ds at d h =
    let front : length (take at b ++ ds) ≡ at + length ds =
    length-append (take at b) ds ∙ ap (λ k. k + length ds) (length-take-le at b (omega arith)) in
    ap (λ r. set (take at b ++ ds ++ r) (at + length ds) d) (drop_more b (at + length ds) 0 h)
    ∙ set_at (take at b ++ ds) (get_or b (at + length ds) 0) (drop (at + length ds + 1) b) d (at + length ds) front
    ∙ sym (append_assoc (take at b ++ ds) (d ∷ []) (drop (at + length ds + 1) b))
    ∙ ap (λ f. f ++ drop (at + length ds + 1) b) (append_assoc (take at b) ds (d ∷ []))
    ∙ ap (λ k. take at b ++ (ds ++ d ∷ []) ++ drop k b) (let e : at + length ds + 1 ≡ at + length (ds ++ d ∷ []) = omega (arith, length_push ds d) in e)

-- one digit more
pub length-decimal_step : (n : ℕ) → 10 ≤ n → n < 2 ^ 64 → length (decimal n) ≡ length (decimal (n / 10)) + 1
length-decimal_step n big fits = ap length (decimal_step n big fits) ∙ length_push (decimal (n / 10)) (48 + n % 10)
