-- Where a quote stands behind a blank.
use Rattle.std.proofs.Common.{◌≡◌, ◌≢◌, ℕ, zero, suc, ◌+◌, ◌/◌, ◌%◌, ◌==◌, ◌&&◌, not, Bool, true, false, cond, List, [], ◌∷◌, ◌++◌, get_or, refl, sym, ap, ◌∙◌, arith}
use Rattle.std.proofs.lemmas.Bool.{and_parts, not-true}
use Rattle.std.proofs.lemmas.Bool.Decides.{nat_tests}
use Rattle.ap_octal.specs.Statement.{is_letter, octal_of, octals_of}
use Rattle.ap_script.specs.Blocks.{spaces}

-- no quote stands in a text
abbrev pub has_no_quote : List ℕ → Bool
has_no_quote [] = true
has_no_quote (c ∷ text) = not (c == 39) && has_no_quote text

-- no quote stands behind a blank in a text behind a byte
abbrev pub is_clear : ℕ → List ℕ → Bool
is_clear before [] = true
is_clear before (c ∷ text) = not (before == 32 && c == 39) && is_clear c text

no_quote-here : (c : ℕ) → not (c == 39) ≡ true → c ≢ 39
no_quote-here c h e = let same : (c == 39) ≡ true = ap (λ n. n == 39) e in absurd (let f : false ≡ true = sym (ap not same) ∙ h in cc)

pub has_no_quote-says : (text : List ℕ) (k : ℕ) → has_no_quote text ≡ true → get_or text k 0 ≢ 39
has_no_quote-says [] k h e = absurd (omega arith)
has_no_quote-says (c ∷ text) zero h e = no_quote-here c (and_parts (not (c == 39)) (has_no_quote text) h).0 e
has_no_quote-says (c ∷ text) (suc k) h e = has_no_quote-says text k (and_parts (not (c == 39)) (has_no_quote text) h).1 e

clear-here : (a c : ℕ) → not (a == 32 && c == 39) ≡ true → a ≡ 32 → c ≡ 39 → ⊥
clear-here a c h x y =
    let same : (a == 32 && c == 39) ≡ true = ap (λ n. n == 32 && c == 39) x ∙ ap (λ n. n == 39) y in
    let f : false ≡ true = sym (ap not same) ∙ h in cc

-- at a place and the next
pub is_clear-says : (before : ℕ) (text : List ℕ) (k : ℕ) → is_clear before text ≡ true → get_or text k 0 ≡ 32 → get_or text (suc k) 0 ≡ 39 → ⊥
is_clear-says before [] k h x y = absurd (omega (arith, x))
is_clear-says before (c ∷ []) zero h x y = absurd (omega (arith, y))
is_clear-says before (c ∷ d ∷ text) zero h x y =
    clear-here c d (and_parts (not (c == 32 && d == 39)) (is_clear d text) (and_parts (not (before == 32 && c == 39)) (is_clear c (d ∷ text)) h).1).0 x y
is_clear-says before (c ∷ text) (suc k) h x y = is_clear-says c text k (and_parts (not (before == 32 && c == 39)) (is_clear c text) h).1 x y

-- neither blanks nor quotes
abbrev pub is_bare : List ℕ → Bool
is_bare [] = true
is_bare (c ∷ text) = not (c == 32) && (not (c == 39) && is_bare text)

and_false : (a b : Bool) → a ≡ false → not (a && b) ≡ true
and_false true b h = absurd (cc)
and_false false b h = refl

-- bare bytes and a quote in front of a text
pub bare-clear : (before : ℕ) (front text : List ℕ) → (before == 32) ≡ false → is_bare front ≡ true → is_clear 39 text ≡ true → is_clear before (front ++ 39 ∷ text) ≡ true
bare-clear before [] text b h t = rw (and_false (before == 32) true b) t
bare-clear before (c ∷ front) text b h t =
    let x = and_parts (not (c == 32)) (not (c == 39) && is_bare front) h in
    let y = and_parts (not (c == 39)) (is_bare front) x.1 in
    rw (and_false (before == 32) (c == 39) b) (bare-clear c front text (not-true (c == 32) x.0) y.1 t)

pub bare-append : (front text : List ℕ) → is_bare front ≡ true → is_bare text ≡ true → is_bare (front ++ text) ≡ true
bare-append [] text h t = t
bare-append (c ∷ front) text h t =
    let x = and_parts (not (c == 32)) (not (c == 39) && is_bare front) h in
    let y = and_parts (not (c == 39)) (is_bare front) x.1 in
    rw (x.0, y.0) (bare-append front text y.1 t)

pub bare-no_quote : (text : List ℕ) → is_bare text ≡ true → has_no_quote text ≡ true
bare-no_quote [] h = refl
bare-no_quote (c ∷ text) h =
    let x = and_parts (not (c == 32)) (not (c == 39) && is_bare text) h in
    let y = and_parts (not (c == 39)) (is_bare text) x.1 in
    rw y.0 (bare-no_quote text y.1)

-- the octal text of bytes is bare
pub digit-bare : (x : ℕ) → (not (48 + x == 32) ≡ true) × (not (48 + x == 39) ≡ true)
digit-bare x = (grind (arith, nat_tests), grind (arith, nat_tests))

letter-bare : (c : ℕ) → is_letter c ≡ true → (not (c == 32) ≡ true) × (not (c == 39) ≡ true)
letter-bare c h = (grind (arith, nat_tests), grind (arith, nat_tests))

bare-by : (b : Bool) (c : ℕ) → is_letter c ≡ b → is_bare (cond b (c ∷ []) (92 ∷ (48 + c / 64) ∷ (48 + c / 8 % 8) ∷ (48 + c % 8) ∷ [])) ≡ true
bare-by true c h = let l = letter-bare c h in rw (l.0, l.1) refl
bare-by false c h =
    let x = digit-bare (c / 64) in
    let y = digit-bare (c / 8 % 8) in
    let z = digit-bare (c % 8) in
    rw (x.0, x.1, y.0, y.1, z.0, z.1) refl

pub bare-octals : (header : List ℕ) → is_bare (octals_of header) ≡ true
bare-octals [] = refl
bare-octals (c ∷ header) = bare-append (octal_of c) (octals_of header) (bare-by (is_letter c) c refl) (bare-octals header)

-- spaces have no quote
pub no_quote-spaces : (n : ℕ) → has_no_quote (spaces n) ≡ true
unfolding spaces
no_quote-spaces zero = refl
no_quote-spaces (suc n) = no_quote-spaces n

pub no_quote-append : (front text : List ℕ) → has_no_quote front ≡ true → has_no_quote text ≡ true → has_no_quote (front ++ text) ≡ true
no_quote-append [] text h t = t
no_quote-append (c ∷ front) text h t =
    let x = and_parts (not (c == 39)) (has_no_quote front) h in
    rw x.0 (no_quote-append front text x.1 t)
