-- Words of the script whose bytes aren't fixed, read: a text in single quotes, and a number in decimal.
use Rattle.std.proofs.Common.{◌≡◌, ◌∙◌, ap, sym, refl, ℕ, zero, suc, ◌+◌, ◌-◌, ◌*◌, ◌/◌, ◌%◌, ◌^◌, ◌<◌, ◌≤◌, ◌==◌, not, List, [], ◌∷◌, ◌++◌, Bool, true, false, cond, length, arith, append_assoc}
use Rattle.std.specs.Prelude.{Option, Some, None}
use Rattle.std.specs.Fmt.{decimal}
use Rattle.std.proofs.lemmas.Bool.{and_parts}
use Rattle.std.proofs.lemmas.Bool.Decides.{nat_tests}
use Rattle.std.proofs.lemmas.Fmt.{decimal_by_steps, decimal_nonempty, length-decimal-le}
use Rattle.std.proofs.lemmas.List.{append-nil}
use Rattle.ap_octal.specs.DdPlace.{is_digit, short_number, with_digits}
use Rattle.ap_script.proofs.Quotes.{has_no_quote}
use Rattle.ap_shparse.specs.Bytes.{Text, ends_word, is_plain}
use Rattle.ap_shparse.specs.Reads.{Outcome}
use Rattle.ap_shparse.specs.Pieces.{none_found, outside, pieces, plain, unit, units, with_bytes}
use Rattle.ap_shparse.specs.declared.tree.Simple.{Simple}
use Rattle.ap_shparse.proofs.QuotedTexts.{lacks, single_reads}

-- ---- single quotes

pub lacks_quote : (t : Text) → has_no_quote t ≡ true → lacks 39 t ≡ true
lacks_quote [] h = refl
lacks_quote (c ∷ t) h =
    let parts = and_parts (not (c == 39)) (has_no_quote t) h in
    rw parts.0 (lacks_quote t parts.1)

-- a blank ends a word
units_end : (sub : Text → Outcome Text Simple) (n : ℕ) (t u : Text) → units sub n (with_bytes none_found t) (32 ∷ u) ≡ Some (with_bytes none_found t, 32 ∷ u)
unfolding units ends_word
units_end sub zero t u = refl
units_end sub (suc n) t u = refl

-- a word in single quotes
pub quoted_word : (sub : Text → Outcome Text Simple) (t u : Text) → lacks 39 t ≡ true
    → pieces sub (39 ∷ (t ++ 39 ∷ 32 ∷ u)) ≡ Some (with_bytes none_found t, 32 ∷ u)
unfolding pieces units unit outside ends_word
quoted_word sub t u h = rw (single_reads none_found t (32 ∷ u) h, units_end sub (length (t ++ 39 ∷ 32 ∷ u)) t u) refl

-- ---- decimal digits

-- all bytes are digits
abbrev pub AreDigits : List ℕ → Type 0
AreDigits [] = Unit {0}
AreDigits (c ∷ ds) = (n : ℕ) × (n < 10) × (c ≡ 48 + n) × AreDigits ds

digits_push : (ds : List ℕ) (n : ℕ) → AreDigits ds → n < 10 → AreDigits (ds ++ (48 + n) ∷ [])
digits_push [] n all low = (n, low, refl, tt)
digits_push (c ∷ ds) n all low = (all.0, all.1, all.2, digits_push ds n all.3 low)

pub decimal_digits : (n : ℕ) → n < 2 ^ 64 → AreDigits (decimal n)
decimal_digits n small =
    decimal_by_steps (λ m ds. AreDigits ds) (λ m low. (m, low, refl, tt)) (λ m ds high all. digits_push ds (m % 10) all (omega arith)) n small

digit_step : (sub : Text → Outcome Text Simple) (k n : ℕ) (t u : Text) → n < 10
    → units sub (suc k) (with_bytes none_found t) ((48 + n) ∷ u) ≡ units sub k (with_bytes none_found (t ++ (48 + n) ∷ [])) u
unfolding units unit outside plain is_plain ends_word
digit_step sub k zero t u low = refl
digit_step sub k (suc zero) t u low = refl
digit_step sub k (suc (suc zero)) t u low = refl
digit_step sub k (suc (suc (suc zero))) t u low = refl
digit_step sub k (suc (suc (suc (suc zero)))) t u low = refl
digit_step sub k (suc (suc (suc (suc (suc zero))))) t u low = refl
digit_step sub k (suc (suc (suc (suc (suc (suc zero)))))) t u low = refl
digit_step sub k (suc (suc (suc (suc (suc (suc (suc zero))))))) t u low = refl
digit_step sub k (suc (suc (suc (suc (suc (suc (suc (suc zero)))))))) t u low = refl
digit_step sub k (suc (suc (suc (suc (suc (suc (suc (suc (suc zero))))))))) t u low = refl
digit_step sub k (suc (suc (suc (suc (suc (suc (suc (suc (suc (suc n)))))))))) t u low = absurd (omega (arith, low))

pub units_digits : (sub : Text → Outcome Text Simple) (ds t u : Text) → AreDigits ds
    → units sub (length (ds ++ 32 ∷ u)) (with_bytes none_found t) (ds ++ 32 ∷ u) ≡ Some (with_bytes none_found (t ++ ds), 32 ∷ u)
units_digits sub [] t u all = units_end sub (suc (length u)) t u ∙ ap (λ v. Some (with_bytes none_found v, 32 ∷ u)) (sym (append-nil t))
units_digits sub (c ∷ ds) t u all =
    ap (λ d. units sub (suc (length (ds ++ 32 ∷ u))) (with_bytes none_found t) (d ∷ (ds ++ 32 ∷ u))) all.2
    ∙ digit_step sub (length (ds ++ 32 ∷ u)) all.0 t (ds ++ 32 ∷ u) all.1
    ∙ units_digits sub ds (t ++ (48 + all.0) ∷ []) u all.3
    ∙ ap (λ v. Some (with_bytes none_found v, 32 ∷ u)) (append_assoc t ((48 + all.0) ∷ []) ds ∙ ap (λ d. t ++ d ∷ ds) (sym all.2))

-- ---- what `dd` reads of a number

digit_read : (v n : ℕ) → n < 10 → with_digits v ((48 + n) ∷ []) ≡ Some (v * 10 + n)
digit_read v zero low = refl
digit_read v (suc zero) low = refl
digit_read v (suc (suc zero)) low = refl
digit_read v (suc (suc (suc zero))) low = refl
digit_read v (suc (suc (suc (suc zero)))) low = refl
digit_read v (suc (suc (suc (suc (suc zero))))) low = refl
digit_read v (suc (suc (suc (suc (suc (suc zero)))))) low = refl
digit_read v (suc (suc (suc (suc (suc (suc (suc zero))))))) low = refl
digit_read v (suc (suc (suc (suc (suc (suc (suc (suc zero)))))))) low = refl
digit_read v (suc (suc (suc (suc (suc (suc (suc (suc (suc zero))))))))) low = refl
digit_read v (suc (suc (suc (suc (suc (suc (suc (suc (suc (suc n)))))))))) low = absurd (omega (arith, low))

some_is : (v k : ℕ) → ◌≡◌ {A = Option ℕ} (Some v) (Some k) → v ≡ k
some_is v k e = cc

no_none : (k : ℕ) → ◌≡◌ {A = Option ℕ} None (Some k) → ⊥
no_none k e = cc

digits_more_by : (b : Bool) (v c k n : ℕ) (ds : List ℕ) → ((m : ℕ) → with_digits m ds ≡ Some k → with_digits m (ds ++ (48 + n) ∷ []) ≡ Some (k * 10 + n))
    → cond b (with_digits (v * 10 + (c - 48)) ds) None ≡ Some k → cond b (with_digits (v * 10 + (c - 48)) (ds ++ (48 + n) ∷ [])) None ≡ Some (k * 10 + n)
digits_more_by true v c k n ds next is = next (v * 10 + (c - 48)) is
digits_more_by false v c k n ds next is = absurd (no_none k is)

digits_more : (ds : List ℕ) (v k n : ℕ) → n < 10 → with_digits v ds ≡ Some k → with_digits v (ds ++ (48 + n) ∷ []) ≡ Some (k * 10 + n)
digits_more [] v k n low is = digit_read v n low ∙ ap (λ m. Some (m * 10 + n)) (some_is v k is)
digits_more (c ∷ ds) v k n low is = digits_more_by (is_digit c) v c k n ds (λ m e. digits_more ds m k n low e) is

decimal_read : (n : ℕ) → n < 2 ^ 64 → with_digits 0 (decimal n) ≡ Some n
decimal_read n small =
    decimal_by_steps (λ m ds. with_digits 0 ds ≡ Some m) (λ m low. digit_read 0 m low ∙ ap (λ k. Some k) (first m))
    (λ m ds high is. digits_more ds 0 (m / 10) (m % 10) (omega arith) is ∙ ap (λ k. Some k) (whole m)) n small
  where
    first : (m : ℕ) → 0 * 10 + m ≡ m
    first m = omega arith

    whole : (m : ℕ) → m / 10 * 10 + m % 10 ≡ m
    whole m = omega arith

short_by : (t : List ℕ) (n : ℕ) → 0 < length t → length t ≤ 9 → with_digits 0 t ≡ Some n → short_number t ≡ Some n
short_by t n some few is = grind (arith, nat_tests, is)

pub short_decimal : (n : ℕ) → n < 10 ^ 9 → short_number (decimal n) ≡ Some n
short_decimal n small =
    short_by (decimal n) n (decimal_nonempty n (omega arith)) (length-decimal-le 9 n (omega arith) (omega arith) (omega arith)) (decimal_read n (omega arith))
