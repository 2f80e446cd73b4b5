-- Hexadecimal digits.
use Rattle.std.proofs.Common.{◌≡◌, ◌≢◌, ℕ, zero, suc, ◌-◌, ◌/◌, ◌%◌, [], ◌∷◌, ◌++◌, refl, sym, ap, arith}
use Rattle.ap_texts.specs.PlanTexts.{hex_digits, digit}

pub no-digits : (n number : ℕ) → n ≡ 0 → hex_digits n number ≡ []
unfolding hex_digits
no-digits zero number e = refl
no-digits (suc n) number e = absurd (omega arith)

pub more-digits : (n number : ℕ) → n ≢ 0 → hex_digits n number ≡ hex_digits (n - 1) (number / 16) ++ digit (number % 16) ∷ []
unfolding hex_digits
more-digits zero number e = absurd (e refl)
more-digits (suc n) number e =
    let same : suc n - 1 ≡ n = omega arith in
    ap (λ k. hex_digits k (number / 16) ++ digit (number % 16) ∷ []) (sym same)

pub ruleset digit_steps = (no-digits, more-digits)
