-- The front of octal text, by what stands at its first places.
use Rattle.std.proofs.Common.{◌≡◌, ℕ, ◌+◌, ◌*◌, ◌<◌, ◌≤◌, List, [], ◌∷◌, length, drop, slice_index, refl, sym, subst, arith}
use Rattle.ap_octal.specs.OctalText.{IsPlain, EndsDigits, octal1, octal2, octal3}
use Rattle.ap_octal.specs.OctalSteps.{Splits, Begins, HasDigit}
use Rattle.ap_octal.proofs.OctalSplits.{splits-plain, splits-one, splits-two, splits-three}

-- the first byte and the byte that it stands for under other names
renamed : (m n b d : ℕ) (text rest : List ℕ) → m ≡ n → b ≡ d → Splits (n ∷ text) (d ∷ []) rest → Splits (m ∷ text) (b ∷ []) rest
renamed m n b d text rest first byte s =
    subst (λ x. Splits (x ∷ text) (b ∷ []) rest) (sym first) (subst (λ x. Splits (n ∷ text) (x ∷ []) rest) (sym byte) s)

pub begins-plain : (text : List ℕ) (b : ℕ) → 0 < length text → b ≡ slice_index text 0 → IsPlain b → Begins text b 1
begins-plain [] b some is plain = absurd (omega arith)
begins-plain (c ∷ text) b some is plain = record {
  some = omega arith;
  within = omega arith;
  splits = renamed c b b b text text (sym is) refl (splits-plain b text plain);
}

pub begins-one : (text : List ℕ) (d : ℕ) → slice_index text 0 ≡ 92 → HasDigit text 1 d → EndsDigits (drop 2 text) → Begins text d 2
begins-one [] d first x ends = absurd (let w = x.within in omega arith)
begins-one (m ∷ []) d first x ends = absurd (let w = x.within in omega arith)
begins-one (m ∷ a ∷ text) d first x ends = record {
  some = omega arith;
  within = omega arith;
  splits = renamed m 92 d (octal1 a) (a ∷ text) text first x.value (splits-one a text x.is_digit ends);
}

pub begins-two : (text : List ℕ) (d e : ℕ) → slice_index text 0 ≡ 92 → HasDigit text 1 d → HasDigit text 2 e → EndsDigits (drop 3 text) → Begins text (d * 8 + e) 3
begins-two [] d e first x y ends = absurd (let w = y.within in omega arith)
begins-two (m ∷ []) d e first x y ends = absurd (let w = y.within in omega arith)
begins-two (m ∷ a ∷ []) d e first x y ends = absurd (let w = y.within in omega arith)
begins-two (m ∷ a ∷ b ∷ text) d e first x y ends =
    let v = x.value in
    let w = y.value in
    record {
      some = omega arith;
      within = omega arith;
      splits = renamed m 92 (d * 8 + e) (octal2 a b) (a ∷ b ∷ text) text first (omega arith) (splits-two a b text x.is_digit y.is_digit ends);
    }

pub begins-three : (text : List ℕ) (d e f : ℕ) → slice_index text 0 ≡ 92 → HasDigit text 1 d → HasDigit text 2 e → HasDigit text 3 f → (d * 8 + e) * 8 + f ≤ 255
    → Begins text ((d * 8 + e) * 8 + f) 4
begins-three [] d e f first x y z small = absurd (let w = z.within in omega arith)
begins-three (m ∷ []) d e f first x y z small = absurd (let w = z.within in omega arith)
begins-three (m ∷ a ∷ []) d e f first x y z small = absurd (let w = z.within in omega arith)
begins-three (m ∷ a ∷ b ∷ []) d e f first x y z small = absurd (let w = z.within in omega arith)
begins-three (m ∷ a ∷ b ∷ c ∷ text) d e f first x y z small =
    let v = x.value in
    let w = y.value in
    let u = z.value in
    record {
      some = omega arith;
      within = omega arith;
      splits = renamed m 92 ((d * 8 + e) * 8 + f) (octal3 a b c) (a ∷ b ∷ c ∷ text) text first (omega arith)
          (splits-three a b c text x.is_digit y.is_digit z.is_digit (omega arith));
    }
