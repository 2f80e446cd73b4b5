-- How octal text begins, by its first byte and the digits behind a backslash.
use Rattle.std.proofs.Common.{◌≡◌, ◌≢◌, ℕ, ◌<◌, ◌≤◌, List, [], ◌∷◌, ◌++◌, refl, sym, ap, ◌∙◌, subst, arith, append_assoc, append-nil, length}
use Rattle.ap_octal.specs.OctalText.{IsOctal, IsPlain, IsOctalDigit, EndsDigits, octal1, octal2, octal3}
use Rattle.ap_octal.specs.OctalText.IsOctal.{empty, plain, one, two, three}
use Rattle.ap_octal.specs.OctalSteps.{Splits, IsNoOctal}

-- what stands behind the byte of a front
abbrev Behind : ℕ → List ℕ → List ℕ → Type 0
Behind byte bytes rest = (behind : List ℕ) × (bytes ≡ byte ∷ behind) × IsOctal rest behind

plain-back : (c : ℕ) (text bytes : List ℕ) → IsPlain c → IsOctal (c ∷ text) bytes → Behind c bytes text
plain-back _ _ _ p (plain c text behind q h) = (behind, refl, h)
plain-back _ _ _ p (one a text bytes d e h) = absurd (p.backslash refl)
plain-back _ _ _ p (two a b text bytes d e f h) = absurd (p.backslash refl)
plain-back _ _ _ p (three a b c text bytes d e f v h) = absurd (p.backslash refl)

pub splits-plain : (c : ℕ) (text : List ℕ) → IsPlain c → Splits (c ∷ text) (c ∷ []) text
splits-plain c text p = record {
  there = λ behind h. plain c text behind p h;
  back = λ bytes h. plain-back c text bytes p h;
}

one-back : (m a : ℕ) (text bytes : List ℕ) → m ≡ 92 → EndsDigits text → IsOctal (m ∷ a ∷ text) bytes → Behind (octal1 a) bytes text
one-back _ _ _ _ is ends (plain c text behind q h) = absurd (q.backslash is)
one-back _ _ _ _ is ends (one a text behind d e h) = (behind, refl, h)
one-back _ _ _ _ is ends (two a b text bytes d e f h) = absurd (ends e)
one-back _ _ _ _ is ends (three a b c text bytes d e f v h) = absurd (ends e)

pub splits-one : (a : ℕ) (text : List ℕ) → IsOctalDigit a → EndsDigits text → Splits (92 ∷ a ∷ text) (octal1 a ∷ []) text
splits-one a text d ends = record {
  there = λ behind h. one a text behind d ends h;
  back = λ bytes h. one-back 92 a text bytes refl ends h;
}

two-back : (m a b : ℕ) (text bytes : List ℕ) → m ≡ 92 → IsOctalDigit b → EndsDigits text → IsOctal (m ∷ a ∷ b ∷ text) bytes → Behind (octal2 a b) bytes text
two-back _ _ _ _ _ is digit ends (plain c text behind q h) = absurd (q.backslash is)
two-back _ _ _ _ _ is digit ends (one a text behind d e h) = absurd (e digit)
two-back _ _ _ _ _ is digit ends (two a b text behind d e f h) = (behind, refl, h)
two-back _ _ _ _ _ is digit ends (three a b c text bytes d e f v h) = absurd (ends f)

pub splits-two : (a b : ℕ) (text : List ℕ) → IsOctalDigit a → IsOctalDigit b → EndsDigits text → Splits (92 ∷ a ∷ b ∷ text) (octal2 a b ∷ []) text
splits-two a b text d e ends = record {
  there = λ behind h. two a b text behind d e ends h;
  back = λ bytes h. two-back 92 a b text bytes refl e ends h;
}

three-back : (m a b c : ℕ) (text bytes : List ℕ) → m ≡ 92 → IsOctalDigit b → IsOctalDigit c → IsOctal (m ∷ a ∷ b ∷ c ∷ text) bytes
    → (octal3 a b c ≤ 255) × Behind (octal3 a b c) bytes text
three-back _ _ _ _ _ _ is second third (plain c text behind q h) = absurd (q.backslash is)
three-back _ _ _ _ _ _ is second third (one a text behind d e h) = absurd (e second)
three-back _ _ _ _ _ _ is second third (two a b text behind d e f h) = absurd (f third)
three-back _ _ _ _ _ _ is second third (three a b c text behind d e f v h) = (v, (behind, refl, h))

pub splits-three : (a b c : ℕ) (text : List ℕ) → IsOctalDigit a → IsOctalDigit b → IsOctalDigit c → octal3 a b c ≤ 255 → Splits (92 ∷ a ∷ b ∷ c ∷ text) (octal3 a b c ∷ []) text
splits-three a b c text d e f v = record {
  there = λ behind h. three a b c text behind d e f v h;
  back = λ bytes h. (three-back 92 a b c text bytes refl e f h).1;
}

-- ---- what is no octal text

unplain : (c : ℕ) (text bytes : List ℕ) → ¬ IsPlain c → c ≢ 92 → IsOctal (c ∷ text) bytes → ⊥
unplain _ _ _ bad other (plain c text behind q h) = bad q
unplain _ _ _ bad other (one a text bytes d e h) = other refl
unplain _ _ _ bad other (two a b text bytes d e f h) = other refl
unplain _ _ _ bad other (three a b c text bytes d e f v h) = other refl

pub none-plain : (c : ℕ) (text : List ℕ) → ¬ IsPlain c → c ≢ 92 → IsNoOctal (c ∷ text)
none-plain c text bad other bytes h = unplain c text bytes bad other h

undigit : (m : ℕ) (text bytes : List ℕ) → m ≡ 92 → EndsDigits text → IsOctal (m ∷ text) bytes → ⊥
undigit _ _ _ is ends (plain c text behind q h) = q.backslash is
undigit _ _ _ is ends (one a text bytes d e h) = ends d
undigit _ _ _ is ends (two a b text bytes d e f h) = ends d
undigit _ _ _ is ends (three a b c text bytes d e f v h) = ends d

pub none-digit : (text : List ℕ) → EndsDigits text → IsNoOctal (92 ∷ text)
none-digit text ends bytes h = undigit 92 text bytes refl ends h

pub none-three : (a b c : ℕ) (text : List ℕ) → IsOctalDigit b → IsOctalDigit c → 255 < octal3 a b c → IsNoOctal (92 ∷ a ∷ b ∷ c ∷ text)
none-three a b c text second third big bytes h = let v = (three-back 92 a b c text bytes refl second third h).0 in absurd (omega arith)

-- ---- step by step

pub splits-all : (text : List ℕ) → Splits text [] text
splits-all text = record { there = λ behind h. h; back = λ bytes h. (bytes, refl, h) }

pub splits-more : (text front rest more last : List ℕ) → Splits text front rest → Splits rest more last → Splits text (front ++ more) last
splits-more text front rest more last first second = record {
  there = λ behind h. subst (λ bytes. IsOctal text bytes) (sym (append_assoc front more behind)) (first.there (more ++ behind) (second.there behind h));
  back = λ bytes h.
      let a = first.back bytes h in
      let b = second.back a.0 a.2 in
      (b.0, a.1 ∙ ap (λ l. front ++ l) b.1 ∙ sym (append_assoc front more b.0), b.2);
}

-- where the rest stands for nothing, so does the text
pub none-rest : (text front rest : List ℕ) → Splits text front rest → IsNoOctal rest → IsNoOctal text
none-rest text front rest s none bytes h = let b = s.back bytes h in none b.0 b.2

-- the text is done
empty-back : (bytes : List ℕ) → IsOctal [] bytes → bytes ≡ []
empty-back _ empty = refl

pub splits-done : (text bytes : List ℕ) → Splits text bytes [] → (b : List ℕ) → IsOctal text b → b ≡ bytes ++ []
splits-done text bytes s b h = let r = s.back b h in r.1 ∙ ap (λ l. bytes ++ l) (empty-back r.0 r.2)

pub whole : (text rest front : List ℕ) → Splits text front rest → length rest ≡ 0 → IsOctal text front
whole text [] front s none = subst (λ bytes. IsOctal text bytes) (append-nil front) (s.there [] empty)
whole text (c ∷ rest) front s none = absurd (omega (arith, none))
