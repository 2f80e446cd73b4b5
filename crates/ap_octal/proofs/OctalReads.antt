-- Reading octal text from left to right gives what it stands for.
use Rattle.std.proofs.Common.{◌≡◌, ◌≢◌, ℕ, zero, suc, ◌<◌, ◌≤◌, ◌==◌, List, [], ◌∷◌, Bool, true, false, cond, nat_le, length, Option, Some, None, refl, sym, ap, subst, arith, inl, inr}
use Rattle.std.specs.Prelude.{MatchOption, option_map}
use Rattle.std.specs.Option.{option_and_then}
use Rattle.std.proofs.lemmas.Bool.Decides.{nat_tests}
use Rattle.std.proofs.lemmas.Bool.{cases_lt}
use Rattle.ap_octal.specs.OctalText.{IsOctal, IsPlain, IsOctalDigit, octal1, octal2, octal3}
use Rattle.ap_octal.specs.OctalText.IsOctal.{empty}
use Rattle.ap_octal.specs.OctalSteps.{Splits, IsNoOctal}
use Rattle.ap_octal.specs.OctalReading.{is_octal_digit, is_plain, with_digits, byte_before, escaped, first_byte, bytes_within, octal_bytes_of}
use Rattle.ap_octal.proofs.OctalSplits.{splits-plain, splits-one, splits-two, splits-three, none-plain, none-digit, none-three, none-rest}
use Rattle.ap_octal.proofs.OctalLemmas.{exact}

digit : (c : ℕ) → is_octal_digit c ≡ true → IsOctalDigit c
digit c h = record { low = grind (arith, nat_tests); high = grind (arith, nat_tests) }

no-digit : (c : ℕ) → is_octal_digit c ≡ false → ¬ IsOctalDigit c
no-digit c h d = let low = d.low in let high = d.high in grind (arith, nat_tests)

plain-byte : (c : ℕ) → is_plain c ≡ true → IsPlain c
plain-byte c h = record {
  above = grind (arith, nat_tests);
  ascii = grind (arith, nat_tests);
  percent = grind (arith, nat_tests);
  quote = grind (arith, nat_tests);
  backslash = grind (arith, nat_tests);
}

no-plain-byte : (c : ℕ) → is_plain c ≡ false → ¬ IsPlain c
no-plain-byte c h p =
    let above = p.above in
    let ascii = p.ascii in
    let percent = p.percent in
    let quote = p.quote in
    let backslash = p.backslash in
    grind (arith, nat_tests)

-- what a reading of the first byte says of a text
abbrev FirstOf : List ℕ → ℕ × List ℕ → Type 0
FirstOf text first = Splits text (first.0 ∷ []) first.1 × (length first.1 < length text)

abbrev Says : List ℕ → Option (ℕ × List ℕ) → Type 0
Says text found = MatchOption found (IsNoOctal text) (FirstOf text)

small : (text : List ℕ) (value : ℕ) (rest : List ℕ) → value ≤ 255 → FirstOf text (value, rest) → Says text (byte_before (value, rest))
small text value rest fits first = let test : nat_le value 255 ≡ true = grind (arith, nat_tests) in rw test first

big : (text : List ℕ) (value : ℕ) (rest : List ℕ) → 255 < value → IsNoOctal text → Says text (byte_before (value, rest))
big text value rest past none = let test : nat_le value 255 ≡ false = grind (arith, nat_tests) in rw test none

third : (b : Bool) (x y z : ℕ) (text : List ℕ) → is_octal_digit z ≡ b → IsOctalDigit x → IsOctalDigit y
    → Says (92 ∷ x ∷ y ∷ z ∷ text) (byte_before (cond b (octal3 x y z, text) (octal2 x y, z ∷ text)))
third true x y z text is d e =
    elim (cases_lt 255 (octal3 x y z)) [
      | inl past ↦ big (92 ∷ x ∷ y ∷ z ∷ text) (octal3 x y z) text past (none-three x y z text e (digit z is) past)
      | inr fits ↦ small (92 ∷ x ∷ y ∷ z ∷ text) (octal3 x y z) text fits (splits-three x y z text d e (digit z is) fits, omega arith)
    ]
third false x y z text is d e =
    let dh = d.high in
    let eh = e.high in
    small (92 ∷ x ∷ y ∷ z ∷ text) (octal2 x y) (z ∷ text) (omega arith) (splits-two x y (z ∷ text) d e (no-digit z is), omega arith)

second : (b : Bool) (x y : ℕ) (text : List ℕ) → is_octal_digit y ≡ b → IsOctalDigit x
    → Says (92 ∷ x ∷ y ∷ text) (byte_before (cond b (with_digits 1 (octal2 x y) text) (octal1 x, y ∷ text)))
second false x y text is d =
    let dh = d.high in
    small (92 ∷ x ∷ y ∷ text) (octal1 x) (y ∷ text) (omega arith) (splits-one x (y ∷ text) d (no-digit y is), omega arith)
second true x y [] is d =
    let e = digit y is in
    let dh = d.high in
    let eh = e.high in
    small (92 ∷ x ∷ y ∷ []) (octal2 x y) [] (omega arith) (splits-two x y [] d e tt, omega arith)
second true x y (z ∷ text) is d = third (is_octal_digit z) x y z text refl d (digit y is)

escaped-first : (b : Bool) (x : ℕ) (text : List ℕ) → is_octal_digit x ≡ b → Says (92 ∷ x ∷ text) (cond b (byte_before (with_digits 2 (octal1 x) text)) None)
escaped-first false x text is = none-digit (x ∷ text) (no-digit x is)
escaped-first true x [] is =
    let d = digit x is in
    let dh = d.high in
    small (92 ∷ x ∷ []) (octal1 x) [] (omega arith) (splits-one x [] d tt, omega arith)
escaped-first true x (y ∷ text) is = second (is_octal_digit y) x y text refl (digit x is)

escaped-says : (text : List ℕ) → Says (92 ∷ text) (escaped text)
escaped-says [] = none-digit [] tt
escaped-says (x ∷ text) = escaped-first (is_octal_digit x) x text refl

plain-says : (b : Bool) (c : ℕ) (text : List ℕ) → is_plain c ≡ b → c ≢ 92 → Says (c ∷ text) (cond b (Some (c, text)) None)
plain-says true c text is other = (splits-plain c text (plain-byte c is), omega arith)
plain-says false c text is other = none-plain c text (no-plain-byte c is) other

first-by : (b : Bool) (c : ℕ) (text : List ℕ) → (c == 92) ≡ b → Says (c ∷ text) (cond b (escaped text) (cond (is_plain c) (Some (c, text)) None))
first-by true c text is = let same : c ≡ 92 = grind (arith, nat_tests) in subst (λ x. Says (x ∷ text) (escaped text)) (sym same) (escaped-says text)
first-by false c text is = plain-says (is_plain c) c text refl (λ e. grind (arith, nat_tests))

first-says : (c : ℕ) (text : List ℕ) → Says (c ∷ text) (first_byte c text)
first-says c text = first-by (c == 92) c text refl

abbrev Reads : List ℕ → Option (List ℕ) → Type 0
Reads text found = MatchOption found (IsNoOctal text) (λ bytes. IsOctal text bytes)

rest-says : (text rest : List ℕ) (byte : ℕ) (found : Option (List ℕ)) → Splits text (byte ∷ []) rest → Reads rest found → Reads text (option_map (λ bytes. byte ∷ bytes) found)
rest-says text rest byte None s h = none-rest text (byte ∷ []) rest s h
rest-says text rest byte (Some bytes) s h = s.there bytes h

behind-says : (n : ℕ) (text : List ℕ) (found : Option (ℕ × List ℕ)) → ((rest : List ℕ) → length rest ≤ n → Reads rest (bytes_within n rest)) → length text ≤ suc n → Says text found
    → Reads text (option_and_then (λ first. option_map (λ bytes. first.0 ∷ bytes) (bytes_within n first.1)) found)
behind-says n text None rest h none = none
behind-says n text (Some first) rest h s =
    let shorter = s.1 in rest-says text first.1 first.0 (bytes_within n first.1) s.0 (rest first.1 (omega arith))

within-says : (n : ℕ) (text : List ℕ) → length text ≤ n → Reads text (bytes_within n text)
within-says zero [] h = empty
within-says (suc n) [] h = empty
within-says zero (c ∷ text) h = absurd (omega (arith, h))
within-says (suc n) (c ∷ text) h = behind-says n (c ∷ text) (first_byte c text) (within-says n) (omega (arith, h)) (first-says c text)

pub octal_bytes_of-says : (text : List ℕ) → MatchOption (octal_bytes_of text) (IsNoOctal text) (λ bytes. IsOctal text bytes)
unfolding octal_bytes_of
octal_bytes_of-says text = within-says (length text) text (omega arith)

-- so it is the bytes exactly where the text is octal text of them
found-says : (text bytes : List ℕ) (found : Option (List ℕ)) → Reads text found → IsOctal text bytes → found ≡ Some bytes
found-says text bytes None none h = absurd (none bytes h)
found-says text bytes (Some others) octal h = ap (λ (l : List ℕ). Some l) (exact text others bytes octal h)

pub octal_bytes_of-some : (text bytes : List ℕ) → IsOctal text bytes → octal_bytes_of text ≡ Some bytes
octal_bytes_of-some text bytes h = found-says text bytes (octal_bytes_of text) (octal_bytes_of-says text) h

pub octal_bytes_of-back : (text bytes : List ℕ) → octal_bytes_of text ≡ Some bytes → IsOctal text bytes
octal_bytes_of-back text bytes h = subst (λ found. Reads text found) h (octal_bytes_of-says text)
