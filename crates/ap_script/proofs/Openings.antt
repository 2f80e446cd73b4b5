-- Where `printf '` can stand in a text that is made of parts.
use Rattle.std.proofs.Common.{◌≡◌, ◌≢◌, ◌⊎◌, inl, inr, ℕ, zero, suc, ◌+◌, ◌-◌, ◌≤◌, ◌<◌, ◌==◌, ◌&&◌, not, Bool, true, List, [], ◌∷◌, ◌++◌, length, get_or, refl, sym, ap, ◌∙◌, arith, length-append, append_assoc, subst}
use Rattle.std.specs.Prelude.{codes}
use Rattle.std.proofs.lemmas.Bool.{and_parts, both_ways, cases_lt, not-true}
use Rattle.std.proofs.lemmas.Bool.Decides.{nat_tests}
use Rattle.std.proofs.lemmas.List.{get_or_append_left, get_or-append_right}
use Rattle.ap_fields.specs.Bytes.{Holds}
use Rattle.ap_fields.proofs.Bytes.{holds-part}
use Rattle.ap_octal.specs.Statement.{octals_of, statement_of}
use Rattle.ap_script.specs.Stands.{HasZeros}
use Rattle.ap_script.proofs.Quotes.{has_no_quote, has_no_quote-says, is_clear, is_clear-says, bare-clear, bare-octals}

abbrev pub word : List ℕ
word = codes "printf '"

-- a text has no such byte
abbrev pub lacks : ℕ → List ℕ → Bool
lacks b [] = true
lacks b (c ∷ text) = not (c == b) && lacks b text

pub lacks-says : (b : ℕ) (text : List ℕ) (j : ℕ) → lacks b text ≡ true → j < length text → get_or text j 0 ≢ b
lacks-says b [] j h low e = absurd (omega (arith, low))
lacks-says b (c ∷ text) zero h low e =
    let same : (c == b) ≡ true = grind (arith, nat_tests, e) in
    both_ways (c == b) (not-true (c == b) (and_parts (not (c == b)) (lacks b text) h).0) same
lacks-says b (c ∷ text) (suc j) h low e = lacks-says b text j (and_parts (not (c == b)) (lacks b text) h).1 (omega arith) e

nonzero-byte : (j : ℕ) → j < 8 → get_or word j 0 ≢ 0
nonzero-byte j low = lacks-says 0 word j refl low

no-newline : (j : ℕ) → j < 8 → get_or word j 0 ≢ 10
no-newline j low = lacks-says 10 word j refl low

-- where each eight bytes hold a zero byte
pub not-in-zeros : (text : List ℕ) (k : ℕ) → HasZeros text → Holds text k word → ⊥
not-in-zeros text k has h =
    let z = has k h.fits in
    nonzero-byte z.0 z.1 (sym (h.same z.0 z.1) ∙ z.2)

-- ---- a part between others

pub holds-cut : (xs ys : List ℕ) (k : ℕ) → k + 8 ≤ length xs → Holds (xs ++ ys) k word → Holds xs k word
holds-cut xs ys k fits h = record {
  fits = fits;
  same = λ i low. sym (get_or_append_left xs ys 0 (k + i) (omega (arith, low))) ∙ h.same i low;
}

pub holds-later : (xs ys : List ℕ) (k : ℕ) → length xs ≤ k → Holds (xs ++ ys) k word → Holds ys (k - length xs) word
holds-later xs ys k past h =
    let n : ℕ = length xs in
    let long = length-append xs ys in
    let fits = h.fits in
    record {
      fits = omega arith;
      same = λ i low.
          let back : k + i - n ≡ k - n + i = omega arith in
          ap (λ j. get_or ys j 0) (sym back) ∙ sym (get_or-append_right xs ys n (k + i) 0 refl (omega arith)) ∙ h.same i low;
    }

-- a byte that the word doesn't have parts a text
abbrev pub IsApart : List ℕ → Type 0
IsApart text = (j : ℕ) → j < 8 → get_or word j 0 ≢ get_or text 0 0

pub apart-zero : (text : List ℕ) → get_or text 0 0 ≡ 0 → IsApart text
apart-zero text first j low e = nonzero-byte j low (e ∙ first)

pub apart-newline : (text : List ℕ) → get_or text 0 0 ≡ 10 → IsApart text
apart-newline text first j low e = no-newline j low (e ∙ first)

pub parted : (xs ys : List ℕ) (k : ℕ) → IsApart ys → Holds (xs ++ ys) k word → Holds xs k word ⊎ ((length xs ≤ k) × Holds ys (k - length xs) word)
parted xs ys k apart h =
    elim (cases_lt k (length xs)) [
      | inr past ↦ inr (past, holds-later xs ys k past h)
      | inl low ↦ elim (cases_lt (length xs) (k + 8)) [
        | inl over ↦
            (let n : ℕ = length xs in
            let there : k + (n - k) ≡ n = omega arith in
            let none : n - n ≡ 0 = omega arith in
            absurd (apart (n - k) (omega arith)
            (sym (h.same (n - k) (omega arith)) ∙ ap (λ i. get_or (xs ++ ys) i 0) there ∙ get_or-append_right xs ys n n 0 refl (omega arith) ∙ ap (λ i. get_or ys i 0) none)))
        | inr within ↦ inl (holds-cut xs ys k within h)
      ]
    ]

-- ---- quotes behind blanks

-- each quote behind a blank in a text, which starts at a place, has a property of the blank's place
abbrev pub Marks : (ℕ → Type 0) → ℕ → List ℕ → Type 0
Marks P at text = (i : ℕ) → get_or text i 0 ≡ 32 → get_or text (suc i) 0 ≡ 39 → P (at + i)

-- and the text doesn't begin with a quote
pub record Marked (P : ℕ → Type 0) (at : ℕ) (text : List ℕ) : Type 0 where
  pub starts : get_or text 0 0 ≢ 39
  pub marks : Marks P at text

starts-append : (xs ys : List ℕ) → get_or xs 0 0 ≢ 39 → get_or ys 0 0 ≢ 39 → get_or (xs ++ ys) 0 0 ≢ 39
starts-append [] ys x y = y
starts-append (c ∷ xs) ys x y = x

marks-append : (P : ℕ → Type 0) (at : ℕ) (xs ys : List ℕ) → Marks P at xs → Marks P (at + length xs) ys → get_or ys 0 0 ≢ 39 → Marks P at (xs ++ ys)
marks-append P at xs ys x y starts i blank quote =
    let n : ℕ = length xs in
    elim (cases_lt i n) [
      | inl low ↦ elim (cases_lt (suc i) n) [
        | inl next ↦ x i (sym (get_or_append_left xs ys 0 i low) ∙ blank) (sym (get_or_append_left xs ys 0 (suc i) next) ∙ quote)
        | inr end ↦
            (let none : suc i - n ≡ 0 = omega arith in
            absurd (starts (ap (λ j. get_or ys j 0) (sym none) ∙ sym (get_or-append_right xs ys n (suc i) 0 refl end) ∙ quote)))
      ]
      | inr past ↦
          (let next : suc i - n ≡ suc (i - n) = omega arith in
          let there : at + n + (i - n) ≡ at + i = omega arith in
          subst P there (y (i - n) (sym (get_or-append_right xs ys n i 0 refl past) ∙ blank)
          (ap (λ j. get_or ys j 0) (sym next) ∙ sym (get_or-append_right xs ys n (suc i) 0 refl (omega arith)) ∙ quote)))
    ]

pub marked-append : (P : ℕ → Type 0) (at : ℕ) (xs ys : List ℕ) → Marked P at xs → Marked P (at + length xs) ys → Marked P at (xs ++ ys)
marked-append P at xs ys x y = record { starts = starts-append xs ys x.starts y.starts; marks = marks-append P at xs ys x.marks y.marks y.starts }

pub marked-quiet : (P : ℕ → Type 0) (at : ℕ) (text : List ℕ) → has_no_quote text ≡ true → Marked P at text
marked-quiet P at text h = record { starts = has_no_quote-says text 0 h; marks = λ i blank quote. absurd (has_no_quote-says text (suc i) h quote) }

pub marks-clear : (P : ℕ → Type 0) (at : ℕ) (text : List ℕ) → is_clear 0 text ≡ true → Marks P at text
marks-clear P at text h i blank quote = absurd (is_clear-says 0 text i h blank quote)

-- a statement has one
clear-octals : (header : List ℕ) → is_clear 0 (39 ∷ (octals_of header ++ codes "'")) ≡ true
clear-octals header = bare-clear 39 (octals_of header) [] refl (bare-octals header) refl

marks-statement : (P : ℕ → Type 0) (at : ℕ) (header : List ℕ) → P (at + 6) → Marks P at (statement_of header)
unfolding statement_of
marks-statement P at header here zero blank quote = absurd (omega (arith, blank))
marks-statement P at header here (suc zero) blank quote = absurd (omega (arith, blank))
marks-statement P at header here (suc (suc zero)) blank quote = absurd (omega (arith, blank))
marks-statement P at header here (suc (suc (suc zero))) blank quote = absurd (omega (arith, blank))
marks-statement P at header here (suc (suc (suc (suc zero)))) blank quote = absurd (omega (arith, blank))
marks-statement P at header here (suc (suc (suc (suc (suc zero))))) blank quote = absurd (omega (arith, blank))
marks-statement P at header here (suc (suc (suc (suc (suc (suc zero)))))) blank quote = here
marks-statement P at header here (suc (suc (suc (suc (suc (suc (suc i))))))) blank quote =
    absurd (is_clear-says 0 (39 ∷ (octals_of header ++ codes "'")) i (clear-octals header) blank quote)

pub marked-statement : (P : ℕ → Type 0) (at : ℕ) (header : List ℕ) → P (at + 6) → Marked P at (statement_of header)
unfolding statement_of
marked-statement P at header here = record { starts = λ e. omega (arith, e); marks = marks-statement P at header here }

pub marks-hold : (P : ℕ → Type 0) (at : ℕ) (text : List ℕ) (k : ℕ) → Marks P at text → Holds text k word → P (at + (k + 6))
marks-hold P at text k m h =
    let next : suc (k + 6) ≡ k + 7 = omega arith in
    m (k + 6) (h.same 6 (omega arith)) (ap (λ i. get_or text i 0) next ∙ h.same 7 (omega arith))

-- ---- a statement in a text

-- a statement stands at a place
pub record Parts (text : List ℕ) (place : ℕ) (header : List ℕ) : Type 0 where
  pub front : List ℕ
  pub behind : List ℕ
  pub long : length front ≡ place
  pub whole : text ≡ front ++ (statement_of header ++ behind)

pub parts-behind : (xs ys : List ℕ) (place : ℕ) (header : List ℕ) → Parts ys place header → Parts (xs ++ ys) (length xs + place) header
parts-behind xs ys place header p = record {
  front = xs ++ p.front;
  behind = p.behind;
  long = length-append xs p.front ∙ ap (λ n. length xs + n) p.long;
  whole = ap (λ r. xs ++ r) p.whole ∙ sym (append_assoc xs p.front (statement_of header ++ p.behind));
}

pub parts-front : (xs ys : List ℕ) (place : ℕ) (header : List ℕ) → Parts xs place header → Parts (xs ++ ys) place header
parts-front xs ys place header p = record {
  front = p.front;
  behind = p.behind ++ ys;
  long = p.long;
  whole =
      ap (λ r. r ++ ys) p.whole
      ∙ append_assoc p.front (statement_of header ++ p.behind) ys
      ∙ ap (λ r. p.front ++ r) (append_assoc (statement_of header) p.behind ys);
}

pub parts-holds : (text : List ℕ) (place : ℕ) (header : List ℕ) → Parts text place header → Holds text place (statement_of header)
parts-holds text place header p =
    subst (λ w. Holds w place (statement_of header)) (sym p.whole) (holds-part p.front (statement_of header) p.behind place (sym p.long))
