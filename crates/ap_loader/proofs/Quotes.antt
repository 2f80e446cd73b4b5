-- The text in front of the first quote.
use Rattle.std.proofs.Common.{◌≡◌, ◌≢◌, ℕ, zero, suc, ◌+◌, ◌-◌, ◌<◌, ◌≤◌, ◌==◌, List, [], ◌∷◌, Bool, true, false, cond, length, take, drop, get_or, Option, Some, None, refl, sym, ap, ◌∙◌, arith}
use Rattle.std.specs.Prelude.{MatchOption, option_map, slice_range}
use Rattle.std.proofs.lemmas.Bool.Decides.{nat_tests}
use Rattle.std.proofs.lemmas.List.{drop-take, take-take}
use Rattle.ap_fields.specs.declared.sizes.TheConstants.{WINDOW}
use Rattle.ap_octal.specs.Embedded.{Closes}
use Rattle.ap_octal.proofs.WindowLemmas.{part-at, length-part}
use Rattle.ap_loader.specs.Embedded.{before_quote}

-- a text stands in front of the first quote of another
pub record IsBefore (text front : List ℕ) : Type 0 where
  pub within : length front < length text
  pub quote : get_or text (length front) 0 ≡ 39
  pub same : take (length front) text ≡ front
  pub first : (k : ℕ) → k < length front → get_or text k 0 ≢ 39

pub before_quote-found : (text : List ℕ) (n : ℕ) → n < length text → get_or text n 0 ≡ 39 → ((k : ℕ) → k < n → get_or text k 0 ≢ 39) → before_quote text ≡ Some (take n text)
before_quote-found [] n within quote first = absurd (omega (arith, within))
before_quote-found (c ∷ text) zero within quote first = let test : (c == 39) ≡ true = grind (arith, nat_tests, quote) in rw test refl
before_quote-found (c ∷ text) (suc n) within quote first =
    let other = first 0 (omega arith) in
    let test : (c == 39) ≡ false = grind (arith, nat_tests) in
    let rest = before_quote-found text n (omega (arith, within)) quote (λ k below. first (suc k) (omega arith)) in
    rw (test, rest) refl

abbrev Before : List ℕ → Option (List ℕ) → Type 0
Before text found = MatchOption found (Unit {0}) (IsBefore text)

before-later : (c : ℕ) (text : List ℕ) (found : Option (List ℕ)) → c ≢ 39 → Before text found → Before (c ∷ text) (option_map (λ front. c ∷ front) found)
before-later c text None other h = tt
before-later c text (Some front) other h =
    let within = h.within in
    record {
      within = omega arith;
      quote = h.quote;
      same = ap (λ l. c ∷ l) h.same;
      first = first-later c text front other h.first;
    }
  where
    first-later : (c : ℕ) (text front : List ℕ) → c ≢ 39 → ((k : ℕ) → k < length front → get_or text k 0 ≢ 39) → (k : ℕ) → k < suc (length front) → get_or (c ∷ text) k 0 ≢ 39
    first-later c text front other rest zero below = other
    first-later c text front other rest (suc k) below = rest k (omega (arith, below))

before-by : (b : Bool) (c : ℕ) (text : List ℕ) → (c == 39) ≡ b → Before text (before_quote text)
    → Before (c ∷ text) (cond b (Some []) (option_map (λ front. c ∷ front) (before_quote text)))
before-by true c text is h = record {
  within = omega arith;
  quote = grind (arith, nat_tests, is);
  same = refl;
  first = λ k below. absurd (omega (arith, below));
}
before-by false c text is h = before-later c text (before_quote text) (λ e. grind (arith, nat_tests, is, e)) h

pub before_quote-says : (text : List ℕ) → MatchOption (before_quote text) (Unit {0}) (IsBefore text)
before_quote-says [] = tt
before_quote-says (c ∷ text) = before-by (c == 39) c text refl (before_quote-says text)

-- in a file's window, behind a place
take-window : (file : List ℕ) (from n : ℕ) → from + n ≤ WINDOW → take n (drop from (take WINDOW file)) ≡ take n (drop from file)
take-window file from n fits =
    let whole : from + (WINDOW - from) ≡ WINDOW = omega arith in
    ap (λ k. take n (drop from (take k file))) (sym whole)
    ∙ ap (take n) (drop-take from (WINDOW - from) file)
    ∙ take-take n (WINDOW - from) (drop from file) (omega arith)

pub before_quote-closes : (file : List ℕ) (from end : ℕ) → Closes file from end → before_quote (drop from (take WINDOW file)) ≡ Some (slice_range file from end)
before_quote-closes file from end c =
    let low = c.behind in
    let fits = c.fits in
    let within = c.within in
    let long = length-part file WINDOW from in
    let n : ℕ = end - from in
    let last : from + n ≡ end = omega arith in
    before_quote-found (drop from (take WINDOW file)) n (omega arith) (part-at file WINDOW from n (omega arith) ∙ ap (λ i. get_or file i 0) last ∙ c.quote)
    (λ k below e. c.first (from + k) (omega arith) (omega arith) (sym (part-at file WINDOW from k (omega arith)) ∙ e))
    ∙ ap (λ (l : List ℕ). Some l) (take-window file from n (omega arith))

pub closes-before_quote : (file front : List ℕ) (from : ℕ) → IsBefore (drop from (take WINDOW file)) front
    → Closes file from (from + length front) × (slice_range file from (from + length front) ≡ front)
closes-before_quote file front from h =
    let within = h.within in
    let long = length-part file WINDOW from in
    let n : ℕ = length front in
    let size : from + n - from ≡ n = omega arith in (
      record {
        behind = omega arith;
        fits = omega arith;
        within = omega arith;
        quote = sym (part-at file WINDOW from n (omega arith)) ∙ h.quote;
        first = λ k low below e.
            let at : from + (k - from) ≡ k = omega arith in
            h.first (k - from) (omega arith) (part-at file WINDOW from (k - from) (omega arith) ∙ ap (λ i. get_or file i 0) at ∙ e);
      },
      ap (λ k. take k (drop from file)) size ∙ sym (take-window file from n (omega arith)) ∙ h.same,
    )
