-- The header at a place of a window, by what a file embeds there.
use Rattle.std.proofs.Common.{◌≡◌, ℕ, zero, suc, ◌+◌, ◌<◌, ◌≤◌, List, true, false, cond, nat_le, length, take, drop, Option, Some, None, refl, sym, ap, ◌∙◌, subst, arith, inl, inr}
use Rattle.std.specs.Prelude.{codes, slice_range, MatchOption}
use Rattle.std.specs.Option.{option_and_then}
use Rattle.std.proofs.lemmas.Bool.{cases_Bool, cases_lt}
use Rattle.std.proofs.lemmas.Bool.Decides.{nat_tests}
use Rattle.std.proofs.lemmas.List.{length-take}
use Rattle.memchr.specs.Find.{Nowhere, occurs_at}
use Rattle.memchr.proofs.lemmas.MatchLemmas.{occurs_at-true, OccursAt-true}
use Rattle.ap_fields.specs.declared.sizes.TheConstants.{WINDOW}
use Rattle.ap_octal.specs.OctalText.{IsOctal}
use Rattle.ap_octal.specs.OctalReading.{octal_bytes_of}
use Rattle.ap_octal.specs.OctalSteps.{IsNoOctal}
use Rattle.ap_octal.specs.Embedded.{Opens, Embeds, EmbedsNothing}
use Rattle.ap_octal.proofs.OctalReads.{octal_bytes_of-some, octal_bytes_of-says}
use Rattle.ap_octal.proofs.WindowLemmas.{window-occurs, window-opens}
use Rattle.ap_loader.specs.Embedded.{has_magic, before_quote, begins_header, header_in, header_at, or_later, first_header, header_of_window, taken}
use Rattle.ap_loader.proofs.Quotes.{IsBefore, before_quote-says, before_quote-closes, closes-before_quote}

-- what the text behind `printf '` gives
abbrev of_text : ℕ → Option (List ℕ) → Option (List ℕ)
of_text machine text = option_and_then (header_in machine) (option_and_then octal_bytes_of text)

header_at-opens : (machine : ℕ) (file : List ℕ) (at : ℕ) → Opens file at
    → header_at machine (take WINDOW file) at ≡ of_text machine (before_quote (drop (at + 8) (take WINDOW file)))
header_at-opens machine file at o =
    let window = take WINDOW file in
    ap (λ b. cond b (of_text machine (before_quote (drop (at + 8) window))) None) (occurs_at-true window (codes "printf '") at (window-occurs file at o))

pub header_at-closed : (machine : ℕ) (file : List ℕ) (k : ℕ) → ¬ Opens file k → header_at machine (take WINDOW file) k ≡ None
header_at-closed machine file k none =
    let window = take WINDOW file in
    elim (cases_Bool (occurs_at window (codes "printf '") k)) [
      | inl there ↦ absurd (none (window-opens file k (OccursAt-true window (codes "printf '") k there)))
      | inr missing ↦ ap (λ b. cond b (of_text machine (before_quote (drop (k + 8) window))) None) missing
    ]

header_in-first : (machine : ℕ) (bytes first : List ℕ) → 64 ≤ length bytes → first ≡ take 64 bytes → header_in machine bytes ≡ cond (begins_header machine first) (Some first) None
header_in-first machine bytes first long is =
    let test : nat_le 64 (length bytes) ≡ true = grind (arith, nat_tests) in
    rw test (ap (λ (l : List ℕ). cond (begins_header machine l) (Some l) None) (sym is))

-- where some bytes are embedded
pub header_at-embeds : (machine : ℕ) (file : List ℕ) (at end : ℕ) (bytes first : List ℕ) → Opens file at → Embeds file at end bytes → first ≡ take 64 bytes
    → header_at machine (take WINDOW file) at ≡ cond (begins_header machine first) (Some first) None
header_at-embeds machine file at end bytes first o e is =
    header_at-opens machine file at o
    ∙ ap (of_text machine) (before_quote-closes file (at + 8) end e.closes)
    ∙ ap (option_and_then (header_in machine)) (octal_bytes_of-some (slice_range file (at + 8) end) bytes e.octal)
    ∙ header_in-first machine bytes first e.enough is

-- where nothing is
header_in-short : (machine : ℕ) (bytes : List ℕ) → length bytes < 64 → header_in machine bytes ≡ None
header_in-short machine bytes short = let test : nat_le 64 (length bytes) ≡ false = grind (arith, nat_tests) in rw test refl

of_bytes-none : (machine : ℕ) (text : List ℕ) (found : Option (List ℕ)) → MatchOption found (IsNoOctal text) (λ bytes. IsOctal text bytes)
    → ((bytes : List ℕ) → IsOctal text bytes → length bytes < 64) → option_and_then (header_in machine) found ≡ None
of_bytes-none machine text None says short = refl
of_bytes-none machine text (Some bytes) says short = header_in-short machine bytes (short bytes says)

of_text-none : (machine : ℕ) (window : List ℕ) (found : Option (List ℕ)) → MatchOption found (Unit {0}) (IsBefore window)
    → ((text bytes : List ℕ) → IsBefore window text → IsOctal text bytes → length bytes < 64) → of_text machine found ≡ None
of_text-none machine window None says short = refl
of_text-none machine window (Some text) says short = of_bytes-none machine text (octal_bytes_of text) (octal_bytes_of-says text) (λ bytes h. short text bytes says h)

short-bytes : (file : List ℕ) (at : ℕ) → EmbedsNothing file at → (text bytes : List ℕ) → IsBefore (drop (at + 8) (take WINDOW file)) text → IsOctal text bytes → length bytes < 64
short-bytes file at none text bytes before octal =
    let closed = closes-before_quote file text (at + 8) before in
    elim (cases_lt (length bytes) 64) [
      | inl short ↦ short
      | inr long ↦ absurd (none (at + 8 + length text) bytes (record {
        closes = closed.0;
        octal = subst (λ t. IsOctal t bytes) (sym closed.1) octal;
        enough = long;
      }))
    ]

pub header_at-nothing : (machine : ℕ) (file : List ℕ) (at : ℕ) → Opens file at → EmbedsNothing file at → header_at machine (take WINDOW file) at ≡ None
header_at-nothing machine file at o none =
    let text = drop (at + 8) (take WINDOW file) in
    header_at-opens machine file at o ∙ of_text-none machine text (before_quote text) (before_quote-says text) (short-bytes file at none)

-- ---- the first of them

first_header-none : (machine : ℕ) (window : List ℕ) (at n : ℕ) → ((k : ℕ) → at ≤ k → k < at + n → header_at machine window k ≡ None) → first_header machine window at n ≡ None
first_header-none machine window at zero none = refl
first_header-none machine window at (suc n) none =
    ap (λ h. or_later at h (first_header machine window (at + 1) n)) (none at (omega arith) (omega arith))
    ∙ first_header-none machine window (at + 1) n (λ k low below. none k (omega arith) (omega arith))

first_header-some : (machine : ℕ) (window header : List ℕ) (at n k : ℕ) → at ≤ k → k < at + n → header_at machine window k ≡ Some header
    → ((j : ℕ) → at ≤ j → j < k → header_at machine window j ≡ None) → first_header machine window at n ≡ Some (k, header)
first_header-some machine window header at zero k low below is none = absurd (omega (arith, low, below))
first_header-some machine window header at (suc n) k low below is none =
    elim (cases_lt at k) [
      | inl later ↦ (ap (λ h. or_later at h (first_header machine window (at + 1) n)) (none at (omega arith) later)
          ∙ first_header-some machine window header (at + 1) n k (omega arith) (omega arith) is (λ j low below. none j (omega arith) below))
      | inr here ↦ (let same : at ≡ k = omega arith in
          ap (λ i. or_later at (header_at machine window i) (first_header machine window (at + 1) n)) same
          ∙ ap (λ h. or_later at h (first_header machine window (at + 1) n)) is
          ∙ ap (λ (i : ℕ). Some (i, header)) same)
    ]

taken-magic : (machine : ℕ) (file : List ℕ) → has_magic file ≡ true → taken machine file ≡ header_of_window machine (take WINDOW file)
unfolding taken
taken-magic machine file magic = ap (λ b. cond b (header_of_window machine (take WINDOW file)) None) magic

pub taken-no_magic : (machine : ℕ) (file : List ℕ) → has_magic file ≡ false → taken machine file ≡ None
unfolding taken
taken-no_magic machine file magic = ap (λ b. cond b (header_of_window machine (take WINDOW file)) None) magic

pub taken-some : (machine : ℕ) (file header : List ℕ) (k : ℕ) → has_magic file ≡ true → k < length (take WINDOW file) → header_at machine (take WINDOW file) k ≡ Some header
    → ((j : ℕ) → j < k → header_at machine (take WINDOW file) j ≡ None) → taken machine file ≡ Some (k, header)
taken-some machine file header k magic within is none =
    taken-magic machine file magic
    ∙ first_header-some machine (take WINDOW file) header 0 (length (take WINDOW file)) k (omega arith) (omega arith) is (λ j low below. none j below)

pub taken-none : (machine : ℕ) (file : List ℕ) → has_magic file ≡ true → ((k : ℕ) → header_at machine (take WINDOW file) k ≡ None) → taken machine file ≡ None
taken-none machine file magic none =
    taken-magic machine file magic ∙ first_header-none machine (take WINDOW file) 0 (length (take WINDOW file)) (λ k low below. none k)

-- none in front of a place where the next statement opens
pub none-before : (machine : ℕ) (file : List ℕ) (from at : ℕ) → ((k : ℕ) → k < from → header_at machine (take WINDOW file) k ≡ None) → Nowhere (Opens file) from at
    → (k : ℕ) → k < at → header_at machine (take WINDOW file) k ≡ None
none-before machine file from at none nowhere k below =
    elim (cases_lt k from) [
      | inl low ↦ none k low
      | inr high ↦ header_at-closed machine file k (nowhere k high below)
    ]

pub none-more : (machine : ℕ) (file : List ℕ) (from at : ℕ) → ((k : ℕ) → k < from → header_at machine (take WINDOW file) k ≡ None) → Nowhere (Opens file) from at
    → header_at machine (take WINDOW file) at ≡ None → (k : ℕ) → k < at + 1 → header_at machine (take WINDOW file) k ≡ None
none-more machine file from at none nowhere here k below =
    elim (cases_lt k at) [
      | inl low ↦ none-before machine file from at none nowhere k low
      | inr high ↦ (let same : at ≡ k = omega arith in subst (λ j. header_at machine (take WINDOW file) j ≡ None) same here)
    ]

pub none-all : (machine : ℕ) (file : List ℕ) (from : ℕ) → ((k : ℕ) → k < from → header_at machine (take WINDOW file) k ≡ None) → Nowhere (Opens file) from WINDOW
    → (k : ℕ) → header_at machine (take WINDOW file) k ≡ None
none-all machine file from none nowhere k =
    elim (cases_lt k WINDOW) [
      | inl low ↦ none-before machine file from WINDOW none nowhere k low
      | inr high ↦ header_at-closed machine file k (λ o. let within = o.within in absurd (omega arith))
    ]

pub opens-within : (file : List ℕ) (at : ℕ) → Opens file at → at < length (take WINDOW file)
opens-within file at o =
    let fits = o.stands.fits in
    let within = o.within in
    let long = length-take WINDOW file in
    omega arith
