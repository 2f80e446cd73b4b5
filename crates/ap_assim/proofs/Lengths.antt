-- A file that embeds a header is as long as the header.
use Rattle.std.proofs.Common.{◌≡◌, ℕ, zero, suc, ◌+◌, ◌*◌, ◌≤◌, ◌==◌, List, [], ◌∷◌, Bool, true, false, cond, nat_le, length, take, drop, Option, Some, None, arith, inl, inr}
use Rattle.std.specs.Prelude.{IfSome, codes}
use Rattle.std.specs.Option.{option_and_then, option_map}
use Rattle.std.proofs.lemmas.Bool.{cases_Bool}
use Rattle.std.proofs.lemmas.Bool.Decides.{nat_tests}
use Rattle.std.proofs.lemmas.List.{length-take, length-take-le, length-drop}
use Rattle.memchr.specs.Find.{occurs_at}
use Rattle.ap_fields.specs.declared.sizes.TheConstants.{WINDOW}
use Rattle.ap_octal.specs.OctalText.{octal1}
use Rattle.ap_octal.specs.OctalReading.{is_octal_digit, is_plain, with_digits, byte_before, escaped, first_byte, bytes_within, octal_bytes_of}
use Rattle.ap_loader.specs.Embedded.{has_magic, before_quote, begins_header, header_in, header_at, or_later, first_header, header_of_window, taken}

-- a part, where there is one, isn't longer than n
abbrev AtMost : ℕ → Option (List ℕ) → Type 0
AtMost n found = IfSome found (λ part. length part ≤ n)

more : (n m : ℕ) (found : Option (List ℕ)) → n ≤ m → AtMost n found → AtMost m found
more n m None less short = tt
more n m (Some part) less short = omega (arith, less, short)

-- ---- octal text

digits-shorten : (n value : ℕ) (text : List ℕ) → length (with_digits n value text).1 ≤ length text
digits-shorten zero value text = omega arith
digits-shorten (suc n) value [] = omega arith
digits-shorten (suc n) value (c ∷ text) = elim (cases_Bool (is_octal_digit c)) [
  | inl digit ↦ rw digit (let e = digits-shorten n (value * 8 + octal1 c) text in omega (arith, e))
  | inr other ↦ rw other (omega arith)
]

abbrev FirstWithin : ℕ → Option (ℕ × List ℕ) → Type 0
FirstWithin n found = IfSome found (λ first. length first.1 ≤ n)

byte-within : (n : ℕ) (spelt : ℕ × List ℕ) → length spelt.1 ≤ n → FirstWithin n (byte_before spelt)
byte-within n (value, text) short = elim (cases_Bool (nat_le value 255)) [
  | inl byte ↦ rw byte short
  | inr large ↦ rw large tt
]

escaped-within : (text : List ℕ) → FirstWithin (length text) (escaped text)
escaped-within [] = tt
escaped-within (c ∷ text) = elim (cases_Bool (is_octal_digit c)) [
  | inl digit ↦ rw digit (byte-within (suc (length text)) (with_digits 2 (octal1 c) text) (let e = digits-shorten 2 (octal1 c) text in omega (arith, e)))
  | inr other ↦ rw other tt
]

plain-within : (b : Bool) (c : ℕ) (text : List ℕ) → FirstWithin (length text) (cond b (Some (c, text)) None)
plain-within true c text = omega arith
plain-within false c text = tt

first-by : (b : Bool) (c : ℕ) (text : List ℕ) → FirstWithin (length text) (cond b (escaped text) (cond (is_plain c) (Some (c, text)) None))
first-by true c text = escaped-within text
first-by false c text = plain-within (is_plain c) c text

first-within : (c : ℕ) (text : List ℕ) → FirstWithin (length text) (first_byte c text)
first-within c text = first-by (c == 92) c text

one-more : (n b : ℕ) (found : Option (List ℕ)) → AtMost n found → AtMost (suc n) (option_map (λ bytes. b ∷ bytes) found)
one-more n b None short = tt
one-more n b (Some bytes) short = omega (arith, short)

behind-within : (n : ℕ) (text : List ℕ) (found : Option (ℕ × List ℕ)) → ((rest : List ℕ) → AtMost (length rest) (bytes_within n rest)) → FirstWithin (length text) found
    → AtMost (suc (length text)) (option_and_then (λ first. option_map (λ bytes. first.0 ∷ bytes) (bytes_within n first.1)) found)
behind-within n text None before short = tt
behind-within n text (Some first) before short =
    one-more (length text) first.0 (bytes_within n first.1) (more (length first.1) (length text) (bytes_within n first.1) short (before first.1))

bytes-within : (n : ℕ) (text : List ℕ) → AtMost (length text) (bytes_within n text)
bytes-within n [] = omega arith
bytes-within zero (c ∷ text) = tt
bytes-within (suc n) (c ∷ text) = behind-within n text (first_byte c text) (λ rest. bytes-within n rest) (first-within c text)

octal-within : (text : List ℕ) → AtMost (length text) (octal_bytes_of text)
unfolding octal_bytes_of
octal-within text = bytes-within (length text) text

-- ---- the statement

quote-within : (text : List ℕ) → AtMost (length text) (before_quote text)
quote-within [] = tt
quote-within (c ∷ text) = elim (cases_Bool (c == 39)) [
  | inl quote ↦ rw quote (omega arith)
  | inr other ↦ rw other (one-more (length text) c (before_quote text) (quote-within text))
]

-- a header is found in bytes that are as long, and is as long
abbrev Found : ℕ → Option (List ℕ) → Type 0
Found n found = IfSome found (λ header. (64 ≤ n) × (length header ≡ 64))

header-found : (machine n : ℕ) (bytes : List ℕ) → length bytes ≤ n → Found n (header_in machine bytes)
header-found machine n bytes short = elim (cases_Bool (nat_le 64 (length bytes))) [
  | inl long ↦ rw long (let less : 64 ≤ length bytes = grind (arith, nat_tests) in elim (cases_Bool (begins_header machine (take 64 bytes))) [
    | inl begins ↦ rw begins (omega (arith, less, short), length-take-le 64 bytes less)
    | inr other ↦ rw other tt
  ])
  | inr less ↦ rw less tt
]

of-bytes : (machine n : ℕ) (found : Option (List ℕ)) → AtMost n found → Found n (option_and_then (header_in machine) found)
of-bytes machine n None short = tt
of-bytes machine n (Some bytes) short = header-found machine n bytes short

of-text : (n : ℕ) (found : Option (List ℕ)) → AtMost n found → AtMost n (option_and_then octal_bytes_of found)
of-text n None short = tt
of-text n (Some text) short = more (length text) n (octal_bytes_of text) short (octal-within text)

at-found : (machine : ℕ) (window : List ℕ) (at : ℕ) → Found (length window) (header_at machine window at)
at-found machine window at = elim (cases_Bool (occurs_at window (codes "printf '") at)) [
  | inl there ↦ rw there (
      let behind = drop (at + 8) window in
      let short : length behind ≤ length window = (let e = length-drop (at + 8) window in omega (arith, e)) in
      of-bytes machine (length window) (option_and_then octal_bytes_of (before_quote behind))
      (of-text (length window) (before_quote behind) (more (length behind) (length window) (before_quote behind) short (quote-within behind))))
  | inr missing ↦ rw missing tt
]

abbrev pub FoundAt : ℕ → Option (ℕ × List ℕ) → Type 0
FoundAt n found = IfSome found (λ statement. (64 ≤ n) × (length statement.1 ≡ 64))

either-found : (n at : ℕ) (here : Option (List ℕ)) (later : Option (ℕ × List ℕ)) → Found n here → FoundAt n later → FoundAt n (or_later at here later)
either-found n at None later now then = then
either-found n at (Some header) later now then = now

first-found : (machine : ℕ) (window : List ℕ) (at n : ℕ) → FoundAt (length window) (first_header machine window at n)
first-found machine window at zero = tt
first-found machine window at (suc n) =
    either-found (length window) at (header_at machine window at) (first_header machine window (at + 1) n) (at-found machine window at) (first-found machine window (at + 1) n)

longer : (n m : ℕ) (found : Option (ℕ × List ℕ)) → n ≤ m → FoundAt n found → FoundAt m found
longer n m None less is = tt
longer n m (Some statement) less is = (let low = is.0 in omega (arith, less, low), is.1)

pub taken_length : (machine : ℕ) (file : List ℕ) → FoundAt (length file) (taken machine file)
unfolding taken
taken_length machine file = elim (cases_Bool (has_magic file)) [
  | inl magic ↦ rw magic (
      let window = take WINDOW file in
      longer (length window) (length file) (header_of_window machine window) (let e = length-take WINDOW file in omega (arith, e)) (first-found machine window 0 (length window)))
  | inr none ↦ rw none tt
]
