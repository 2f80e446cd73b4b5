-- A `dd` statement in a text whose parts are known, and its first bytes.
use Rattle.std.proofs.Common.{◌≡◌, ◌∙◌, ap, sym, refl, subst, inl, inr, ℕ, zero, suc, ◌+◌, ◌-◌, ◌*◌, ◌/◌, ◌%◌, ◌^◌, ◌<◌, ◌≤◌, List, [], ◌∷◌, ◌++◌, length, take, drop, get_or, Bool, true, false, cond, arith, append_assoc, length-append}
use Rattle.std.proofs.lemmas.Bool.{cases_lt}
use Rattle.std.proofs.lemmas.Bool.Decides.{nat_tests}
use Rattle.std.proofs.lemmas.Fmt.{decimal_by_steps, decimal_nonempty, length-decimal-le}
use Rattle.std.proofs.lemmas.List.{get_or-append_right, take_all, take-append-le}
use Rattle.std.proofs.Math.Seq.{drop-append_seam}
use Rattle.std.specs.Fmt.{decimal}
use Rattle.std.specs.Prelude.{slice_index, slice_range, Option, Some, None, codes}
use Rattle.ap_fields.specs.Bytes.{Holds}
use Rattle.ap_fields.proofs.Bytes.{holds-part}
use Rattle.ap_octal.specs.DdPlace.{HasOperand, StandsDd, is_digit, short_number, with_digits}
use Rattle.ap_octal.proofs.DdPlaces.{operand_runs}

-- ---- numbers in decimal

digit_read : (v n : ℕ) → n < 10 → with_digits v ((48 + n) ∷ []) ≡ Some (v * 10 + n)
digit_read v n low =
    let digit : is_digit (48 + n) ≡ true = grind (arith, nat_tests) in
    let value : v * 10 + (48 + n - 48) ≡ v * 10 + n = omega arith in
    ap (λ b. cond b (Some (v * 10 + (48 + n - 48))) None) digit ∙ ap (λ m. Some m) value

some_is : (v k : ℕ) → ◌≡◌ {A = Option ℕ} (Some v) (Some k) → v ≡ k
some_is v k e = cc

no_none : (k : ℕ) → ◌≡◌ {A = Option ℕ} None (Some k) → ⊥
no_none k e = cc

digits_more_by : (b : Bool) (v c k n : ℕ) (ds : List ℕ) → ((m : ℕ) → with_digits m ds ≡ Some k → with_digits m (ds ++ (48 + n) ∷ []) ≡ Some (k * 10 + n))
    → cond b (with_digits (v * 10 + (c - 48)) ds) None ≡ Some k → cond b (with_digits (v * 10 + (c - 48)) (ds ++ (48 + n) ∷ [])) None ≡ Some (k * 10 + n)
digits_more_by true v c k n ds next is = next (v * 10 + (c - 48)) is
digits_more_by false v c k n ds next is = absurd (no_none k is)

digits_more : (ds : List ℕ) (v k n : ℕ) → n < 10 → with_digits v ds ≡ Some k → with_digits v (ds ++ (48 + n) ∷ []) ≡ Some (k * 10 + n)
digits_more [] v k n low is = digit_read v n low ∙ ap (λ m. Some (m * 10 + n)) (some_is v k is)
digits_more (c ∷ ds) v k n low is = digits_more_by (is_digit c) v c k n ds (λ m e. digits_more ds m k n low e) is

decimal_read : (n : ℕ) → n < 2 ^ 64 → with_digits 0 (decimal n) ≡ Some n
decimal_read n small =
    decimal_by_steps (λ m ds. with_digits 0 ds ≡ Some m) (λ m low. digit_read 0 m low ∙ ap (λ k. Some k) (first m))
    (λ m ds high is. digits_more ds 0 (m / 10) (m % 10) (omega arith) is ∙ ap (λ k. Some k) (whole m)) n small
  where
    first : (m : ℕ) → 0 * 10 + m ≡ m
    first m = omega arith

    whole : (m : ℕ) → m / 10 * 10 + m % 10 ≡ m
    whole m = omega arith

short_by : (t : List ℕ) (n : ℕ) → 0 < length t → length t ≤ 9 → with_digits 0 t ≡ Some n → short_number t ≡ Some n
short_by t n some few is = grind (arith, nat_tests, is)

-- what `dd` reads of a number in decimal
pub short_decimal : (n : ℕ) → n < 10 ^ 9 → short_number (decimal n) ≡ Some n
short_decimal n small =
    short_by (decimal n) n (decimal_nonempty n (omega arith)) (length-decimal-le 9 n (omega arith) (omega arith) (omega arith)) (decimal_read n (omega arith))

-- ---- a statement among other bytes

-- a part between others is a range
pub range-part : (front part behind : List ℕ) (a b : ℕ) → length front ≡ a → a + length part ≡ b → slice_range (front ++ (part ++ behind)) a b ≡ part
range-part front part behind a b long is =
    let whole = front ++ (part ++ behind) in
    let size : b - length front ≡ length part = omega arith in
    ap (λ n. take (b - n) (drop n whole)) (sym long)
    ∙ ap (take (b - length front)) (drop-append_seam front (part ++ behind))
    ∙ ap (λ n. take n (part ++ behind)) size
    ∙ take-append-le (length part) part behind (omega arith)
    ∙ take_all (length part) part (omega arith)

-- the first byte behind a front
byte_behind : (front behind : List ℕ) (at : ℕ) → length front ≡ at → slice_index (front ++ behind) at ≡ get_or behind 0 0
byte_behind front behind at long =
    let none : at - at ≡ 0 = omega arith in
    get_or-append_right front behind at at 0 long (omega arith) ∙ ap (λ i. get_or behind i 0) none

regroup : (front name digits behind : List ℕ) → front ++ (name ++ (digits ++ behind)) ≡ (front ++ (name ++ digits)) ++ behind
regroup front name digits behind = ap (λ r. front ++ r) (sym (append_assoc name digits behind)) ∙ sym (append_assoc front (name ++ digits) behind)

length_group : (front name digits : List ℕ) (at : ℕ) → length front ≡ at → length (front ++ (name ++ digits)) ≡ at + length name + length digits
length_group front name digits at long =
    let a = length-append front (name ++ digits) in
    let b = length-append name digits in
    omega arith

operand_in : (text front name digits behind : List ℕ) (at number : ℕ) → text ≡ front ++ (name ++ (digits ++ behind)) → length front ≡ at → short_number digits ≡ Some number
    → is_digit (get_or behind 0 0) ≡ false → HasOperand text at name number (at + length name + length digits)
operand_in text front name digits behind at number is long spells ends =
    let end : ℕ = at + length name + length digits in
    let grouped : text ≡ (front ++ (name ++ digits)) ++ behind = is ∙ regroup front name digits behind in
    let group = length_group front name digits at long in
    let whole = length-append (front ++ (name ++ digits)) behind in
    let size = ap length grouped in
    let named_long = length-append front name in
    record {
      named = subst (λ w. Holds w at name) (sym is) (holds-part front name (digits ++ behind) at (sym long));
      behind = omega arith;
      fits = omega arith;
      spelt =
          ap (λ (w : List ℕ). short_number (slice_range w (at + length name) end)) (is ∙ sym (append_assoc front name (digits ++ behind)))
          ∙ ap short_number (range-part (front ++ name) digits behind (at + length name) end (omega arith) refl)
          ∙ spells;
      ends = ap (λ (w : List ℕ). is_digit (slice_index w end)) grouped ∙ ap is_digit (byte_behind (front ++ (name ++ digits)) behind end group) ∙ ends;
    }

-- the statement with its numbers in decimal, and what stands behind it
abbrev pub written : ℕ → ℕ → ℕ → List ℕ → List ℕ
written size skip count behind =
    codes " bs=" ++ (decimal size ++ (codes " skip=" ++ (decimal skip ++ (codes " count=" ++ (decimal count ++ (codes " conv=notrunc" ++ behind))))))

pub stands_written : (text front behind : List ℕ) (at size skip count : ℕ) → text ≡ front ++ written size skip count behind → length front ≡ at → 1 ≤ size
    → size < 10 ^ 9 → skip < 10 ^ 9 → count < 10 ^ 9 → StandsDd text at size skip count
stands_written text front behind at size skip count is long some s1 s2 s3 =
    let third = codes " conv=notrunc" ++ behind in
    let second = codes " count=" ++ (decimal count ++ third) in
    let first = codes " skip=" ++ (decimal skip ++ second) in
    let front1 = front ++ (codes " bs=" ++ decimal size) in
    let front2 = front1 ++ (codes " skip=" ++ decimal skip) in
    let front3 = front2 ++ (codes " count=" ++ decimal count) in
    let at1 : ℕ = at + length (codes " bs=") + length (decimal size) in
    let at2 : ℕ = at1 + length (codes " skip=") + length (decimal skip) in
    let at3 : ℕ = at2 + length (codes " count=") + length (decimal count) in
    let is1 : text ≡ front1 ++ first = is ∙ regroup front (codes " bs=") (decimal size) first in
    let is2 : text ≡ front2 ++ second = is1 ∙ regroup front1 (codes " skip=") (decimal skip) second in
    let is3 : text ≡ front3 ++ third = is2 ∙ regroup front2 (codes " count=") (decimal count) third in
    let long1 = length_group front (codes " bs=") (decimal size) at long in
    let long2 = length_group front1 (codes " skip=") (decimal skip) at1 long1 in
    let long3 = length_group front2 (codes " count=") (decimal count) at2 long2 in
    record {
      skip_at = at1;
      count_at = at2;
      conv_at = at3;
      bs = operand_in text front (codes " bs=") (decimal size) first at size is long (short_decimal size s1) refl;
      skips = operand_in text front1 (codes " skip=") (decimal skip) second at1 skip is1 long1 (short_decimal skip s2) refl;
      counts = operand_in text front2 (codes " count=") (decimal count) third at2 count is2 long2 (short_decimal count s3) refl;
      conv = subst (λ w. Holds w at3 (codes " conv=notrunc")) (sym is3) (holds-part front3 (codes " conv=notrunc") behind at3 (sym long3));
      some = some;
    }

-- ---- the first bytes of a statement

bs_high : (i : ℕ) → i < 4 → 32 ≤ get_or (codes " bs=") i 0
bs_high zero low = omega arith
bs_high (suc zero) low = omega arith
bs_high (suc (suc zero)) low = omega arith
bs_high (suc (suc (suc zero))) low = omega arith
bs_high (suc (suc (suc (suc i)))) low = absurd (omega (arith, low))

skip_high : (i : ℕ) → i < 4 → 32 ≤ get_or (codes " skip=") i 0
skip_high zero low = omega arith
skip_high (suc zero) low = omega arith
skip_high (suc (suc zero)) low = omega arith
skip_high (suc (suc (suc zero))) low = omega arith
skip_high (suc (suc (suc (suc i)))) low = absurd (omega (arith, low))

digit_high : (c : ℕ) → is_digit c ≡ true → 32 ≤ c
digit_high c h = grind (arith, nat_tests, h)

-- they are no control bytes, and eight stand in the text
pub high_bytes : (text : List ℕ) (at size skip count i : ℕ) → StandsDd text at size skip count → i < 8 → 32 ≤ slice_index text (at + i)
high_bytes text at size skip count i s low =
    let runs = operand_runs text at (codes " bs=") size s.skip_at s.bs in
    let past : at + 4 ≤ s.skip_at = s.bs.behind in
    elim (cases_lt i 4) as (λ _. 32 ≤ slice_index text (at + i)) [
      | inl front ↦ subst (λ c. 32 ≤ c) (sym (s.bs.named.same i front)) (bs_high i front)
      | inr later ↦ elim (cases_lt (at + i) s.skip_at) as (λ _. 32 ≤ slice_index text (at + i)) [
        | inl digit ↦ digit_high (slice_index text (at + i)) (runs.digits (at + i) (omega arith) digit)
        | inr name ↦
            (let j : ℕ = at + i - s.skip_at in
            let there : s.skip_at + j ≡ at + i = omega arith in
            subst (λ k. 32 ≤ slice_index text k) there (subst (λ c. 32 ≤ c) (sym (s.skips.named.same j (omega arith))) (skip_high j (omega arith))))
      ]
    ]

pub ten_bytes : (text : List ℕ) (at size skip count : ℕ) → StandsDd text at size skip count → at + 10 ≤ length text
ten_bytes text at size skip count s =
    let past : at + 4 ≤ s.skip_at = s.bs.behind in
    let fits : s.skip_at + 6 ≤ length text = s.skips.named.fits in
    omega arith

-- the first two are a blank and a `b`
pub begins_blank : (text : List ℕ) (at size skip count : ℕ) → StandsDd text at size skip count → slice_index text at ≡ 32
begins_blank text at size skip count s =
    let there : at + 0 ≡ at = omega arith in
    ap (slice_index text) (sym there) ∙ s.bs.named.same 0 (omega arith)

pub begins_b : (text : List ℕ) (at size skip count : ℕ) → StandsDd text at size skip count → slice_index text (at + 1) ≡ 98
begins_b text at size skip count s = s.bs.named.same 1 (omega arith)
