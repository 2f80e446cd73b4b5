-- Where a `dd` statement stands.
use Rattle.std.proofs.Common.{◌≡◌, ◌∙◌, ap, sym, refl, subst, ℕ, zero, suc, ◌+◌, ◌-◌, ◌*◌, ◌<◌, ◌≤◌, ◌^◌, List, [], ◌∷◌, length, take, drop, get_or, Bool, true, false, cond, arith, inl, inr, lit<, ◌&&◌}
use Rattle.std.proofs.Math.Nat.{pow-le-pow_right}
use Rattle.std.proofs.lemmas.Bool.{cases_lt}
use Rattle.std.proofs.lemmas.List.{get_or-drop, get_or-take, length-drop, length-take}
use Rattle.std.specs.Prelude.{slice_index, slice_range, Option, Some, None, codes, nat_le}
use Rattle.ap_fields.specs.Bytes.{Holds}
use Rattle.ap_fields.specs.declared.sizes.TheConstants.{WINDOW}
use Rattle.ap_octal.specs.DdPlace.{HasDd, HasOperand, StandsDd, is_digit, short_number, with_digits}

-- a number of fewer than nine digits has room for one more in 32 bits
pub has_room : (v i : ℕ) → v < 10 ^ i → i ≤ 8 → v < 100000000
has_room v i small few = let e : 10 ^ i ≤ 10 ^ 8 = pow-le-pow_right (lit< tt) few in omega (arith, e)

-- ---- the digits of an operand

spelt_first : (b : Bool) (next : Option ℕ) (n : ℕ) → cond b next None ≡ Some n → (b ≡ true) × (next ≡ Some n)
spelt_first true next n e = (refl, e)
spelt_first false next n e = absurd (cc)

spelt_digits : (v : ℕ) (text : List ℕ) (n : ℕ) → with_digits v text ≡ Some n → (k : ℕ) → k < length text → is_digit (get_or text k 0) ≡ true
spelt_digits v [] n e k below = absurd (omega (arith, below))
spelt_digits v (c ∷ text) n e zero below = (spelt_first (is_digit c) (with_digits (v * 10 + (c - 48)) text) n e).0
spelt_digits v (c ∷ text) n e (suc k) below = spelt_digits (v * 10 + (c - 48)) text n (spelt_first (is_digit c) (with_digits (v * 10 + (c - 48)) text) n e).1 k (omega (arith, below))

-- digits stand from a place up to `end`, and none stands there
pub record Runs (text : List ℕ) (from end : ℕ) : Type 0 where
  pub low : from ≤ end
  pub digits : (k : ℕ) → from ≤ k → k < end → is_digit (slice_index text k) ≡ true
  pub ends : is_digit (slice_index text end) ≡ false

runs_once : (text : List ℕ) (from e f : ℕ) → Runs text from e → Runs text from f → e ≡ f
runs_once text from e f a b =
    elim (cases_lt e f) as (λ _. e ≡ f) [
      | inl below ↦ absurd (let t = b.digits e a.low below in let u = a.ends in cc)
      | inr above ↦ elim (cases_lt f e) as (λ _. e ≡ f) [
        | inl below ↦ absurd (let t = a.digits f b.low below in let u = b.ends in cc)
        | inr under ↦ omega arith
      ]
    ]

range_at : (text : List ℕ) (from end k : ℕ) → from ≤ k → k < end → get_or (slice_range text from end) (k - from) 0 ≡ slice_index text k
range_at text from end k low below =
    let at : from + (k - from) ≡ k = omega arith in
    get_or-take (end - from) (drop from text) (k - from) 0 (omega arith) ∙ get_or-drop from text (k - from) 0 ∙ ap (λ j. get_or text j 0) at

range_length : (text : List ℕ) (from end : ℕ) → end ≤ length text → length (slice_range text from end) ≡ end - from
range_length text from end fits = let a = length-take (end - from) (drop from text) in let b = length-drop from text in omega (arith, a, b)

short_spelt : (b : Bool) (text : List ℕ) (n : ℕ) → cond b (with_digits 0 text) None ≡ Some n → with_digits 0 text ≡ Some n
short_spelt b text n e = (spelt_first b (with_digits 0 text) n e).1

pub operand_runs : (text : List ℕ) (at : ℕ) (name : List ℕ) (n end : ℕ) → HasOperand text at name n end → Runs text (at + length name) end
operand_runs text at name n end o =
    let from = at + length name in
    let range = slice_range text from end in
    let long : length range ≡ end - from = range_length text from end o.fits in
    record {
      low = o.behind;
      digits = λ k low below. sym (ap is_digit (range_at text from end k low below))
          ∙ spelt_digits 0 range n (short_spelt (nat_le 1 (length range) && nat_le (length range) 9) range n o.spelt) (k - from) (omega (arith, long, low, below));
      ends = o.ends;
    }

same_some : (x : Option ℕ) (n m : ℕ) → x ≡ Some n → x ≡ Some m → n ≡ m
same_some x n m a b = let e : Some n ≡ Some m = sym a ∙ b in cc

pub operand_end : (text : List ℕ) (at : ℕ) (name : List ℕ) (n m e f : ℕ) → HasOperand text at name n e → HasOperand text at name m f → e ≡ f
operand_end text at name n m e f a b = runs_once text (at + length name) e f (operand_runs text at name n e a) (operand_runs text at name m f b)

pub operand_number : (text : List ℕ) (at : ℕ) (name : List ℕ) (n m e f : ℕ) → HasOperand text at name n e → HasOperand text at name m f → n ≡ m
operand_number text at name n m e f a b =
    same_some (short_number (slice_range text (at + length name) f)) n m
    (subst (λ k. short_number (slice_range text (at + length name) k) ≡ Some n) (operand_end text at name n m e f a b) a.spelt) b.spelt

-- digits that aren't a number leave no operand
pub no_operand : (text : List ℕ) (at : ℕ) (name : List ℕ) (f : ℕ) → at + length name ≤ f → ((k : ℕ) → at + length name ≤ k → k < f → is_digit (slice_index text k) ≡ true)
    → is_digit (slice_index text f) ≡ false → None ≡ short_number (slice_range text (at + length name) f) → (n e : ℕ) → HasOperand text at name n e → ⊥
no_operand text at name f low digits ends none n e o =
    let same = runs_once text (at + length name) e f (operand_runs text at name n e o) (record { low = low; digits = digits; ends = ends }) in
    let is = subst (λ k. short_number (slice_range text (at + length name) k) ≡ Some n) same o.spelt in
    let no : None ≡ Some n = none ∙ is in
    cc

-- ---- where an operand is missing, no statement stands

pub no_bs : (text : List ℕ) (at : ℕ) → ((n e : ℕ) → HasOperand text at (codes " bs=") n e → ⊥) → (size skip count : ℕ) → StandsDd text at size skip count → ⊥
no_bs text at none size skip count s = none size s.skip_at s.bs

pub no_skip : (text : List ℕ) (at size1 skip_at : ℕ) → HasOperand text at (codes " bs=") size1 skip_at → ((n e : ℕ) → HasOperand text skip_at (codes " skip=") n e → ⊥)
    → (size skip count : ℕ) → StandsDd text at size skip count → ⊥
no_skip text at size1 skip_at bs none size skip count s =
    let same = operand_end text at (codes " bs=") size size1 s.skip_at skip_at s.bs bs in
    none skip s.count_at (subst (λ k. HasOperand text k (codes " skip=") skip s.count_at) same s.skips)

skips_there : (text : List ℕ) (at size1 skip_at size skip count : ℕ) → HasOperand text at (codes " bs=") size1 skip_at → (s : StandsDd text at size skip count)
    → HasOperand text skip_at (codes " skip=") skip s.count_at
skips_there text at size1 skip_at size skip count bs s =
    subst (λ k. HasOperand text k (codes " skip=") skip s.count_at) (operand_end text at (codes " bs=") size size1 s.skip_at skip_at s.bs bs) s.skips

counts_there : (text : List ℕ) (at size1 skip_at skip1 count_at size skip count : ℕ) → HasOperand text at (codes " bs=") size1 skip_at → HasOperand text skip_at (codes " skip=") skip1 count_at
    → (s : StandsDd text at size skip count) → HasOperand text count_at (codes " count=") count s.conv_at
counts_there text at size1 skip_at skip1 count_at size skip count bs skips s =
    subst (λ k. HasOperand text k (codes " count=") count s.conv_at)
    (operand_end text skip_at (codes " skip=") skip skip1 s.count_at count_at (skips_there text at size1 skip_at size skip count bs s) skips) s.counts

pub no_count : (text : List ℕ) (at size1 skip_at skip1 count_at : ℕ) → HasOperand text at (codes " bs=") size1 skip_at → HasOperand text skip_at (codes " skip=") skip1 count_at
    → ((n e : ℕ) → HasOperand text count_at (codes " count=") n e → ⊥) → (size skip count : ℕ) → StandsDd text at size skip count → ⊥
no_count text at size1 skip_at skip1 count_at bs skips none size skip count s =
    none count s.conv_at (counts_there text at size1 skip_at skip1 count_at size skip count bs skips s)

-- what the end of a statement asks
pub ends_there : (text : List ℕ) (at size1 skip_at skip1 count_at count1 conv_at : ℕ) → HasOperand text at (codes " bs=") size1 skip_at
    → HasOperand text skip_at (codes " skip=") skip1 count_at → HasOperand text count_at (codes " count=") count1 conv_at
    → (size skip count : ℕ) → StandsDd text at size skip count → (1 ≤ size1) × Holds text conv_at (codes " conv=notrunc")
ends_there text at size1 skip_at skip1 count_at count1 conv_at bs skips counts size skip count s = (
  subst (λ n. 1 ≤ n) (operand_number text at (codes " bs=") size size1 s.skip_at skip_at s.bs bs) s.some,
  subst (λ k. Holds text k (codes " conv=notrunc"))
      (operand_end text count_at (codes " count=") count count1 s.conv_at conv_at (counts_there text at size1 skip_at skip1 count_at size skip count bs skips s) counts) s.conv,
)

-- no statement stands past the end
pub none_past : (file window : List ℕ) (k : ℕ) → window ≡ take WINDOW file → length window ≤ k → HasDd file k → ⊥
none_past file window k is past d =
    let fits = d.3.bs.named.fits in
    let same : length window ≡ length (take WINDOW file) = ap length is in
    absurd (omega (arith, fits, same, past))

pub none_here : (file window : List ℕ) (at : ℕ) → window ≡ take WINDOW file → ((size skip count : ℕ) → StandsDd window at size skip count → ⊥) → HasDd file at → ⊥
none_here file window at is none d = none d.0 d.1 d.2 (subst (λ w. StandsDd w at d.0 d.1 d.2) (sym is) d.3)
