-- A number digit by digit.
use Rattle.std.proofs.Common.{◌≡◌, ℕ, ◌+◌, ◌*◌, ◌-◌, ◌≤◌, ◌<◌, ◌^◌, List, [], ◌∷◌, length, drop, take, slice_index_or, Some, None, true, false, refl, sym, ap, ◌∙◌, arith, inl, inr, cond}
use Rattle.std.specs.Prelude.{nat_lt, ◌&&◌}
use Rattle.std.specs.List.{list_all}
use Rattle.std.proofs.lemmas.List.{take_all}
use Rattle.std.proofs.lemmas.Bool.{cases_Bool}
use Rattle.std.proofs.lemmas.Bool.Decides.{nat_tests}
use Rattle.ap_words.specs.Numbers.{is_digit, with_digit, with_digits, read_digits}

grows : (n : ℕ) (ds : List ℕ) → n ≤ with_digits n ds
unfolding with_digits
grows n [] = omega arith
grows n (d ∷ ds) = let h : n * 10 + (d - 48) ≤ with_digits (n * 10 + (d - 48)) ds = grows (n * 10 + (d - 48)) ds in omega (arith, h)

too_large : (n m : ℕ) → n ≤ m → nat_lt n (2 ^ 64) ≡ false → nat_lt m (2 ^ 64) ≡ false
too_large n m h k = grind (arith, nat_tests)

step : (n d : ℕ) (ds : List ℕ) → is_digit d ≡ true → read_digits n (d ∷ ds) ≡ read_digits (n * 10 + (d - 48)) ds
unfolding read_digits with_digits
step n d ds is = ap (λ t. cond ((t && list_all is_digit ds) && nat_lt (with_digits (n * 10 + (d - 48)) ds) (2 ^ 64)) (Some (with_digits (n * 10 + (d - 48)) ds)) None) is

no_digit : (n d : ℕ) (ds : List ℕ) → is_digit d ≡ false → read_digits n (d ∷ ds) ≡ None
unfolding read_digits with_digits
no_digit n d ds is = ap (λ t. cond ((t && list_all is_digit ds) && nat_lt (with_digits (n * 10 + (d - 48)) ds) (2 ^ 64)) (Some (with_digits (n * 10 + (d - 48)) ds)) None) is

large : (n : ℕ) (ds : List ℕ) → nat_lt n (2 ^ 64) ≡ false → read_digits n ds ≡ None
unfolding read_digits
large n ds h = elim (cases_Bool (list_all is_digit ds)) [
  | inl all ↦ rw (all, too_large n (with_digits n ds) (grows n ds) h) refl
  | inr some ↦ rw some refl
]

pub none-left : (n : ℕ) (ds : List ℕ) → n < 2 ^ 64 → length ds ≡ 0 → read_digits n ds ≡ Some n
unfolding read_digits with_digits
none-left n [] h e = let t : nat_lt n (2 ^ 64) ≡ true = grind (arith, nat_tests) in rw t refl
none-left n (d ∷ ds) h e = absurd (omega arith)

with-some : (n m d : ℕ) (ds : List ℕ) → with_digit n d ≡ Some m → read_digits n (d ∷ ds) ≡ read_digits m ds
with-some n m d ds h = elim (cases_Bool (is_digit d)) [
  | inl is ↦ elim (cases_Bool (nat_lt (n * 10 + (d - 48)) (2 ^ 64))) [
    | inl less ↦ let g : Some (n * 10 + (d - 48)) ≡ Some m = rw (is, less) at h in let e : n * 10 + (d - 48) ≡ m = cc in step n d ds is ∙ ap (λ k. read_digits k ds) e
    | inr more ↦ let g : None ≡ Some m = rw (is, more) at h in absurd cc
  ]
  | inr isnt ↦ let g : None ≡ Some m = rw isnt at h in absurd cc
]

with-none : (n d : ℕ) (ds : List ℕ) → with_digit n d ≡ None → read_digits n (d ∷ ds) ≡ None
with-none n d ds h = elim (cases_Bool (is_digit d)) [
  | inl is ↦ elim (cases_Bool (nat_lt (n * 10 + (d - 48)) (2 ^ 64))) [
    | inl less ↦ let g : Some (n * 10 + (d - 48)) ≡ None = rw (is, less) at h in absurd cc
    | inr more ↦ step n d ds is ∙ large (n * 10 + (d - 48)) ds more
  ]
  | inr isnt ↦ no_digit n d ds isnt
]

pub first-some : (n m : ℕ) (ds : List ℕ) → 1 ≤ length ds → with_digit n (slice_index_or ds 0 0) ≡ Some m → read_digits n ds ≡ read_digits m (take (length ds - 1) (drop 1 ds))
first-some n m [] long h = absurd (omega arith)
first-some n m (d ∷ ds) long h = with-some n m d ds h ∙ ap (read_digits m) (sym (take_all (length (d ∷ ds) - 1) ds (omega arith)))

pub first-none : (n : ℕ) (ds : List ℕ) → 1 ≤ length ds → with_digit n (slice_index_or ds 0 0) ≡ None → read_digits n ds ≡ None
first-none n [] long h = absurd (omega arith)
first-none n (d ∷ ds) long h = with-none n d ds h
