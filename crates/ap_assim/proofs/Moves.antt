-- `dd` from a file onto itself moves what the file has of the blocks behind the skipped ones to its front.
use Rattle.std.proofs.Common.{◌≡◌, ◌∙◌, ap, ap₂, sym, refl, ℕ, zero, suc, ◌+◌, ◌-◌, ◌*◌, ◌<◌, ◌≤◌, List, [], ◌∷◌, ◌++◌, take, drop, length, true, arith, inl, inr, length-append}
use Rattle.std.specs.List.{copy_within}
use Rattle.std.proofs.Math.Seq.{take-add}
use Rattle.std.proofs.lemmas.Bool.{cases_lt}
use Rattle.std.proofs.lemmas.List.{length-take, length-take-le, length-drop, take_at, take_all, drop-drop}
use Rattle.std.proofs.lemmas.Slice.{drop-append-drop}
use Rattle.ap_fields.specs.Bytes.{over}
use Rattle.ap_fields.specs.Fields.{patched}
use Rattle.ap_octal.specs.DdEffect.{block_at, blocks_copied, dd_effect, unless_empty}

mul_add : (a b c : ℕ) → (a + b) * c ≡ a * c + b * c
mul_add a b c = grind arith

one_more : (i b : ℕ) → i * b + b ≡ (i + 1) * b
one_more i b = grind arith

no-less : (i n b : ℕ) → i * b ≤ (i + n) * b
no-less i n b = let e = mul_add i n b in omega (arith, e)

goes_on : (bytes output : List ℕ) (next : List ℕ → List ℕ) → 0 < length bytes → unless_empty bytes output next ≡ next bytes
goes_on [] output next some = absurd (omega (arith, some))
goes_on (b ∷ bytes) output next some = refl

stops : (bytes output : List ℕ) (next : List ℕ → List ℕ) → length bytes ≡ 0 → unless_empty bytes output next ≡ output
stops [] output next none = refl
stops (b ∷ bytes) output next none = absurd (omega (arith, none))

-- n bytes from a on, as far as the file has them, stand at the start
abbrev moved : ℕ → ℕ → List ℕ → List ℕ
moved n a file = over file (take n (drop a file))

length_part : (n a : ℕ) (file : List ℕ) → a + n ≤ length file → length (take n (drop a file)) ≡ n
length_part n a file fits = length-take-le n (drop a file) (let e = length-drop a file in omega (arith, e))

length_moved : (n a : ℕ) (file : List ℕ) → length (moved n a file) ≡ length file
length_moved n a file =
    let part = take n (drop a file) in
    let e = length-take n (drop a file) in
    let d = length-drop a file in
    let r = length-drop (length part) file in
    length-append part (drop (length part) file) ∙ omega (arith, e, d, r)

same_moved : (n a : ℕ) (file : List ℕ) → a + n ≤ length file → moved n a file ≡ take n (drop a file) ++ drop n file
same_moved n a file fits = ap (λ k. take n (drop a file) ++ drop k file) (length_part n a file fits)

-- what is read at a + n lies behind what was written
read_there : (n a r : ℕ) (file : List ℕ) → a + n ≤ length file → take r (drop (a + n) (moved n a file)) ≡ take r (drop (a + n) file)
read_there n a r file fits =
    ap (λ now. take r (drop (a + n) now)) (same_moved n a file fits)
    ∙ ap (take r) (drop-append-drop n file (take n (drop a file)) (a + n) (omega arith) (length_part n a file fits))

-- writing it at n goes on with the copy
write_there : (n a r : ℕ) (file : List ℕ) → a + n ≤ length file → patched (moved n a file) n (take r (drop (a + n) file)) ≡ moved (n + r) a file
write_there n a r file fits =
    let front = take n (drop a file) in
    let bytes = take r (drop (a + n) file) in
    let long : length front ≡ n = length_part n a file fits in
    let now = front ++ drop n file in
    let first : take n now ≡ front = take_at front (drop n file) n long in
    let last : drop (n + length bytes) now ≡ drop (n + length bytes) file = drop-append-drop n file front (n + length bytes) (omega arith) long in
    let joined : front ++ bytes ≡ take (n + r) (drop a file) = ap (λ d. front ++ take r d) (sym (drop-drop n a file)) ∙ sym (take-add n r (drop a file)) in
    let size : n + length bytes ≡ length (front ++ bytes) = ap (λ k. k + length bytes) (sym long) ∙ sym (length-append front bytes) in
    ap (λ f. patched f n bytes) (same_moved n a file fits)
    ∙ ap₂ (λ f d. f ++ bytes ++ d) first last
    ∙ ap (λ k. front ++ bytes ++ drop k file) size
    ∙ ap (over file) joined

-- what is read past the end is nothing
nothing_there : (r k : ℕ) (file : List ℕ) → length file ≤ k → length (take r (drop k file)) ≡ 0
nothing_there r k file past = let e = length-take r (drop k file) in let d = length-drop k file in omega (arith, e, d, past)

-- and then all is moved
all_moved : (n m a : ℕ) (file : List ℕ) → length file ≤ a + n → n ≤ m → moved n a file ≡ moved m a file
all_moved n m a file past more =
    let d = length-drop a file in
    ap (over file) (take_all n (drop a file) (omega (arith, d, past)) ∙ sym (take_all m (drop a file) (omega (arith, d, past, more))))

-- n blocks more, behind the first i
from_there : (size skip n i : ℕ) (file : List ℕ) → 0 < size
    → blocks_copied true size skip n i file (moved (i * size) (skip * size) file) ≡ moved ((i + n) * size) (skip * size) file
from_there size skip zero i file some = let e : i ≡ i + 0 = omega arith in ap (λ k. moved (k * size) (skip * size) file) e
from_there size skip (suc n) i file some =
    let split : (skip + i) * size ≡ skip * size + i * size = mul_add skip i size in
    let now = moved (i * size) (skip * size) file in
    let next : List ℕ → List ℕ = λ b. blocks_copied true size skip n (i + 1) file (patched now (i * size) b) in
    elim (cases_lt (skip * size + i * size) (length file)) [
      | inl more ↦
          let bytes = take size (drop (skip * size + i * size) file) in
          let fits : skip * size + i * size ≤ length file = omega (arith, more) in
          let read : block_at size (skip + i) now ≡ bytes = ap (λ at. take size (drop at now)) split ∙ read_there (i * size) (skip * size) size file fits in
          let long : 0 < length bytes = (let e = length-take size (drop (skip * size + i * size) file) in let d = length-drop (skip * size + i * size) file in omega (arith, e, d, more, some)) in
          let step : i * size + size ≡ (i + 1) * size = one_more i size in
          let turn : i + 1 + n ≡ i + suc n = omega arith in
          ap (λ b. unless_empty b now next) read
          ∙ goes_on bytes now next long
          ∙ ap (blocks_copied true size skip n (i + 1) file) (write_there (i * size) (skip * size) size file fits ∙ ap (λ k. moved k (skip * size) file) step)
          ∙ from_there size skip n (i + 1) file some
          ∙ ap (λ k. moved (k * size) (skip * size) file) turn
      | inr past ↦
          let long = length_moved (i * size) (skip * size) file in
          let none : length (block_at size (skip + i) now) ≡ 0 = nothing_there size ((skip + i) * size) now (omega (arith, long, past, split)) in
          stops (block_at size (skip + i) now) now next none
          ∙ all_moved (i * size) ((i + suc n) * size) (skip * size) file past (no-less i (suc n) size)
    ]

-- the whole copy
pub onto_itself : (size skip count : ℕ) (file : List ℕ) → 0 < size → dd_effect true size skip count file file ≡ moved (count * size) (skip * size) file
unfolding dd_effect
onto_itself size skip count file some =
    let none : 0 + count ≡ count = omega arith in
    let start : 0 ≡ 0 * size = omega arith in
    ap (λ k. blocks_copied true size skip count 0 file (over file (take k (drop (skip * size) file)))) start
    ∙ from_there size skip count 0 file some
    ∙ ap (λ k. moved (k * size) (skip * size) file) none

same_part : (n m : ℕ) (xs : List ℕ) → (m ≤ length xs → n ≡ m) → (length xs ≤ m → n ≡ length xs) → take n xs ≡ take m xs
same_part n m xs short long = elim (cases_lt m (length xs)) [
  | inl less ↦ ap (λ k. take k xs) (short (omega (arith, less)))
  | inr more ↦ (let e = long more in take_all n xs (omega (arith, e))) ∙ sym (take_all m xs more)
]

-- what `copy_within` makes, of as many bytes as are there
pub copied : (a b m : ℕ) (file : List ℕ) → a ≤ length file → (a + m ≤ length file → b ≡ a + m) → (length file ≤ a + m → b ≡ length file) → copy_within file a b 0 ≡ moved m a file
copied a b m file within short long =
    let d = length-drop a file in
    let part : take (b - a) (drop a file) ≡ take m (drop a file) = same_part (b - a) m (drop a file)
    (λ less. let e = short (omega (arith, d, less, within)) in omega (arith, e))
    (λ more. let e = long (omega (arith, d, more, within)) in omega (arith, d, e)) in
    let size : 0 + (b - a) ≡ length (take m (drop a file)) = elim (cases_lt (a + m) (length file)) [
      | inl less ↦ (let e = short (omega (arith, less)) in let k = length_part m a file (omega (arith, less)) in omega (arith, e, k))
      | inr more ↦ (let e = long more in let k = length-take m (drop a file) in omega (arith, e, k, d, more, within))
    ] in
    ap₂ (λ p k. p ++ drop k file) part size
