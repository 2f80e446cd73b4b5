-- `dd` from a file onto itself.
use Rattle.std.proofs.Common.{◌≡◌, ◌∙◌, ap, ap₂, sym, refl, ℕ, zero, suc, ◌+◌, ◌*◌, ◌<◌, ◌≤◌, List, [], ◌∷◌, ◌++◌, take, drop, length, Bool, true, cond, arith, subst}
use Rattle.std.proofs.Math.Seq.{take-add}
use Rattle.std.proofs.lemmas.List.{length-take-le, length-drop, take_at, drop-drop}
use Rattle.std.proofs.lemmas.Slice.{drop-append-drop}
use Rattle.ap_fields.specs.Bytes.{over}
use Rattle.ap_fields.specs.Fields.{patched}
use Rattle.ap_octal.specs.DdEffect.{block_at, blocks_copied, dd_effect, unless_empty}

mul_add : (a b c : ℕ) → (a + b) * c ≡ a * c + b * c
mul_add a b c = grind arith

one_more : (i b : ℕ) → i * b + b ≡ (i + 1) * b
one_more i b = grind arith

spread : (s i c b : ℕ) → (s + (i + suc c)) * b ≡ s * b + i * b + (b + c * b)
spread s i c b = grind arith

goes_on : (bytes output : List ℕ) (next : List ℕ → List ℕ) → 0 < length bytes → unless_empty bytes output next ≡ next bytes
goes_on [] output next some = absurd (omega (arith, some))
goes_on (b ∷ bytes) output next some = refl

length_part : (n a : ℕ) (file : List ℕ) → a + n ≤ length file → length (take n (drop a file)) ≡ n
length_part n a file fits = length-take-le n (drop a file) (let e = length-drop a file in omega (arith, e))

-- n bytes from a on stand at the start
abbrev moved : ℕ → ℕ → List ℕ → List ℕ
moved n a file = take n (drop a file) ++ drop n file

-- what is read at a + n lies behind what was written
read_there : (n a r : ℕ) (file : List ℕ) → a + n ≤ length file → take r (drop (a + n) (moved n a file)) ≡ take r (drop (a + n) file)
read_there n a r file fits = ap (take r) (drop-append-drop n file (take n (drop a file)) (a + n) (omega arith) (length_part n a file fits))

-- writing it at n goes on with the copy
write_there : (n a r : ℕ) (file : List ℕ) → a + n + r ≤ length file → patched (moved n a file) n (take r (drop (a + n) file)) ≡ moved (n + r) a file
write_there n a r file fits =
    let front = take n (drop a file) in
    let bytes = take r (drop (a + n) file) in
    let long : length front ≡ n = length_part n a file (omega (arith, fits)) in
    let first : take n (moved n a file) ≡ front = take_at front (drop n file) n long in
    let size : length bytes ≡ r = length_part r (a + n) file fits in
    let last : drop (n + length bytes) (moved n a file) ≡ drop (n + length bytes) file = drop-append-drop n file front (n + length bytes) (omega arith) long in
    let joined : front ++ bytes ≡ take (n + r) (drop a file) = ap (λ d. front ++ take r d) (sym (drop-drop n a file)) ∙ sym (take-add n r (drop a file)) in
    ap₂ (λ f d. f ++ bytes ++ d) first last
    ∙ ap (λ k. front ++ bytes ++ drop (n + k) file) size
    ∙ ap (λ f. f ++ drop (n + r) file) joined

-- n blocks more, behind the first i
from_there : (size skip n i : ℕ) (file : List ℕ) → 0 < size → (skip + (i + n)) * size ≤ length file
    → blocks_copied true size skip n i file (moved (i * size) (skip * size) file) ≡ moved ((i + n) * size) (skip * size) file
from_there size skip zero i file some fits = let e : i ≡ i + 0 = omega arith in ap (λ k. moved (k * size) (skip * size) file) e
from_there size skip (suc n) i file some fits =
    let split : (skip + i) * size ≡ skip * size + i * size = mul_add skip i size in
    let whole : (skip + (i + suc n)) * size ≡ skip * size + i * size + (size + n * size) = spread skip i n size in
    let more : skip * size + i * size + size ≤ length file = omega (arith, whole, fits) in
    let now = moved (i * size) (skip * size) file in
    let bytes = take size (drop (skip * size + i * size) file) in
    let read : block_at size (skip + i) now ≡ bytes = ap (λ at. take size (drop at now)) split ∙ read_there (i * size) (skip * size) size file (omega (arith, more)) in
    let long : length bytes ≡ size = length_part size (skip * size + i * size) file more in
    let next : List ℕ → List ℕ = λ b. blocks_copied true size skip n (i + 1) file (patched now (i * size) b) in
    let step : i * size + size ≡ (i + 1) * size = one_more i size in
    let turn : i + 1 + n ≡ i + suc n = omega arith in
    ap (λ b. unless_empty b now next) read
    ∙ goes_on bytes now next (omega (arith, long, some))
    ∙ ap (blocks_copied true size skip n (i + 1) file) (write_there (i * size) (skip * size) size file more ∙ ap (λ k. moved k (skip * size) file) step)
    ∙ from_there size skip n (i + 1) file some (subst (λ k. (skip + k) * size ≤ length file) (sym turn) fits)
    ∙ ap (λ k. moved (k * size) (skip * size) file) turn

pub onto_itself : (size skip count : ℕ) (file : List ℕ) → 0 < size → (skip + count) * size ≤ length file
    → dd_effect true size skip count file file ≡ over file (take (count * size) (drop (skip * size) file))
unfolding dd_effect
onto_itself size skip count file some fits =
    let none : 0 + count ≡ count = omega arith in
    let start : 0 ≡ 0 * size = omega arith in
    let e : (skip + count) * size ≡ skip * size + count * size = mul_add skip count size in
    let long : length (take (count * size) (drop (skip * size) file)) ≡ count * size = length_part (count * size) (skip * size) file (omega (arith, e, fits)) in
    ap (λ k. blocks_copied true size skip count 0 file (take k (drop (skip * size) file) ++ drop k file)) start
    ∙ from_there size skip count 0 file some (subst (λ k. (skip + k) * size ≤ length file) (sym none) fits)
    ∙ ap (λ k. moved (k * size) (skip * size) file) none
    ∙ ap (λ k. take (count * size) (drop (skip * size) file) ++ drop k file) (sym long)

-- ---- past the end of the input

nothing_there : (n : ℕ) (rest : List ℕ) → length rest ≡ 0 → take n rest ≡ []
nothing_there zero [] none = refl
nothing_there (suc n) [] none = refl
nothing_there zero (b ∷ rest) none = refl
nothing_there (suc n) (b ∷ rest) none = absurd (omega (arith, none))

pub past_end : (itself : Bool) (size skip count : ℕ) (input output : List ℕ) → length (cond itself output input) ≤ skip * size
    → dd_effect itself size skip count input output ≡ output
unfolding dd_effect
past_end itself size skip zero input output past = refl
past_end itself size skip (suc n) input output past =
    let from = cond itself output input in
    let at : (skip + 0) * size ≡ skip * size = grind arith in
    let long = length-drop ((skip + 0) * size) from in
    ap (λ b. unless_empty b output (λ bytes. blocks_copied itself size skip n 1 input (patched output (0 * size) bytes)))
    (nothing_there size (drop ((skip + 0) * size) from) (omega (arith, long, past, at)))
