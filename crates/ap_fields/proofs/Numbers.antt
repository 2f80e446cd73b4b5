-- How `number_at` and `bytes_of` read each other, and how they go over lists that are joined.
use Rattle.std.proofs.Common.{◌≡◌, ℕ, zero, suc, ◌+◌, ◌*◌, ◌^◌, ◌<◌, ◌≤◌, ◌-◌, List, ◌++◌, length, take, drop, slice_index, refl, sym, ap, ◌∙◌, arith, length-drop, add_assoc, append_assoc, append-nil, []}
use Rattle.std.specs.Int.{byte_at}
use Rattle.std.proofs.lemmas.List.{get_or-drop, get_or_append_left, get_or-append-add, drop-drop, length-take-le, drop_all, take_rest}
use Rattle.std.proofs.Math.Nat.{pow-suc}
use borrow.Rule.Slice.PartMut.{put_mid}
use Rattle.byteorder.specs.Endian.{little_from, little_number, little_bytes}
use Rattle.byteorder.specs.Numbers.{little_number-reads_back, little_from-lt, length-bytes_low_first}
use Rattle.ap_fields.specs.Fields.{number_at, bytes_of, sum_below, patched, Puts}

-- equal terms have equal sums
pub sum_below-same : (n : ℕ) (f g : ℕ → ℕ) → ((i : ℕ) → i < n → f i ≡ g i) → sum_below n f ≡ sum_below n g
sum_below-same zero f g h = refl
sum_below-same (suc n) f g h =
    let front = sum_below-same n f g (λ i l. h i (omega arith)) in
    let last = h n (omega arith) in
    cc

-- the first term, and the others
pub sum_below-front : (n : ℕ) (f : ℕ → ℕ) → sum_below (suc n) f ≡ f 0 + sum_below n (λ i. f (suc i))
sum_below-front zero f = omega arith
sum_below-front (suc n) f = ap (λ x. x + f (suc n)) (sum_below-front n f) ∙ omega arith

-- a factor before the sum
pub sum_below-mul : (n k : ℕ) (f : ℕ → ℕ) → sum_below n (λ i. k * f i) ≡ k * sum_below n f
sum_below-mul zero k f = omega arith
sum_below-mul (suc n) k f = ap (λ x. x + k * f n) (sum_below-mul n k f) ∙ omega arith

-- equal bytes spell equal numbers
pub number_at-same : (n p q : ℕ) (a b : List ℕ) → ((i : ℕ) → i < n → slice_index a (p + i) ≡ slice_index b (q + i)) → number_at n p a ≡ number_at n q b
unfolding number_at
number_at-same n p q a b h =
    sum_below-same n (λ i. slice_index a (p + i) * 256 ^ i) (λ i. slice_index b (q + i) * 256 ^ i) (λ i l. ap (λ x. x * 256 ^ i) (h i l))

-- the number by the first byte and the number behind it
pub number_at-little : (n at : ℕ) (b : List ℕ) → number_at n at b ≡ little_from at n b
unfolding number_at
number_at-little zero at b = refl
number_at-little (suc n) at b =
    let f : ℕ → ℕ = λ i. slice_index b (at + i) * 256 ^ i in
    let g : ℕ → ℕ = λ i. slice_index b (suc at + i) * 256 ^ i in
    let step : (i : ℕ) → i < n → f (suc i) ≡ 256 * g i =
    λ i l. let place : at + suc i ≡ suc at + i = omega arith in rw (place, pow-suc 256 i) (omega arith) in
    let here : at + 0 ≡ at = omega arith in
    sum_below-front n f
    ∙ ap (λ x. f 0 + x) (sum_below-same n (λ i. f (suc i)) (λ i. 256 * g i) step ∙ sum_below-mul n 256 g ∙ ap (λ x. 256 * x) (number_at-little n (suc at) b))
    ∙ rw here (omega arith)

-- a number behind the front of a list
pub number_at-drop : (n at k : ℕ) (b : List ℕ) → number_at n at (drop k b) ≡ number_at n (k + at) b
number_at-drop n at k b =
    number_at-same n at (k + at) (drop k b) b (λ i l. get_or-drop k b (at + i) 0 ∙ ap (λ x. slice_index b x) (omega arith))

-- what was written is read, whatever follows
pub number_at-bytes_of : (n x : ℕ) (rest : List ℕ) → x < 256 ^ n → number_at n 0 (bytes_of n x ++ rest) ≡ x
unfolding bytes_of
number_at-bytes_of n x rest h = number_at-little n 0 (bytes_of n x ++ rest) ∙ little_number-reads_back n x rest h

pub length-bytes_of : (n x : ℕ) → length (bytes_of n x) ≡ n
unfolding bytes_of
length-bytes_of n x = length-bytes_low_first 0 n x

-- no number of n bytes reaches 256 ^ n
pub number_at-lt : (n at : ℕ) (b : List ℕ) → ((k : ℕ) → slice_index b k < 256) → number_at n at b < 256 ^ n
number_at-lt n at b h = rw (number_at-little n at b) (little_from-lt at n b h)

-- a number in the first of two lists, and one in the second
pub number_at-append_left : (n at : ℕ) (xs ys : List ℕ) → at + n ≤ length xs → number_at n at (xs ++ ys) ≡ number_at n at xs
number_at-append_left n at xs ys h =
    number_at-same n at at (xs ++ ys) xs (λ i l. get_or_append_left xs ys 0 (at + i) (omega arith))

pub number_at-append_right : (n at : ℕ) (xs ys : List ℕ) → number_at n (length xs + at) (xs ++ ys) ≡ number_at n at ys
number_at-append_right n at xs ys =
    number_at-same n (length xs + at) at (xs ++ ys) ys
    (λ i l. ap (λ x. slice_index (xs ++ ys) x) (add_assoc (length xs) at i) ∙ get_or-append-add xs ys (at + i) 0)

-- what `read_*` of byteorder gives of the rest of a slice from a place on
pub read_from : (n at : ℕ) (b : List ℕ) (x : ℕ) → x ≡ little_number n (take (length b - at) (drop at b)) → x ≡ number_at n at b
read_from n at b x e =
    e ∙ ap (little_number n) (take_rest b at) ∙ sym (number_at-little n 0 (drop at b)) ∙ number_at-drop n 0 at b ∙ ap (λ k. number_at n k b) (omega arith)

-- a field in a patched list reads as what was patched in
pub number_at-patched : (n at x : ℕ) (b : List ℕ) → at + n ≤ length b → x < 256 ^ n → number_at n at (patched b at (bytes_of n x)) ≡ x
number_at-patched n at x b fits small =
    let front : length (take at b) ≡ at = length-take-le at b (omega arith) in
    ap (number_at n at) (append_assoc (take at b) (bytes_of n x) (drop (at + length (bytes_of n x)) b))
    ∙ ap (λ k. number_at n k (take at b ++ (bytes_of n x ++ drop (at + length (bytes_of n x)) b))) (let e : at ≡ length (take at b) + 0 = omega arith in e)
    ∙ number_at-append_right n 0 (take at b) (bytes_of n x ++ drop (at + length (bytes_of n x)) b)
    ∙ number_at-bytes_of n x (drop (at + length (bytes_of n x)) b) small

-- what `write_*` of byteorder leaves, where the slice from a place on was lent
pub write_to : (n at x : ℕ) (b part : List ℕ) → at + n ≤ length b → x < 256 ^ n → part ≡ little_bytes n x ++ drop n (take (length b - at) (drop at b)) → Puts n at x b (put_mid at (length b - at) b part)
unfolding bytes_of
write_to n at x b part fits small e =
    let none : drop (length b - at) (drop at b) ≡ [] = drop_all (length b - at) (drop at b) (omega (arith, length-drop at b)) in
    let len : length (bytes_of n x) ≡ n = length-bytes_of n x in
    let same : put_mid at (length b - at) b part ≡ patched b at (bytes_of n x) =
    ap (λ r. take at b ++ (part ++ r)) none
    ∙ ap (λ r. take at b ++ r) (append-nil part ∙ e ∙ ap (λ d. little_bytes n x ++ drop n d) (take_rest b at))
    ∙ ap (λ r. take at b ++ (bytes_of n x ++ r)) (drop-drop n at b)
    ∙ sym (append_assoc (take at b) (bytes_of n x) (drop (at + n) b))
    ∙ ap (λ k. take at b ++ bytes_of n x ++ drop (at + k) b) (sym len) in
    record { field = ap (number_at n at) same ∙ number_at-patched n at x b fits small; bytes = same }

-- a byte of a number is one
pub byte_at-lt : (i x : ℕ) → byte_at i x < 256
byte_at-lt zero x = omega arith
byte_at-lt (suc i) x = omega arith
