-- What stands at a place of a list that is made of parts.
use Rattle.std.proofs.Common.{◌≡◌, ℕ, zero, suc, ◌+◌, ◌^◌, ◌<◌, ◌≤◌, List, [], ◌∷◌, ◌++◌, length, get_or, slice_index, append-nil, take, drop, refl, sym, ap, ◌∙◌, arith, length-append, add-zero}
use Rattle.std.proofs.lemmas.List.{get_or-append-add, get_or_append_left, length-replicate, drop_more}
use Rattle.ap_fields.specs.Bytes.{zeros, listed, Holds}
use Rattle.ap_fields.specs.Fields.{number_at, bytes_of}
use Rattle.ap_fields.proofs.Numbers.{number_at-same, number_at-bytes_of, length-bytes_of}

pub length-zeros : (n : ℕ) → length (zeros n) ≡ n
unfolding zeros
length-zeros n = length-replicate n 0

pub get_or-zeros : (n i : ℕ) → get_or (zeros n) i 0 ≡ 0
unfolding zeros
get_or-zeros zero i = refl
get_or-zeros (suc n) zero = refl
get_or-zeros (suc n) (suc i) = get_or-zeros n i

pub length-listed : (byte : ℕ → ℕ) (at n : ℕ) → length (listed byte at n) ≡ n
length-listed byte at zero = refl
length-listed byte at (suc n) = ap suc (length-listed byte (suc at) n)

pub get_or-listed : (byte : ℕ → ℕ) (at n i : ℕ) → i < n → get_or (listed byte at n) i 0 ≡ byte (at + i)
get_or-listed byte at zero i h = absurd (omega arith)
get_or-listed byte at (suc n) zero h = ap byte (sym (add-zero at))
get_or-listed byte at (suc n) (suc i) h =
    get_or-listed byte (suc at) n i (omega arith) ∙ ap byte (let e : suc at + i ≡ at + suc i = omega arith in e)

-- the bytes of a list from a place on
pub listed-slice : (xs : List ℕ) (at n : ℕ) → at + n ≤ length xs → listed (λ i. get_or xs i 0) at n ≡ take n (drop at xs)
listed-slice xs at zero h = refl
listed-slice xs at (suc n) h =
    let rest : listed (λ i. get_or xs i 0) (suc at) n ≡ take n (drop (suc at) xs) = listed-slice xs (suc at) n (omega arith) in
    let next : suc at ≡ at + 1 = omega arith in
    ap (λ l. get_or xs at 0 ∷ l) (rest ∙ ap (λ i. take n (drop i xs)) next)
    ∙ sym (ap (take (suc n)) (drop_more xs at 0 (omega arith)))

-- a part between others stands where the parts in front end
pub holds-part : (front part behind : List ℕ) (at : ℕ) → at ≡ length front → Holds (front ++ (part ++ behind)) at part
holds-part front part behind at is = record {
  fits = (let a = length-append front (part ++ behind) in let b = length-append part behind in omega arith);
  same = λ k h.
      ap (λ i. get_or (front ++ (part ++ behind)) (i + k) 0) is
      ∙ get_or-append-add front (part ++ behind) k 0
      ∙ get_or_append_left part behind 0 k h;
}

-- the part of a file that holds the first of two lists, and the part behind it
pub holds-front : (w : List ℕ) (at : ℕ) (part rest : List ℕ) → Holds w at (part ++ rest) → Holds w at part
holds-front w at part rest h =
    let len = length-append part rest in
    let fits = h.fits in
    record {
      fits = omega arith;
      same = λ k l. h.same k (omega arith) ∙ get_or_append_left part rest 0 k l;
    }

pub holds-behind : (w : List ℕ) (at next : ℕ) (part rest : List ℕ) → next ≡ at + length part → Holds w at (part ++ rest) → Holds w next rest
holds-behind w at next part rest is h =
    let len = length-append part rest in
    let fits = h.fits in
    record {
      fits = omega arith;
      same = λ k l. let place : next + k ≡ at + (length part + k) = omega arith in
          ap (λ i. slice_index w i) place ∙ h.same (length part + k) (omega arith) ∙ get_or-append-add part rest k 0;
    }

-- a number that a file holds reads as itself
pub number_at-holds : (n x at : ℕ) (w : List ℕ) → x < 256 ^ n → Holds w at (bytes_of n x) → number_at n at w ≡ x
number_at-holds n x at w small h =
    let len = length-bytes_of n x in
    let all : bytes_of n x ++ [] ≡ bytes_of n x = append-nil (bytes_of n x) in
    number_at-same n at 0 w (bytes_of n x) (λ i l. h.same i (omega arith) ∙ ap (λ k. slice_index (bytes_of n x) k) (omega arith))
    ∙ ap (number_at n 0) (sym all)
    ∙ number_at-bytes_of n x [] small
