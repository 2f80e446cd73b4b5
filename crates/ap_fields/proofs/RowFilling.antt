-- Numbers that are put into zeros at ascending places, one after the other, are a structure of these fields.
use Rattle.std.proofs.Common.{◌≡◌, ℕ, ◌+◌, ◌-◌, ◌≤◌, true, nat_le, List, [], ◌∷◌, ◌++◌, length, take, drop, replicate, refl, sym, ap, ◌∙◌, arith, length-append, append_assoc}
use Rattle.std.proofs.Math.Seq.{take-append_seam, drop-append_seam}
use Rattle.std.proofs.lemmas.Bool.{and_parts, leb-true}
use Rattle.std.proofs.lemmas.List.{replicate-append-replicate}
use Rattle.ap_fields.specs.Bytes.{zeros}
use Rattle.ap_fields.specs.Fields.{bytes_of, Puts}
use Rattle.ap_fields.proofs.Numbers.{length-bytes_of}
use Rattle.ap_fields.proofs.Bytes.{length-zeros}
use Rattle.ap_fields.specs.Structures.{Rows, structure, in_order}

-- each field's number is put, in their order
abbrev pub PutAll : List ℕ → List ℕ → Rows → Type 0
PutAll old new [] = old ≡ new
PutAll old new (r ∷ rows) = (mid : List ℕ) × (Puts r.0.1 r.0.0 r.1 old mid) × PutAll mid new rows

-- a buffer of n bytes that is filled up to a place, and zero behind it
record Filled (n at : ℕ) (front b : List ℕ) : Type 0 where
  pub is : b ≡ front ++ zeros (n - at)
  pub long : length front ≡ at

zeros-two : (a b n : ℕ) → n ≡ a + b → zeros n ≡ zeros a ++ zeros b
unfolding zeros
zeros-two a b n is = ap (λ k. replicate k 0) is ∙ sym (replicate-append-replicate a b 0)

in-room : (n from : ℕ) (rows : Rows) → in_order n from rows ≡ true → from ≤ n
in-room n from [] order = leb-true from n order
in-room n from (r ∷ rows) order =
    let both = and_parts (nat_le from r.0.0) (in_order n (r.0.0 + r.0.1) rows) order in
    let low : from ≤ r.0.0 = leb-true from r.0.0 both.0 in
    let rest = in-room n (r.0.0 + r.0.1) rows both.1 in
    omega arith

split-at : (k : ℕ) (b xs ys : List ℕ) → b ≡ xs ++ ys → length xs ≡ k → (take k b ≡ xs) × (drop k b ≡ ys)
split-at k b xs ys is long = (
  ap (take k) is ∙ ap (λ i. take i (xs ++ ys)) (sym long) ∙ take-append_seam xs ys,
  ap (drop k) is ∙ ap (λ i. drop i (xs ++ ys)) (sym long) ∙ drop-append_seam xs ys,
)

filled-put : (n at place width x : ℕ) (front old new : List ℕ) → at ≤ place → place + width ≤ n → Puts width place x old new → Filled n at front old
    → Filled n (place + width) (front ++ (zeros (place - at) ++ bytes_of width x)) new
filled-put n at place width x front old new low fits puts h =
    let bytes : List ℕ = bytes_of width x in
    let gap : List ℕ = zeros (place - at) in
    let mid : List ℕ = zeros width in
    let rest : List ℕ = zeros (n - (place + width)) in
    let len : length bytes ≡ width = length-bytes_of width x in
    let l1 = length-zeros (place - at) in
    let l2 = length-zeros width in
    let l3 = h.long in
    let l4 = length-append front gap in
    let l5 = length-append (front ++ gap) mid in
    let tail : zeros (n - at) ≡ gap ++ (mid ++ rest) =
    zeros-two (place - at) (n - place) (n - at) (omega arith) ∙ ap (λ z. gap ++ z) (zeros-two width (n - (place + width)) (n - place) (omega arith)) in
    let one : old ≡ (front ++ gap) ++ (mid ++ rest) = h.is ∙ ap (λ z. front ++ z) tail ∙ sym (append_assoc front gap (mid ++ rest)) in
    let two : old ≡ ((front ++ gap) ++ mid) ++ rest = one ∙ sym (append_assoc (front ++ gap) mid rest) in
    let before : take place old ≡ front ++ gap = (split-at place old (front ++ gap) (mid ++ rest) one (omega arith)).0 in
    let behind : drop (place + length bytes) old ≡ rest = (split-at (place + length bytes) old ((front ++ gap) ++ mid) rest two (omega arith)).1 in
    let l6 = length-append gap bytes in
    let l7 = length-append front (gap ++ bytes) in
    record {
      is = puts.bytes ∙ ap (λ f. (f ++ bytes) ++ drop (place + length bytes) old) before ∙ ap (λ r. ((front ++ gap) ++ bytes) ++ r) behind ∙ ap (λ f. f ++ rest) (append_assoc front gap bytes);
      long = omega arith;
    }

filled-all : (n at : ℕ) (front old new : List ℕ) (rows : Rows) → in_order n at rows ≡ true → PutAll old new rows → Filled n at front old → new ≡ front ++ structure n at rows
filled-all n at front old new [] order puts h = sym puts ∙ h.is
filled-all n at front old new (r ∷ rows) order puts h =
    let place : ℕ = r.0.0 in
    let width : ℕ = r.0.1 in
    let both = and_parts (nat_le at place) (in_order n (place + width) rows) order in
    let gap : List ℕ = zeros (place - at) in
    let bytes : List ℕ = bytes_of width r.1 in
    let more : List ℕ = structure n (place + width) rows in
    let next = filled-put n at place width r.1 front old puts.0 (leb-true at place both.0) (in-room n (place + width) rows both.1) puts.1 h in
    filled-all n (place + width) (front ++ (gap ++ bytes)) puts.0 new rows both.1 puts.2 next
    ∙ append_assoc front (gap ++ bytes) more
    ∙ ap (λ z. front ++ z) (append_assoc gap bytes more)

whole : (n : ℕ) → replicate n 0 ≡ zeros (n - 0)
unfolding zeros
whole n = ap (λ k. replicate k 0) (omega arith)

-- numbers put into zeros
pub rows-put : (n : ℕ) (new : List ℕ) (rows : Rows) → in_order n 0 rows ≡ true → PutAll (replicate n 0) new rows → new ≡ structure n 0 rows
unfolding zeros
rows-put n new rows order puts = filled-all n 0 [] (replicate n 0) new rows order puts (record { is = whole n; long = refl })

-- a number by another name
pub put-as : (n at x y : ℕ) (old new : List ℕ) → x ≡ y → Puts n at x old new → Puts n at y old new
put-as n at x y old new e puts = rw (sym e) puts
