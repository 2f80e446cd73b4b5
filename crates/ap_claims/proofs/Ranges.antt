-- A claimed range, place by place.
use Rattle.std.proofs.Common.{◌≡◌, ◌≢◌, ℕ, zero, suc, ◌+◌, ◌<◌, ◌≤◌, true, eqb, List, [], ◌∷◌, length, get_or, Some, None, refl, sym, ap, ◌∙◌, arith, bit_or, inl, inr}
use Rattle.std.proofs.lemmas.List.{get_or-set_same, get_or-set_other, length-set}
use Rattle.std.proofs.lemmas.Bool.{cases_Bool, cases_eq, cond-true, cond-false, or_cases, eqb-true}
use Rattle.std.proofs.lemmas.Nat.{le_or_l}
use Rattle.ap_claims.specs.declared.owner.Owner.{Owner}
use Rattle.ap_claims.specs.Blocks.{BlockState, agrees, clash_at, clash_of, claimed_at, claimed, only}
use Rattle.ap_claims.specs.Places.{IsOutside, HasClaimed}

-- the same from a place on
pub record SameFrom (low : ℕ) (b c : BlockState) : Type 0 where
  pub bytes : (k : ℕ) → low ≤ k → get_or b.bytes k 0 ≡ get_or c.bytes k 0
  pub owners : (k : ℕ) → low ≤ k → get_or b.owners k 0 ≡ get_or c.owners k 0

claimed_at-same : (o : Owner) (b : BlockState) (k v : ℕ) → SameFrom (k + 1) (claimed_at o b k v) b
unfolding claimed_at
claimed_at-same o b k v = record {
  bytes = λ i h. let ne : i ≢ k = omega arith in get_or-set_other b.bytes k i v 0 ne;
  owners = λ i h. let ne : i ≢ k = omega arith in get_or-set_other b.owners k i _ 0 ne;
}

clash_of-same : (b c : BlockState) (at : ℕ) (vs : List ℕ) → SameFrom at b c → clash_of b at vs ≡ clash_of c at vs
clash_of-same b c at [] s = refl
clash_of-same b c at (v ∷ vs) s =
    let byte : get_or b.bytes at 0 ≡ get_or c.bytes at 0 = s.bytes at (omega arith) in
    let owner : get_or b.owners at 0 ≡ get_or c.owners at 0 = s.owners at (omega arith) in
    let rest : clash_of b (at + 1) vs ≡ clash_of c (at + 1) vs = clash_of-same b c (at + 1) vs (record { bytes = λ k h. s.bytes k (omega arith); owners = λ k h. s.owners k (omega arith) }) in
    rw (byte, owner, rest) refl

-- one claimed byte
claimed_at-sizes : (o : Owner) (b : BlockState) (k v : ℕ) → (length (claimed_at o b k v).bytes ≡ length b.bytes) × (length (claimed_at o b k v).owners ≡ length b.owners)
unfolding claimed_at
claimed_at-sizes o b k v = (length-set b.bytes k v, length-set b.owners k _)

claimed_at-here : (o : Owner) (b : BlockState) (k v : ℕ) → k < length b.bytes → k < length b.owners
    → (get_or (claimed_at o b k v).bytes k 0 ≡ v) × (get_or (claimed_at o b k v).owners k 0 ≡ bit_or (get_or b.owners k 0) (only o))
unfolding claimed_at
claimed_at-here o b k v lb lo = (get_or-set_same b.bytes k v 0 lb, get_or-set_same b.owners k _ 0 lo)

claimed_at-other : (o : Owner) (b : BlockState) (k v i : ℕ) → i ≢ k
    → (get_or (claimed_at o b k v).bytes i 0 ≡ get_or b.bytes i 0) × (get_or (claimed_at o b k v).owners i 0 ≡ get_or b.owners i 0)
unfolding claimed_at
claimed_at-other o b k v i ne = (get_or-set_other b.bytes k i v 0 ne, get_or-set_other b.owners k i _ 0 ne)

-- a claimed range
pub claimed-sizes : (o : Owner) (b : BlockState) (at : ℕ) (vs : List ℕ) → (length (claimed o b at vs).bytes ≡ length b.bytes) × (length (claimed o b at vs).owners ≡ length b.owners)
claimed-sizes o b at [] = (refl, refl)
claimed-sizes o b at (v ∷ vs) =
    let rest = claimed-sizes o (claimed_at o b at v) (at + 1) vs in
    let first = claimed_at-sizes o b at v in
    (rest.0 ∙ first.0, rest.1 ∙ first.1)

pub claimed-outside : (o : Owner) (b : BlockState) (at : ℕ) (vs : List ℕ) (i : ℕ) → IsOutside at (length vs) i
    → (get_or (claimed o b at vs).bytes i 0 ≡ get_or b.bytes i 0) × (get_or (claimed o b at vs).owners i 0 ≡ get_or b.owners i 0)
claimed-outside o b at [] i out = (refl, refl)
claimed-outside o b at (v ∷ vs) i out =
    let ne : i ≢ at = omega arith in
    let later : IsOutside (at + 1) (length vs) i = elim out [ inl low ↦ inl (omega arith) | inr high ↦ inr (omega arith) ] in
    let rest = claimed-outside o (claimed_at o b at v) (at + 1) vs i later in
    let first = claimed_at-other o b at v i ne in
    (rest.0 ∙ first.0, rest.1 ∙ first.1)

pub claimed-bytes : (o : Owner) (b : BlockState) (at : ℕ) (vs : List ℕ) → at + length vs ≤ length b.bytes → at + length vs ≤ length b.owners
    → (k : ℕ) → k < length vs → get_or (claimed o b at vs).bytes (at + k) 0 ≡ get_or vs k 0
claimed-bytes o b at [] lb lo k h = absurd (omega arith)
claimed-bytes o b at (v ∷ vs) lb lo zero h =
    let place : at + 0 ≡ at = omega arith in
    rw place ((claimed-outside o (claimed_at o b at v) (at + 1) vs at (inl (omega arith))).0 ∙ (claimed_at-here o b at v (omega arith) (omega arith)).0)
claimed-bytes o b at (v ∷ vs) lb lo (suc k) h =
    let place : at + suc k ≡ at + 1 + k = omega arith in
    let sizes = claimed_at-sizes o b at v in
    rw place (claimed-bytes o (claimed_at o b at v) (at + 1) vs (omega (arith, sizes.0)) (omega (arith, sizes.1)) k (omega arith))

pub claimed-owners : (o : Owner) (b : BlockState) (at : ℕ) (vs : List ℕ) → at + length vs ≤ length b.bytes → at + length vs ≤ length b.owners
    → (k : ℕ) → k < length vs → get_or (claimed o b at vs).owners (at + k) 0 ≡ bit_or (get_or b.owners (at + k) 0) (only o)
claimed-owners o b at [] lb lo k h = absurd (omega arith)
claimed-owners o b at (v ∷ vs) lb lo zero h =
    let place : at + 0 ≡ at = omega arith in
    rw place ((claimed-outside o (claimed_at o b at v) (at + 1) vs at (inl (omega arith))).1 ∙ (claimed_at-here o b at v (omega arith) (omega arith)).1)
claimed-owners o b at (v ∷ vs) lb lo (suc k) h =
    let place : at + suc k ≡ at + 1 + k = omega arith in
    let sizes = claimed_at-sizes o b at v in
    let ne : at + 1 + k ≢ at = omega arith in
    rw place (claimed-owners o (claimed_at o b at v) (at + 1) vs (omega (arith, sizes.0)) (omega (arith, sizes.1)) k (omega arith)
    ∙ ap (λ (s : ℕ). bit_or s (only o)) (claimed_at-other o b at v (at + 1 + k) ne).1)

pub claimed-all : (o : Owner) (b : BlockState) (at : ℕ) (vs : List ℕ) → at + length vs ≤ length b.bytes → at + length vs ≤ length b.owners → HasClaimed o b (claimed o b at vs) at vs
claimed-all o b at vs lb lo = record {
  held = record { fits = (let s = claimed-sizes o b at vs in omega arith); same = claimed-bytes o b at vs lb lo };
  owners = claimed-owners o b at vs lb lo;
  other_bytes = λ k out. (claimed-outside o b at vs k out).0;
  other_owners = λ k out. (claimed-outside o b at vs k out).1;
}

-- one byte that agrees, claimed: a byte with an owner stays, and keeps one
claimed_at-stable : (o : Owner) (b : BlockState) (k v i : ℕ) → k < length b.bytes → k < length b.owners → agrees b k v ≡ true → 0 < get_or b.owners i 0
    → (get_or (claimed_at o b k v).bytes i 0 ≡ get_or b.bytes i 0) × (0 < get_or (claimed_at o b k v).owners i 0)
claimed_at-stable o b k v i lb lo on owned =
    elim (cases_eq i k) [
      | inl e ↦ rw e (
          let owned' : 0 < get_or b.owners k 0 = rw (← e) owned in
          let same : get_or b.bytes k 0 ≡ v = elim (or_cases (eqb (get_or b.owners k 0) 0) (eqb (get_or b.bytes k 0) v) on) [ inl free ↦ absurd (omega (arith, eqb-true (get_or b.owners k 0) 0 free)) | inr is ↦ eqb-true (get_or b.bytes k 0) v is ] in
          let here = claimed_at-here o b k v lb lo in
          (here.0 ∙ sym same, rw (here.1) (omega (arith, le_or_l (get_or b.owners k 0) (only o)))))
      | inr ne ↦ (let there = claimed_at-other o b k v i ne in (there.0, rw (there.1) owned))
    ]

-- a range without a clash, claimed: each byte with an owner stays, and keeps one
pub claimed-stable : (o : Owner) (b : BlockState) (at : ℕ) (vs : List ℕ) (i : ℕ) → at + length vs ≤ length b.bytes → at + length vs ≤ length b.owners → clash_of b at vs ≡ None → 0 < get_or b.owners i 0
    → (get_or (claimed o b at vs).bytes i 0 ≡ get_or b.bytes i 0) × (0 < get_or (claimed o b at vs).owners i 0)
claimed-stable o b at [] i lb lo none owned = (refl, owned)
claimed-stable o b at (v ∷ vs) i lb lo none owned =
    elim (cases_Bool (agrees b at v)) [
      | inl on ↦ (
          let step = claimed_at-stable o b at v i (omega arith) (omega arith) on owned in
          let sizes = claimed_at-sizes o b at v in
          let later : clash_of (claimed_at o b at v) (at + 1) vs ≡ None = clash_of-same (claimed_at o b at v) b (at + 1) vs (claimed_at-same o b at v) ∙ sym (cond-true (agrees b at v) _ _ on) ∙ none in
          let rest = claimed-stable o (claimed_at o b at v) (at + 1) vs i (omega (arith, sizes.0)) (omega (arith, sizes.1)) later step.1 in
          (rest.0 ∙ step.0, rest.1))
      | inr off ↦ (let bad : Some (clash_at b at v) ≡ None = sym (cond-false (agrees b at v) (clash_of b (at + 1) vs) _ off) ∙ none in cc)
    ]
