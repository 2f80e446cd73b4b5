-- A block with one byte claimed, and the clash of a range byte by byte.
use Rattle.std.proofs.Common.{◌≡◌, ℕ, ◌+◌, ◌<◌, true, false, List, ◌∷◌, length, map, get_or, set, Some, sym, ap, ◌∙◌, subst, arith, bit_or, inl, inr}
use Rattle.std.proofs.lemmas.List.{map-set, get_or-map, get_or-set_same, get_or-set_other, length-set}
use Rattle.std.proofs.lemmas.Bool.{cases_eq, cond-true, cond-false}
use Rattle.std.proofs.lemmas.Nat.{le_or_r}
use Rattle.ap_claims.specs.declared.owner.Owner.{Owner}
use Rattle.ap_claims.specs.declared.owner.Owners.{Owners}
use Rattle.ap_claims.specs.Blocks.{BlockState, IsBlock, only, agrees, clash_at, clash_of, claimed_at}
use Rattle.ap_claims.proofs.OwnerSets.{only-positive, bit_or-known}

-- a block with one byte claimed is a block
pub block-claimed_at : (o : Owner) (b : BlockState) (k v : ℕ) → k < 16384 → IsBlock b → IsBlock (claimed_at o b k v)
unfolding claimed_at
block-claimed_at o b k v lt is = record {
  bytes = length-set b.bytes k v ∙ is.bytes;
  owners = length-set b.owners k _ ∙ is.owners;
  known = λ i. elim (cases_eq i k) [
    | inl e ↦ subst (λ (j : ℕ). get_or (set b.owners k (bit_or (get_or b.owners k 0) (only o))) j 0 < 128) (sym e)
        (let here : get_or (set b.owners k (bit_or (get_or b.owners k 0) (only o))) k 0 ≡ bit_or (get_or b.owners k 0) (only o) = get_or-set_same b.owners k _ 0 (omega (arith, is.owners)) in
        omega (arith, bit_or-known (get_or b.owners k 0) o (is.known k), here))
    | inr ne ↦ (let there : get_or (set b.owners k (bit_or (get_or b.owners k 0) (only o))) i 0 ≡ get_or b.owners i 0 = get_or-set_other b.owners k i _ 0 ne in omega (arith, is.known i, there))
  ];
  free = λ i none. elim (cases_eq i k) [
    | inl e ↦ (
        let here : get_or (set b.owners k (bit_or (get_or b.owners k 0) (only o))) k 0 ≡ bit_or (get_or b.owners k 0) (only o) = get_or-set_same b.owners k _ 0 (omega (arith, is.owners)) in
        let at : get_or (set b.owners k (bit_or (get_or b.owners k 0) (only o))) k 0 ≡ 0 = sym (ap (λ (j : ℕ). get_or (set b.owners k (bit_or (get_or b.owners k 0) (only o))) j 0) e) ∙ none in
        absurd (omega (arith, only-positive o, le_or_r (get_or b.owners k 0) (only o), here, at)))
    | inr ne ↦ get_or-set_other b.bytes k i v 0 ne ∙ is.free i (sym (get_or-set_other b.owners k i _ 0 ne) ∙ none)
  ];
}

-- the owners of a byte, read from the sets
pub owners-read : (xs : List Owners) (k : ℕ) (d : Owners) → k < length xs → get_or (map (λ (o : Owners). o.0) xs) k 0 ≡ (get_or xs k d).0
owners-read xs k d lt = get_or-map (λ (o : Owners). o.0) xs k d 0 lt

-- the fields of a block with one byte claimed
pub fields-claimed_at : (o : Owner) (bs : List ℕ) (os : List Owners) (k v : ℕ) (d w : Owners) → k < length os → w.0 ≡ bit_or (get_or os k d).0 (only o)
    → (let b : BlockState = record { bytes = set bs k v; owners = map (λ (x : Owners). x.0) (set os k w) } in b) ≡ claimed_at o (record { bytes = bs; owners = map (λ (x : Owners). x.0) os }) k v
unfolding claimed_at
fields-claimed_at o bs os k v d w lt is =
    let set_is : w.0 ≡ bit_or (get_or (map (λ (x : Owners). x.0) os) k 0) (only o) = is ∙ ap (λ (n : ℕ). bit_or n (only o)) (sym (owners-read os k d lt)) in
    ap (λ (ws : List ℕ). let b : BlockState = record { bytes = set bs k v; owners = ws } in b) (map-set (λ (x : Owners). x.0) os k w ∙ ap (λ (n : ℕ). set (map (λ (x : Owners). x.0) os) k n) set_is)

pub ruleset one_steps = (owners-read)

-- a range whose first byte agrees
pub clash-more : (b : BlockState) (at v : ℕ) (vs : List ℕ) → agrees b at v ≡ true → clash_of b at (v ∷ vs) ≡ clash_of b (at + 1) vs
clash-more b at v vs h = cond-true (agrees b at v) _ _ h

-- a range whose first byte doesn't
pub clash-here : (b : BlockState) (at v : ℕ) (vs : List ℕ) → agrees b at v ≡ false → clash_of b at (v ∷ vs) ≡ Some (clash_at b at v)
clash-here b at v vs h = cond-false (agrees b at v) _ _ h

pub ruleset clash_steps = (clash-more, clash-here)
