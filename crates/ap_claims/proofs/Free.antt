-- A block of free bytes.
use Rattle.std.proofs.Common.{◌≡◌, ℕ, zero, suc, ◌≤◌, List, ◌∷◌, length, replicate, map, get_or, refl, ap, ◌∙◌, arith, inl, inr}
use Rattle.std.proofs.lemmas.List.{length-replicate, get_or-replicate, length-map, get_or_past}
use Rattle.std.proofs.lemmas.Bool.{cases_lt}
use Rattle.ap_claims.specs.declared.owner.Owners.{Owners}
use Rattle.ap_claims.specs.Blocks.{BlockState, IsBlock, free_block}

pub owners-free : (n : ℕ) (w : Owners) → w.0 ≡ 0 → map (λ (o : Owners). o.0) (replicate n w) ≡ replicate n 0
owners-free zero w h = refl
owners-free (suc n) w h = ap (λ (x : ℕ). x ∷ map (λ (o : Owners). o.0) (replicate n w)) h ∙ ap (λ (xs : List ℕ). 0 ∷ xs) (owners-free n w h)

pub get_or-free : (n k z : ℕ) → get_or (replicate n z) k z ≡ z
get_or-free n k z = elim (cases_lt k n) [
  | inl l ↦ get_or-replicate n k z z l
  | inr l ↦ (let past : length (replicate n z) ≤ k = omega (arith, length-replicate n z) in get_or_past (replicate n z) k z past)
]

pub block-free : (n : ℕ) (w : Owners) → w.0 ≡ 0 → n ≡ 16384 → IsBlock (record { bytes = replicate n 0; owners = map (λ (o : Owners). o.0) (replicate n w) })
block-free n w h e = record {
  bytes = length-replicate n 0 ∙ e;
  owners = length-map (replicate n w) (λ (o : Owners). o.0) ∙ length-replicate n w ∙ e;
  known = λ k. (let none : get_or (map (λ (o : Owners). o.0) (replicate n w)) k 0 ≡ 0 = ap (λ (os : List ℕ). get_or os k 0) (owners-free n w h) ∙ get_or-free n k 0 in omega arith);
  free = λ k _. get_or-free n k 0;
}

pub fields-free : (w : Owners) → w.0 ≡ 0 → (let b : BlockState = record { bytes = replicate 16384 0; owners = map (λ (o : Owners). o.0) (replicate 16384 w) } in b) ≡ free_block
unfolding free_block
fields-free w h = ap (λ (os : List ℕ). let b : BlockState = record { bytes = replicate 16384 0; owners = os } in b) (owners-free 16384 w h)
