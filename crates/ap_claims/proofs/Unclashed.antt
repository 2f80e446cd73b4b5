-- Claims that have a file don't clash on a block that holds what the file holds.
use Rattle.std.proofs.Common.{◌≡◌, ◌⊎◌, inl, inr, ℕ, suc, ◌+◌, ◌-◌, ◌<◌, ◌≤◌, true, List, [], ◌∷◌, length, get_or, Option, None, refl, sym, ap, ◌∙◌, arith}
use Rattle.std.proofs.lemmas.Bool.{cond-true}
use Rattle.std.proofs.lemmas.Bool.Decides.{nat_tests}
use Rattle.ap_fields.specs.Bytes.{Holds}
use Rattle.ap_fields.specs.declared.sizes.TheConstants.{BLOCK}
use Rattle.ap_claims.specs.Blocks.{BlockState, agrees, clash_of, claimed, free_block}
use Rattle.ap_claims.specs.Lists.{Claim, end_of, Among, clash_on, first_clash}
use Rattle.ap_claims.specs.Files.{FilesDontClash}
use Rattle.ap_claims.proofs.Filled.{IsSized, claimed-sized, free_block-sized, free_block-at, has_place-or}
use Rattle.ap_claims.proofs.Ranges.{claimed-outside, claimed-bytes}

-- each byte that has an owner is the file's
abbrev Follows : List ℕ → BlockState → Type 0
Follows file b = (k : ℕ) → (get_or b.owners k 0 ≡ 0) ⊎ (get_or b.bytes k 0 ≡ get_or file k 0)

agrees-either : (b : BlockState) (k v w : ℕ) → (get_or b.owners k 0 ≡ 0) ⊎ (get_or b.bytes k 0 ≡ w) → w ≡ v → agrees b k v ≡ true
agrees-either b k v w h is = elim h [
  | inl free ↦ grind (arith, nat_tests)
  | inr same ↦ grind (arith, nat_tests)
]

-- a range of the file's bytes doesn't clash
range-passes : (file : List ℕ) (b : BlockState) (at : ℕ) (bytes : List ℕ) → Follows file b → ((k : ℕ) → k < length bytes → get_or file (at + k) 0 ≡ get_or bytes k 0) → clash_of b at bytes ≡ None
range-passes file b at [] follows same = refl
range-passes file b at (v ∷ bytes) follows same =
    let here : at + 0 ≡ at = omega arith in
    let first : get_or file at 0 ≡ v = ap (λ i. get_or file i 0) (sym here) ∙ same 0 (omega arith) in
    cond-true (agrees b at v) _ _ (agrees-either b at v (get_or file at 0) (follows at) first)
    ∙ range-passes file b (at + 1) bytes follows (λ k low. let there : at + 1 + k ≡ at + suc k = omega arith in ap (λ i. get_or file i 0) there ∙ same (suc k) (omega (arith, low)))

claimed-follows : (file : List ℕ) (b : BlockState) (c : Claim) → IsSized b → end_of c ≤ BLOCK → Holds file c.at c.bytes → Follows file b → Follows file (claimed c.owner b c.at c.bytes)
claimed-follows file b c sized fits held follows k =
    let lb = sized.bytes in
    let lo = sized.owners in
    elim (has_place-or c k) [
      | inl on ↦
          (let low = on.0 in
          let high = on.1 in
          let place : c.at + (k - c.at) ≡ k = omega arith in
          inr (ap (λ i. get_or (claimed c.owner b c.at c.bytes).bytes i 0) (sym place)
          ∙ claimed-bytes c.owner b c.at c.bytes (omega arith) (omega arith) (k - c.at) (omega arith)
          ∙ sym (held.same (k - c.at) (omega arith))
          ∙ ap (λ i. get_or file i 0) place))
      | inr off ↦
          (let out = claimed-outside c.owner b c.at c.bytes k off.0 in
          elim (follows k) [
            | inl free ↦ inl (out.1 ∙ free)
            | inr same ↦ inr (out.0 ∙ same)
          ])
    ]

claims-pass : (file : List ℕ) (claims : List Claim) (b : BlockState) → IsSized b → length file ≡ BLOCK → ((c : Claim) → Among c claims → Holds file c.at c.bytes) → Follows file b → clash_on b claims ≡ None
claims-pass file [] b sized long held follows = refl
claims-pass file (c ∷ claims) b sized long held follows =
    let first = held c (inl refl) in
    let fits = first.fits in
    ap (λ (x : Option _). first_clash x (clash_on (claimed c.owner b c.at c.bytes) claims)) (range-passes file b c.at c.bytes follows first.same)
    ∙ claims-pass file claims (claimed c.owner b c.at c.bytes) (claimed-sized c b sized) long (λ d among. held d (inr among)) (claimed-follows file b c sized (omega arith) first follows)

pub files-pass : FilesDontClash
files-pass claims file h = claims-pass file claims free_block free_block-sized h.len h.held (λ k. inl (free_block-at k).1)
