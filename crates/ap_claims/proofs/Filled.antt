-- A block on which claims are made one after the other.
use Rattle.std.proofs.Common.{◌≡◌, ◌⊎◌, inl, inr, ℕ, ◌+◌, ◌-◌, ◌<◌, ◌≤◌, true, false, List, [], ◌∷◌, length, get_or, Option, Some, None, refl, sym, ap, ◌∙◌, subst, arith, bit_or}
use Rattle.std.proofs.lemmas.Bool.{cond-true, cond-false}
use Rattle.std.proofs.lemmas.Bool.Decides.{nat_tests}
use Rattle.std.proofs.lemmas.List.{length-replicate}
use Rattle.std.proofs.lemmas.Nat.{le_or_r}
use Rattle.ap_fields.specs.declared.sizes.TheConstants.{BLOCK}
use Rattle.ap_fields.specs.Bytes.{Holds}
use Rattle.ap_claims.specs.declared.block.Clash.{Clash}
use Rattle.ap_claims.specs.Blocks.{BlockState, clash_of, claimed, only, free_block}
use Rattle.ap_claims.specs.Places.{IsOutside}
use Rattle.ap_claims.specs.Lists.{Claim, end_of, Among, claims_on, clash_on, first_clash}
use Rattle.ap_claims.specs.Files.{AreInside, IsFree, has_place, owners_with, ClaimsFill}
use Rattle.ap_claims.proofs.OwnerSets.{only-positive}
use Rattle.ap_claims.proofs.Free.{get_or-free}
use Rattle.ap_claims.proofs.Ranges.{claimed-sizes, claimed-outside, claimed-bytes, claimed-owners, claimed-stable}

-- each claim in turn lies in the block and doesn't clash
abbrev AllPass : BlockState → List Claim → Type 0
AllPass b [] = Unit {0}
AllPass b (c ∷ claims) = (end_of c ≤ BLOCK) × (clash_of b c.at c.bytes ≡ None) × AllPass (claimed c.owner b c.at c.bytes) claims

first_clash-none : (first later : Option Clash) → first_clash first later ≡ None → (first ≡ None) × (later ≡ None)
first_clash-none None later h = (refl, h)
first_clash-none (Some clash) later h = cc

all-pass : (claims : List Claim) (b : BlockState) → AreInside claims → clash_on b claims ≡ None → AllPass b claims
all-pass [] b inside none = tt
all-pass (c ∷ claims) b inside none =
    let parts = first_clash-none (clash_of b c.at c.bytes) (clash_on (claimed c.owner b c.at c.bytes) claims) none in
    (inside c (inl refl), parts.0, all-pass claims (claimed c.owner b c.at c.bytes) (λ d among. inside d (inr among)) parts.1)

-- a block's two lists have its size
pub record IsSized (b : BlockState) : Type 0 where
  pub bytes : length b.bytes ≡ BLOCK
  pub owners : length b.owners ≡ BLOCK

pub claimed-sized : (c : Claim) (b : BlockState) → IsSized b → IsSized (claimed c.owner b c.at c.bytes)
claimed-sized c b h =
    let sizes = claimed-sizes c.owner b c.at c.bytes in
    record { bytes = sizes.0 ∙ h.bytes; owners = sizes.1 ∙ h.owners }

claims_on-sized : (claims : List Claim) (b : BlockState) → IsSized b → IsSized (claims_on b claims)
claims_on-sized [] b h = h
claims_on-sized (c ∷ claims) b h = claims_on-sized claims (claimed c.owner b c.at c.bytes) (claimed-sized c b h)

-- a byte with an owner stays
claims_on-stable : (claims : List Claim) (b : BlockState) (i : ℕ) → IsSized b → AllPass b claims → 0 < get_or b.owners i 0 → get_or (claims_on b claims).bytes i 0 ≡ get_or b.bytes i 0
claims_on-stable [] b i sized pass owned = refl
claims_on-stable (c ∷ claims) b i sized pass owned =
    let lb = sized.bytes in
    let lo = sized.owners in
    let fits = pass.0 in
    let step = claimed-stable c.owner b c.at c.bytes i (omega arith) (omega arith) pass.1 owned in
    claims_on-stable claims (claimed c.owner b c.at c.bytes) i (claimed-sized c b sized) pass.2 step.1 ∙ step.0

-- the bytes of the first claim
held-first : (c : Claim) (claims : List Claim) (b : BlockState) → IsSized b → AllPass b (c ∷ claims) → Holds (claims_on b (c ∷ claims)).bytes c.at c.bytes
held-first c claims b sized pass =
    let lb = sized.bytes in
    let lo = sized.owners in
    let fits = pass.0 in
    let after : BlockState = claimed c.owner b c.at c.bytes in
    let final = claims_on-sized (c ∷ claims) b sized in
    let size = final.bytes in
    record {
      fits = omega arith;
      same = λ k h.
          let own : get_or after.owners (c.at + k) 0 ≡ bit_or (get_or b.owners (c.at + k) 0) (only c.owner) = claimed-owners c.owner b c.at c.bytes (omega arith) (omega arith) k h in
          let some : 0 < get_or after.owners (c.at + k) 0 = omega (arith, own, only-positive c.owner, le_or_r (get_or b.owners (c.at + k) 0) (only c.owner)) in
          claims_on-stable claims after (c.at + k) (claimed-sized c b sized) pass.2 some
          ∙ claimed-bytes c.owner b c.at c.bytes (omega arith) (omega arith) k h;
    }

claims_on-held : (claims : List Claim) (b : BlockState) → IsSized b → AllPass b claims → (c : Claim) → Among c claims → Holds (claims_on b claims).bytes c.at c.bytes
claims_on-held [] b sized pass c among = absurd among
claims_on-held (d ∷ claims) b sized pass c among = elim among [
  | inl e ↦ subst (λ (x : Claim). Holds (claims_on b (d ∷ claims)).bytes x.at x.bytes) (sym e) (held-first d claims b sized pass)
  | inr more ↦ claims_on-held claims (claimed d.owner b d.at d.bytes) (claimed-sized d b sized) pass.2 c more
]

claims_on-free : (claims : List Claim) (b : BlockState) (k : ℕ) → IsFree claims k → get_or (claims_on b claims).bytes k 0 ≡ get_or b.bytes k 0
claims_on-free [] b k free = refl
claims_on-free (c ∷ claims) b k free =
    claims_on-free claims (claimed c.owner b c.at c.bytes) k (λ d among. free d (inr among))
    ∙ (claimed-outside c.owner b c.at c.bytes k (free c (inl refl))).0

-- a claim has a place, or not
pub has_place-or : (c : Claim) (k : ℕ) → ((c.at ≤ k) × (k < end_of c) × (has_place c k ≡ true)) ⊎ (IsOutside c.at (length c.bytes) k × (has_place c k ≡ false))
has_place-or c k = grind (arith, nat_tests)

owners-at : (c : Claim) (b : BlockState) (k : ℕ) → IsSized b → end_of c ≤ BLOCK → c.at ≤ k → k < end_of c → get_or (claimed c.owner b c.at c.bytes).owners k 0 ≡ bit_or (get_or b.owners k 0) (only c.owner)
owners-at c b k sized fits low high =
    let lb = sized.bytes in
    let lo = sized.owners in
    let place : c.at + (k - c.at) ≡ k = omega arith in
    subst (λ (i : ℕ). get_or (claimed c.owner b c.at c.bytes).owners i 0 ≡ bit_or (get_or b.owners i 0) (only c.owner)) place
    (claimed-owners c.owner b c.at c.bytes (omega arith) (omega arith) (k - c.at) (omega arith))

claims_on-owners : (claims : List Claim) (b : BlockState) (k : ℕ) → IsSized b → AllPass b claims → get_or (claims_on b claims).owners k 0 ≡ owners_with (get_or b.owners k 0) claims k
claims_on-owners [] b k sized pass = refl
claims_on-owners (c ∷ claims) b k sized pass =
    let fits = pass.0 in
    let rest = claims_on-owners claims (claimed c.owner b c.at c.bytes) k (claimed-sized c b sized) pass.2 in
    elim (has_place-or c k) [
      | inl on ↦ rest ∙ ap (λ (s : ℕ). owners_with s claims k) (owners-at c b k sized fits on.0 on.1 ∙ sym (cond-true (has_place c k) (bit_or (get_or b.owners k 0) (only c.owner)) (get_or b.owners k 0) on.2))
      | inr off ↦ rest ∙ ap (λ (s : ℕ). owners_with s claims k) ((claimed-outside c.owner b c.at c.bytes k off.0).1 ∙ sym (cond-false (has_place c k) (bit_or (get_or b.owners k 0) (only c.owner)) (get_or b.owners k 0) off.1))
    ]

pub free_block-sized : IsSized free_block
unfolding free_block
free_block-sized =
    let zero_byte : ℕ = 0 in
    record { bytes = length-replicate BLOCK zero_byte; owners = length-replicate BLOCK zero_byte }

pub free_block-at : (k : ℕ) → (get_or free_block.bytes k 0 ≡ 0) × (get_or free_block.owners k 0 ≡ 0)
unfolding free_block
free_block-at k = (get_or-free BLOCK k 0, get_or-free BLOCK k 0)

pub claims-fill : ClaimsFill
claims-fill claims inside none =
    let pass = all-pass claims free_block inside none in
    let final = claims_on-sized claims free_block free_block-sized in
    record {
      bytes = record {
        len = final.bytes;
        held = claims_on-held claims free_block free_block-sized pass;
        free = λ k free. claims_on-free claims free_block k free ∙ (free_block-at k).0;
      };
      owners = λ k. claims_on-owners claims free_block k free_block-sized pass ∙ ap (λ (s : ℕ). owners_with s claims k) (free_block-at k).1;
    }
