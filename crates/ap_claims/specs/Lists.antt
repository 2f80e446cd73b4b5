-- Claims that are made one after the other.
use Rattle.std.specs.Prelude.{◌≡◌, ◌⊎◌, ℕ, ◌+◌, List, [], ◌∷◌, ◌++◌, length, take, Option, Some, None, Result, Ok, Err}
use Rattle.ap_claims.specs.declared.owner.Owner.{Owner}
use Rattle.ap_claims.specs.declared.block.Clash.{Clash}
use Rattle.ap_claims.specs.Blocks.{BlockState, Claims, clash_of, claimed}

-- bytes that an owner claims from a place on
pub record Claim : Type 0 where
  pub owner : Owner
  pub at : ℕ
  pub bytes : List ℕ

abbrev pub claim : Owner → ℕ → List ℕ → Claim
claim owner at bytes = record { owner = owner; at = at; bytes = bytes }

-- the first place behind a claim
abbrev pub end_of : Claim → ℕ
end_of c = c.at + length c.bytes

abbrev pub Among : Claim → List Claim → Type 0
Among c [] = ⊥
Among c (d ∷ claims) = (c ≡ d) ⊎ Among c claims

-- a block with one claim made after the other
abbrev pub claims_on : BlockState → List Claim → BlockState
claims_on b [] = b
claims_on b (c ∷ claims) = claims_on (claimed c.owner b c.at c.bytes) claims

abbrev pub first_clash : Option Clash → Option Clash → Option Clash
first_clash None later = later
first_clash (Some clash) later = Some clash

-- the first byte, in the order of the claims, that is held with another value when its claim's turn comes
abbrev pub clash_on : BlockState → List Claim → Option Clash
clash_on b [] = None
clash_on b (c ∷ claims) = first_clash (clash_of b c.at c.bytes) (clash_on (claimed c.owner b c.at c.bytes) claims)

-- What a writer of claims answers and leaves. Ok where none of them clashes, and then all are made; else the first clash,
-- and then only some of the claims in front of it are made, from the first on.
abbrev pub Makes : BlockState → BlockState → List Claim → Result (Unit {0}) Clash → Type 0
Makes old new claims (Ok u) = (clash_on old claims ≡ None) × (new ≡ claims_on old claims)
Makes old new claims (Err clash) =
    (clash_on old claims ≡ Some clash)
    × ((made : ℕ) × (clash_on old (take made claims) ≡ None) × (new ≡ claims_on old (take made claims)))

-- One claim is what a writer of it does; a writer that goes on where another was Ok, and one that stops where it wasn't, are
-- writers of the claims of both.
pub record AreWriters : Type 0 where
  pub one : (c : Claim) (b after : BlockState) (result : Result (Unit {0}) Clash) → Claims c.owner b after c.at c.bytes result → Makes b after (c ∷ []) result
  pub onward : (first second : List Claim) (b between after : BlockState) (result : Result (Unit {0}) Clash) → Makes b between first (Ok tt) → Makes between after second result → Makes b after (first ++ second) result
  pub stopped : (first second : List Claim) (b after : BlockState) (clash : Clash) → Makes b after first (Err clash) → Makes b after (first ++ second) (Err clash)
