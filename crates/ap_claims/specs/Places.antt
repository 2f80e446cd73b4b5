-- What a claim answers and leaves, place by place.
use Rattle.std.specs.Prelude.{◌≡◌, ◌≢◌, ◌⊎◌, ◌↔◌, ℕ, ◌+◌, ◌-◌, ◌<◌, ◌≤◌, List, length, slice_index, Result, IsOk, OnOk, OnErr, IfErr, IsTrue, bit_or}
use Rattle.ap_fields.specs.declared.sizes.TheConstants.{BLOCK}
use Rattle.ap_fields.specs.Bytes.{Holds}
use Rattle.ap_claims.specs.declared.owner.Owner.{Owner}
use Rattle.ap_claims.specs.declared.block.Clash.{Clash}
use Rattle.ap_claims.specs.Blocks.{BlockState, IsBlock, Claims, only, is_in, first_owner}

-- the byte at a place is free, or is v
abbrev pub IsFreeOr : BlockState → ℕ → ℕ → Type 0
IsFreeOr b k v = (slice_index b.owners k ≡ 0) ⊎ (slice_index b.bytes k ≡ v)

-- each byte of a range is free, or is the one asked for
abbrev pub AreFreeOr : BlockState → ℕ → List ℕ → Type 0
AreFreeOr b at bytes = (k : ℕ) → k < length bytes → IsFreeOr b (at + k) (slice_index bytes k)

-- a place that a range doesn't have
abbrev pub IsOutside : ℕ → ℕ → ℕ → Type 0
IsOutside at len k = (k < at) ⊎ (at + len ≤ k)

-- the range holds the bytes, and the owner is among its owners; all else stays
pub record HasClaimed (o : Owner) (old new : BlockState) (at : ℕ) (bytes : List ℕ) : Type 0 where
  pub held : Holds new.bytes at bytes
  pub owners : (k : ℕ) → k < length bytes → slice_index new.owners (at + k) ≡ bit_or (slice_index old.owners (at + k)) (only o)
  pub other_bytes : (k : ℕ) → IsOutside at (length bytes) k → slice_index new.bytes k ≡ slice_index old.bytes k
  pub other_owners : (k : ℕ) → IsOutside at (length bytes) k → slice_index new.owners k ≡ slice_index old.owners k

-- the clash is the first byte of the range that is held with another value than the one asked for
pub record IsFirstClash (b : BlockState) (at : ℕ) (bytes : List ℕ) (clash : Clash) : Type 0 where
  pub from : at ≤ clash.at
  pub below : clash.at < at + length bytes
  pub before : (k : ℕ) → at + k < clash.at → IsFreeOr b (at + k) (slice_index bytes k)
  pub owned : 0 < slice_index b.owners clash.at
  pub held : clash.held ≡ slice_index b.bytes clash.at
  pub asked : clash.asked ≡ slice_index bytes (clash.at - at)
  pub other : clash.held ≢ clash.asked
  pub by : clash.by ≡ first_owner (slice_index b.owners clash.at)
  pub holder : IsTrue (is_in clash.by (slice_index b.owners clash.at))

pub record IsExact (o : Owner) (old new : BlockState) (at : ℕ) (bytes : List ℕ) (result : Result (Unit {0}) Clash) : Type 0 where
  pub free : IsOk result ↔ AreFreeOr old at bytes
  pub ok : OnOk result (HasClaimed o old new at bytes)
  pub err : IfErr result (λ clash. IsFirstClash old at bytes clash)
  pub stays : OnErr result (new ≡ old)

abbrev pub ClaimsAreExact : Type 0
ClaimsAreExact =
    (o : Owner) (old new : BlockState) (at : ℕ) (bytes : List ℕ) (result : Result (Unit {0}) Clash)
    → IsBlock old → at + length bytes ≤ BLOCK → Claims o old new at bytes result → IsExact o old new at bytes result
