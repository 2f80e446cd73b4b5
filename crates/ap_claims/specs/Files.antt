-- The file of some claims, and a block that is filled by them.
use Rattle.std.specs.Prelude.{◌≡◌, ℕ, ◌-◌, ◌<◌, ◌≤◌, ◌&&◌, nat_le, nat_lt, if◌then◌else◌, Bool, List, [], ◌∷◌, length, slice_index, None, bit_or}
use Rattle.ap_fields.specs.declared.sizes.TheConstants.{BLOCK}
use Rattle.ap_fields.specs.Bytes.{Holds, listed}
use Rattle.ap_claims.specs.Blocks.{BlockState, only, free_block}
use Rattle.ap_claims.specs.Places.{IsOutside}
use Rattle.ap_claims.specs.Lists.{Claim, end_of, Among, claims_on, clash_on}

-- no claim passes the block's end
abbrev pub AreInside : List Claim → Type 0
AreInside claims = (c : Claim) → Among c claims → end_of c ≤ BLOCK

-- no claim has the place
abbrev pub IsFree : List Claim → ℕ → Type 0
IsFree claims k = (c : Claim) → Among c claims → IsOutside c.at (length c.bytes) k

-- the file of a size has each claim's bytes at its place, and 0 where no claim is
pub record IsFile (size : ℕ) (claims : List Claim) (file : List ℕ) : Type 0 where
  pub len : length file ≡ size
  pub held : (c : Claim) → Among c claims → Holds file c.at c.bytes
  pub free : (k : ℕ) → IsFree claims k → slice_index file k ≡ 0

-- any two claims that have a place in common have the same byte there
abbrev pub Agree : List Claim → Type 0
Agree claims =
    (c d : Claim) → Among c claims → Among d claims
    → (k : ℕ) → c.at ≤ k → k < end_of c → d.at ≤ k → k < end_of d → slice_index c.bytes (k - c.at) ≡ slice_index d.bytes (k - d.at)

abbrev pub has_place : Claim → ℕ → Bool
has_place c k = nat_le c.at k && nat_lt k (end_of c)

-- the byte that claims give a place: that of the first claim that has it, and 0 where none has
abbrev pub byte_at : List Claim → ℕ → ℕ
byte_at [] k = 0
byte_at (c ∷ claims) k = if has_place c k then slice_index c.bytes (k - c.at) else byte_at claims k

-- the file of a size that claims make
unfoldable pub file_of : ℕ → List Claim → List ℕ
file_of size claims = listed (byte_at claims) 0 size

-- the owners of a place that had some: those of the claims that have it, beside them
abbrev pub owners_with : ℕ → List Claim → ℕ → ℕ
owners_with owners [] k = owners
owners_with owners (c ∷ claims) k = owners_with (if has_place c k then bit_or owners (only c.owner) else owners) claims k

-- the owners of the claims that have a place
abbrev pub owners_at : List Claim → ℕ → ℕ
owners_at claims k = owners_with 0 claims k

-- the block's bytes are the file of the claims, and its owners are theirs
pub record IsFilled (claims : List Claim) (b : BlockState) : Type 0 where
  pub bytes : IsFile BLOCK claims b.bytes
  pub owners : (k : ℕ) → slice_index b.owners k ≡ owners_at claims k

-- A free block is filled by claims that lie in it and don't clash.
abbrev pub ClaimsFill : Type 0
ClaimsFill = (claims : List Claim) → AreInside claims → clash_on free_block claims ≡ None → IsFilled claims (claims_on free_block claims)

-- Claims that have a file agree.
abbrev pub ClaimsAgree : Type 0
ClaimsAgree = (size : ℕ) (claims : List Claim) (file : List ℕ) → IsFile size claims file → Agree claims

-- Claims have one file of a size.
abbrev pub FilesAreOne : Type 0
FilesAreOne = (size : ℕ) (claims : List Claim) (file other : List ℕ) → IsFile size claims file → IsFile size claims other → file ≡ other

-- A file that has each claim's bytes is the one that the claims make.
abbrev pub FilesAreMade : Type 0
FilesAreMade = (size : ℕ) (claims : List Claim) (file : List ℕ) → IsFile size claims file → file ≡ file_of size claims

-- Claims that have a file of the block's size don't clash, whichever is made first.
abbrev pub FilesDontClash : Type 0
FilesDontClash = (claims : List Claim) (file : List ℕ) → IsFile BLOCK claims file → clash_on free_block claims ≡ None
