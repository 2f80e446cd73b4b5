-- A block of bytes in which owners claim ranges.
use Rattle.std.specs.Prelude.{◌≡◌, ℕ, ◌+◌, ◌<◌, ◌==◌, ◌||◌, if◌then◌else◌, Bool, List, [], ◌∷◌, length, replicate, slice_index, slice_set, Option, Some, None, Result, Ok, Err, bit_and, bit_or}
use Rattle.ap_fields.specs.declared.sizes.TheConstants.{BLOCK}
use Rattle.ap_claims.specs.declared.owner.Owner.{Owner}
use Rattle.ap_claims.specs.declared.owner.Owner.TheVariants.{Shell, Dos, Pe, Ape, Elf, Mach, Area}
use Rattle.ap_claims.specs.declared.block.Clash.{Clash}

-- the bytes of a block, and the set of the owners of each byte
pub record BlockState : Type 0 where
  pub bytes : List ℕ
  pub owners : List ℕ

-- the set of one owner
abbrev pub only : Owner → ℕ
only Shell = 1
only Dos = 2
only Pe = 4
only Ape = 8
only Elf = 16
only Mach = 32
only Area = 64

-- whether an owner is in a set
abbrev pub is_in : Owner → ℕ → Bool
is_in o set = bit_and set (only o) == only o

-- the first owner in a set that isn't empty
abbrev pub first_owner : ℕ → Owner
first_owner set =
    if is_in Shell set then Shell else
    if is_in Dos set then Dos else
    if is_in Pe set then Pe else
    if is_in Ape set then Ape else
    if is_in Elf set then Elf else
    if is_in Mach set then Mach else Area

-- whether the byte at a place is free, or the one asked for
abbrev pub agrees : BlockState → ℕ → ℕ → Bool
agrees b at asked = (slice_index b.owners at == 0) || (slice_index b.bytes at == asked)

-- what is said of a byte that doesn't agree
abbrev pub clash_at : BlockState → ℕ → ℕ → Clash
clash_at b at asked = record { at = at; held = slice_index b.bytes at; asked = asked; by = first_owner (slice_index b.owners at) }

-- the first byte of a range that doesn't agree
abbrev pub clash_of : BlockState → ℕ → List ℕ → Option Clash
clash_of b at [] = None
clash_of b at (asked ∷ more) = if agrees b at asked then clash_of b (at + 1) more else Some (clash_at b at asked)

-- the block with one byte claimed
unfoldable pub claimed_at : Owner → BlockState → ℕ → ℕ → BlockState
claimed_at o b at byte = record {
  bytes = slice_set b.bytes at byte;
  owners = slice_set b.owners at (bit_or (slice_index b.owners at) (only o));
}

-- the block with a range claimed
abbrev pub claimed : Owner → BlockState → ℕ → List ℕ → BlockState
claimed o b at [] = b
claimed o b at (byte ∷ more) = claimed o (claimed_at o b at byte) (at + 1) more

-- a block of which every byte is free
unfoldable pub free_block : BlockState
free_block = record { bytes = replicate BLOCK 0; owners = replicate BLOCK 0 }

-- a block has its size, no owners but those of the enum, and 0 where it has none
pub record IsBlock (b : BlockState) : Type 0 where
  pub bytes : length b.bytes ≡ BLOCK
  pub owners : length b.owners ≡ BLOCK
  pub known : (k : ℕ) → slice_index b.owners k < 128
  pub free : (k : ℕ) → slice_index b.owners k ≡ 0 → slice_index b.bytes k ≡ 0

-- What a claim answers and leaves. Ok where every byte of the range agrees, and then the range is claimed; else the first
-- byte that doesn't, and nothing has changed.
abbrev pub Claims : Owner → BlockState → BlockState → ℕ → List ℕ → Result (Unit {0}) Clash → Type 0
Claims o old new at bytes (Ok u) = (clash_of old at bytes ≡ None) × (new ≡ claimed o old at bytes)
Claims o old new at bytes (Err clash) = (clash_of old at bytes ≡ Some clash) × (new ≡ old)
