-- Sets of owners.
use Rattle.std.proofs.Common.{◌≡◌, ℕ, ◌<◌, true, eqb, ◌||◌, refl, arith, bit_or, inl, inr}
use Rattle.std.proofs.lemmas.Bool.{agree_below_at, eqb-true, or_cases}
use Rattle.std.proofs.lemmas.Nat.{or_lt}
use Rattle.ap_claims.specs.declared.owner.Owner.{Owner}
use Rattle.ap_claims.specs.declared.owner.Owner.TheVariants.{Shell, Dos, Pe, Ape, Elf, Mach, Area}
use Rattle.ap_claims.specs.Blocks.{only, is_in, first_owner}

-- an owner's set isn't empty, and is below 128
pub only-positive : (o : Owner) → 0 < only o
only-positive Shell = omega arith
only-positive Dos = omega arith
only-positive Pe = omega arith
only-positive Ape = omega arith
only-positive Elf = omega arith
only-positive Mach = omega arith
only-positive Area = omega arith

only-known : (o : Owner) → only o < 128
only-known Shell = omega arith
only-known Dos = omega arith
only-known Pe = omega arith
only-known Ape = omega arith
only-known Elf = omega arith
only-known Mach = omega arith
only-known Area = omega arith

pub bit_or-known : (set : ℕ) (o : Owner) → set < 128 → bit_or set (only o) < 128
bit_or-known set o known = or_lt 7 set (only o) known (only-known o)

-- the first owner of a set is in it, by the table of all sets
pub first_owner-in : (set : ℕ) → 0 < set → set < 128 → is_in (first_owner set) set ≡ true
first_owner-in set some known =
    elim (or_cases (eqb set 0) (is_in (first_owner set) set) (agree_below_at (λ s. eqb s 0 || is_in (first_owner s) s) (λ s. true) 128 set refl known)) [
      | inl none ↦ absurd (omega (arith, eqb-true set 0 none))
      | inr is ↦ is
    ]
