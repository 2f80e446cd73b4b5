-- The first fault of rules that are joined.
use Rattle.std.proofs.Common.{◌≡◌, [], ◌∷◌, ◌++◌, true, false, Some, None, refl}
use Rattle.ap_fields.specs.FirstFault.{Rules, first_fault}

-- where the first rules hold, it is that of the others
pub none-append : {F : Type 0} (a b : Rules F) → first_fault a ≡ None → first_fault (a ++ b) ≡ first_fault b
none-append [] b h = refl
none-append ((true, f) ∷ a) b h = none-append a b h
none-append ((false, f) ∷ a) b h = absurd (cc)

-- else it is theirs
pub some-append : {F : Type 0} (a b : Rules F) (f : F) → first_fault a ≡ Some f → first_fault (a ++ b) ≡ Some f
some-append [] b f h = absurd (cc)
some-append ((true, g) ∷ a) b f h = some-append a b f h
some-append ((false, g) ∷ a) b f h = h

-- and where it is none, all rules hold
pub append-none : {F : Type 0} (a b : Rules F) → first_fault (a ++ b) ≡ None → (first_fault a ≡ None) × (first_fault b ≡ None)
append-none [] b h = (refl, h)
append-none ((true, f) ∷ a) b h = append-none a b h
append-none ((false, f) ∷ a) b h = absurd (cc)

pub ruleset join_steps = (none-append, some-append)
