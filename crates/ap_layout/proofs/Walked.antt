-- How far a walk over an input's loads has come.
use Rattle.std.proofs.Common.{◌≡◌, ℕ, ◌+◌, ◌*◌, ◌≤◌, List, [], ◌∷◌, ◌++◌, length, refl, sym, ◌∙◌, subst, arith, append-nil, Option}
use Rattle.std.proofs.lemmas.List.Sums.{sum_by-cons}
use Rattle.ap_check.specs.declared.load.Load.{Load}
use Rattle.ap_check.specs.Inputs.{bytes_of_loads}
use Rattle.ap_layout.specs.declared.layout.Area.{Area}
use Rattle.ap_layout.specs.declared.sizes.TheConstants.{MOST_BESIDE}
use Rattle.ap_layout.specs.Areas.{areas_of, end_from}

-- a bound on what loads need: their bytes, and three granules each
abbrev pub room_of : List Load → ℕ
room_of [] = 0
room_of (p ∷ loads) = p.filesz + MOST_BESIDE + room_of loads

pub room_of-is : (loads : List Load) → room_of loads ≡ bytes_of_loads loads + MOST_BESIDE * length loads
room_of-is [] = refl
room_of-is (p ∷ loads) =
    let rest = room_of-is loads in
    let more : bytes_of_loads (p ∷ loads) ≡ p.filesz + bytes_of_loads loads = sum_by-cons (λ (q : Load). q.filesz) p loads in
    omega arith

-- `done` are the areas of the first i loads, and the rest is placed from the cursor c on
pub record Walked (shares : ℕ → Option Area) (g from : ℕ) (all : List Load) (i : ℕ) (done : List Area) (rest : List Load) (c : ℕ) : Type 0 where
  pub areas : done ++ areas_of shares i g rest c ≡ areas_of shares 0 g all from
  pub cursor : end_from c (areas_of shares i g rest c) ≡ end_from from (areas_of shares 0 g all from)
  pub room : c + room_of rest ≤ from + room_of all

-- the end
pub walked-end : (shares : ℕ → Option Area) (g from : ℕ) (all : List Load) (i : ℕ) (done : List Area) (rest : List Load) (c : ℕ) → rest ≡ [] → Walked shares g from all i done rest c
    → (done ≡ areas_of shares 0 g all from) × (c ≡ end_from from (areas_of shares 0 g all from)) × (c ≤ from + room_of all)
walked-end shares g from all i done rest c none h =
    let h' : Walked shares g from all i done [] c = subst (λ (xs : List Load). Walked shares g from all i done xs c) none h in
    (sym (append-nil done) ∙ h'.areas, h'.cursor, (let r = h'.room in omega arith))

-- the next area's end is within the bound, and so is the load's length
pub walked-fits : (shares : ℕ → Option Area) (g from : ℕ) (all : List Load) (i : ℕ) (done : List Area) (p : Load) (front rest : List Load) (c : ℕ) → front ≡ p ∷ rest → Walked shares g from all i done front c
    → c + p.filesz + MOST_BESIDE ≤ from + room_of all
walked-fits shares g from all i done p front rest c split h =
    let h' : Walked shares g from all i done (p ∷ rest) c = subst (λ (xs : List Load). Walked shares g from all i done xs c) split h in
    let r = h'.room in omega arith
