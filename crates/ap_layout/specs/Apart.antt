-- Areas that don't overlap, and areas that ascend.
use Rattle.std.specs.Prelude.{ℕ, ◌<◌, ◌≤◌, List, [], ◌∷◌}
use Rattle.ap_check.specs.declared.options.Options.{Options}
use Rattle.ap_check.specs.Inputs.{Taken}
use Rattle.ap_layout.specs.declared.layout.Area.{Area}
use Rattle.ap_layout.specs.Areas.{after, Among, AreApart}
use Rattle.ap_layout.specs.Positions.{Positions, Fits, placed_inputs, all_areas}

-- any two of some areas that aren't empty are the same or don't overlap
abbrev pub AllApart : List Area → Type 0
AllApart areas = (a b : Area) → Among a areas → Among b areas → 0 < a.len → 0 < b.len → AreApart a b

-- each area that isn't empty starts at or behind the cursor that the areas before it leave
abbrev pub Ascend : ℕ → List Area → Type 0
Ascend c [] = Unit {0}
Ascend c (a ∷ areas) = (0 < a.len → c ≤ a.file) × Ascend (after c a) areas

-- the areas of the first input
abbrev pub first_areas : List (List Area) → List Area
first_areas [] = []
first_areas (areas ∷ more) = areas

-- any two areas of positions that fit are the same, or don't overlap
abbrev pub FittingIsApart : Type 0
FittingIsApart = (options : Options) (inputs : List Taken) (l : Positions) → Fits options inputs l → AllApart (all_areas (placed_inputs inputs l))
