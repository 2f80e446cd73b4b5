-- Where the areas of an input end.
use Rattle.std.proofs.Common.{◌≡◌, ℕ, ◌+◌, ◌<◌, ◌≤◌, List, ◌∷◌, length, drop, get_or, ap, arith}
use Rattle.std.proofs.lemmas.List.{drop_more}
use Rattle.ap_layout.specs.declared.layout.Area.{Area}
use Rattle.ap_layout.specs.Areas.{end_of, after, end_from}
use Rattle.ap_layout.proofs.NewAreas.{end-least}

-- no area ends behind them
pub end-most : (c from i : ℕ) (areas : List Area) (d : Area) → i < length areas → end_from c (drop i areas) ≡ end_from from areas → end_of (get_or areas i d) ≤ end_from from areas
end-most c from i areas d low is =
    let a : Area = get_or areas i d in
    let rest : List Area = drop (i + 1) areas in
    let parts : drop i areas ≡ a ∷ rest = drop_more areas i d low in
    let whole : end_from c (drop i areas) ≡ end_from (after c a) rest = ap (end_from c) parts in
    let least = end-least (after c a) rest in
    omega arith
