-- Whole fronts: lists, read of a prefix alone, in which each item of the outermost list has its newline or `;` and each
-- here-document its closing line with a newline. Blanks and comments may stand at the end.
use Rattle.std.specs.Prelude.{ℕ, zero, suc, List, [], ◌∷◌, ◌++◌, Option, Some, None, Bool, true, false, ◌&&◌, not, if◌then◌else◌, length}
use Rattle.ap_shparse.specs.Bytes.{Text}
use Rattle.ap_shparse.specs.Reads.{Outcome, and_then, if_eaten, pure}
use Rattle.ap_shparse.specs.Places.{Place, newlines, past_gap, waits}
use Rattle.ap_shparse.specs.Commands.{alone, is_nil}
use Rattle.ap_shparse.specs.Lists.{chain, ended, list}
use Rattle.ap_shparse.specs.Scripts.{turn_of}
use Rattle.ap_shparse.specs.declared.item.Item.{Item}
use Rattle.ap_shparse.specs.declared.script.Turn.{Turn}
use Rattle.ap_shparse.specs.declared.script.Turn.TheVariants as turned
use Rattle.ap_shparse.specs.declared.tree.Chain.{Chain}

-- whether the closing line of the last here-document ended with the text
abbrev pub cut_at : Option Text → Bool
cut_at None = false
cut_at (Some []) = true
cut_at (Some (c ∷ t)) = false

abbrev pub is_cut : Place → Bool
is_cut p = cut_at p.bodies

-- an item with its end
unfoldable pub whole_item : (Place → Outcome Place Item) → Place → Outcome Place Turn
whole_item item p = and_then (item p) (λ c q. if is_cut q then None
    else and_then (ended (past_gap q)) (λ _. pure (turn_of c (waits q))))

-- nothing is left, and no here-document waits
abbrev pub at_stop : List Turn → Place → Option (List Turn)
at_stop found q = if is_nil q.text && not (waits q) then Some found else None

abbrev pub with_item : (List Turn → Place → Option (List Turn)) → List Turn → Outcome Place Turn → Option (List Turn)
with_item next found None = None
with_item next found (Some o) = next (found ++ o.0 ∷ []) o.1

abbrev pub on_item : (Place → Outcome Place Item) → (List Turn → Place → Option (List Turn)) → List Turn → Place
    → Option (List Turn)
on_item item next found q = if is_nil q.text then at_stop found q
    else with_item next found (whole_item item q)

-- the number bounds the turns
unfoldable pub front_from : (Place → Outcome Place Item) → ℕ → List Turn → Place → Option (List Turn)
front_from item zero found p = if is_cut p then None else if_eaten (newlines p) (at_stop found) None
front_from item (suc n) found p = if is_cut p then None
    else if_eaten (newlines p) (on_item item (front_from item n) found) None

unfoldable pub front : Text → Option (List Turn)
front t = front_from (chain (list 64)) (length t) [] (alone t)

abbrev pub chains : List Turn → List Chain
chains [] = []
chains (turned.Last c ∷ ts) = c ∷ chains ts
chains (turned.Next c ∷ ts) = c ∷ chains ts
chains (turned.End ∷ ts) = chains ts

-- none of the items is a stopping command
abbrev pub NoneStops : List Turn → Type 0
NoneStops [] = Unit {0}
NoneStops (turned.Next c ∷ ts) = NoneStops ts
NoneStops (turned.Last c ∷ ts) = ⊥
NoneStops (turned.End ∷ ts) = ⊥
