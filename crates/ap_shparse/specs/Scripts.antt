-- A whole text: the script that it is, or what is left where the first item begins that can't be taken.
use Rattle.std.specs.Prelude.{◌≡◌, ℕ, zero, suc, List, [], ◌∷◌, ◌++◌, Some, None, Result, Ok, Err, Bool, ◌&&◌, ◌-◌, not, if◌then◌else◌, length, min}
use Rattle.ap_shparse.specs.Bytes.{Text}
use Rattle.ap_shparse.specs.Reads.{Outcome, and_then, if_eaten}
use Rattle.ap_shparse.specs.Places.{Place, newlines, past_gap, waits}
use Rattle.ap_shparse.specs.Commands.{alone, is_nil}
use Rattle.ap_shparse.specs.Lists.{chain, ended, list}
use Rattle.ap_shparse.specs.declared.item.Item.{Item}
use Rattle.ap_shparse.specs.declared.script.Turn.{Turn}
use Rattle.ap_shparse.specs.declared.script.Turn.TheVariants as turned
use Rattle.ap_shparse.specs.declared.tree.Chain.{Chain}
use Rattle.ap_shparse.specs.declared.tree.ShellFault.{ShellFault}
use Rattle.ap_shparse.specs.declared.tree.ShellFault.TheVariants as fault

-- a stopping command ends the script, where no here-document waits at its end
abbrev pub turn_of : Item → Bool → Turn
turn_of c waiting = if c.stops && not waiting then turned.Last c.chain else turned.Next c.chain

-- behind an item and blanks: the last item may end with the text
abbrev pub at_end : Item → Place → Outcome Place Turn
at_end c p = if is_nil p.text then (if waits p then None
    else Some (turned.Last c.chain, p)) else and_then (ended p) (λ _ q. Some (turn_of c (waits p), q))

-- where an item may begin
unfoldable pub turn : (Place → Outcome Place Item) → Place → Outcome Place Turn
turn item p = if is_nil p.text then (if waits p then None
    else Some (turned.End, p)) else and_then (item p) (λ c q. at_end c (past_gap q))

-- the items, or how many bytes are left
abbrev pub Answer : Type 0
Answer = Result (List Chain) ℕ

abbrev pub by_turn : (ℕ → List Chain → Place → Answer) → ℕ → List Chain → Outcome Place Turn → Answer
by_turn next left found None = Err left
by_turn next left found (Some (turned.End, q)) = Ok found
by_turn next left found (Some (turned.Last c, q)) = Ok (found ++ c ∷ [])
by_turn next left found (Some (turned.Next c, q)) = next left (found ++ c ∷ []) q

-- an item that begins while a here-document waits can't be told from the one before it
abbrev pub left_at : ℕ → Place → ℕ
left_at left p = if waits p then left else min left (length p.text)

-- the number bounds the turns
unfoldable pub script_from : (Place → Outcome Place Item) → ℕ → ℕ → List Chain → Place → Answer
script_from item zero left found p = if_eaten (newlines p) (λ q. if is_nil q.text && not (waits q) then Ok found
    else Err (left_at left q)) (Err left)
script_from item (suc n) left found p =
    if_eaten (newlines p) (λ q. by_turn (script_from item n) (left_at left q) found (turn item q)) (Err left)

-- `if` nests 64 deep
unfoldable pub script : Text → Answer
script t = script_from (chain (list 64)) (length t) (length t) [] (alone t)

abbrev pub Answers : Answer → ℕ → Result (List Chain) ShellFault → Type 0
Answers a len (Ok cs) = a ≡ Ok cs
Answers a len (Err (fault.Outside at)) = (left : ℕ) × (a ≡ Err left) × (at ≡ len - left)
Answers a len (Err fault.NoMemory) = Unit {0}
