-- Lists, AND-OR lists and `if` (POSIX.1, 2.9.3 and 2.9.4.4).
use Rattle.std.specs.Prelude.{ℕ, zero, suc, List, [], ◌∷◌, ◌++◌, Option, Some, None, Bool, true, false, ◌||◌, ◌&&◌, if◌then◌else◌, length, codes}
use Rattle.ap_shparse.specs.Bytes.{Text, past, past_byte}
use Rattle.ap_shparse.specs.Reads.{Outcome, and_then, eaten, if_eaten, pure, ◌>>=◌}
use Rattle.ap_shparse.specs.Places.{Place, at_text, lift, newlines, past_gap, past_newline}
use Rattle.ap_shparse.specs.Commands.{is_nil, past_blanks, sees, simple, substitution}
use Rattle.ap_shparse.specs.declared.item.Item.{Item}
use Rattle.ap_shparse.specs.declared.item.Member.{Member}
use Rattle.ap_shparse.specs.declared.tree.Chain.{Chain, roll-Chain}
use Rattle.ap_shparse.specs.declared.tree.Joined.{Joined, roll-Joined}
use Rattle.ap_shparse.specs.declared.tree.Node.{Node}
use Rattle.ap_shparse.specs.declared.tree.Node.TheVariants as node

-- what reads a list
abbrev pub Lists : Type 0
Lists = Place → Outcome Place (List Chain)

-- ---- commands

abbrev pub simple_member : Place → Outcome Place Member
simple_member p = and_then (simple substitution p) (λ c. pure (record { node = node.Simple c.simple; stops = c.stops }))

abbrev pub keyword : Text → Place → Outcome Place (Unit {0})
keyword k p = lift (λ t. eaten (past k t)) p

-- `else` list, or nothing
unfoldable pub otherwise : Lists → Lists
otherwise below p = if_eaten (past (codes "else") p.text) (λ t. below (at_text p t)) (Some ([], p))

-- behind `if`: list `then` list, `else` list where there is one, and `fi`
unfoldable pub choice : Lists → Place → Outcome Place Member
choice below = do
  test ← below
  then_word ← keyword (codes "then")
  yes_list ← below
  no_list ← otherwise below
  fi_word ← keyword (codes "fi")
  pure (record { node = node.If test yes_list no_list; stops = false })

unfoldable pub command : Lists → Place → Outcome Place Member
command below p = if_eaten (past (codes "if") p.text) (λ t. choice below (at_text p t)) (simple_member p)

-- ---- AND-OR lists

abbrev pub past_twice : ℕ → Text → Option Text
past_twice c t = if_eaten (past_byte c t) (past_byte c) None

-- `||`, which is true, or `&&`
abbrev pub joiner : Text → Outcome Text Bool
joiner t = if_eaten (past_twice 124 t)
    (λ u. Some (true, u)) (if_eaten (past_twice 38 t) (λ u. Some (false, u)) None)

abbrev pub joined : Bool → Node → Joined
joined or n = roll-Joined (record { or = or; node = n })

-- newlines may stand behind `||` and `&&`
unfoldable pub join : Lists → List Joined → Bool → Place → Outcome Place (List Joined)
join below found or p = if_eaten (newlines p)
    (λ q. and_then (command below q) (λ m. pure (found ++ joined or m.node ∷ []))) None

abbrev pub others_by : (Bool → Place → Outcome Place (List Joined)) → List Joined → Place → Outcome Text Bool
    → Outcome Place (List Joined)
others_by next found p None = Some (found, p)
others_by next found p (Some o) = next o.0 (at_text p o.1)

-- the commands behind the first; the number bounds the turns
unfoldable pub others : Lists → ℕ → List Joined → Place → Outcome Place (List Joined)
others below zero found p = None
others below (suc n) found p =
    others_by (λ or q. and_then (join below found or q) (others below n)) found (past_blanks p) (joiner (past_blanks p).text)

abbrev pub item_of : Member → List Joined → Item
item_of m rest = record { chain = roll-Chain (record { first = m.node; rest = rest }); stops = m.stops && is_nil rest }

unfoldable pub chain : Lists → Place → Outcome Place Item
chain below p = and_then (command below p)
    (λ m q. and_then (others below (length p.text) [] q) (λ rest. pure (item_of m rest)))

-- ---- lists

-- a newline or `;`
abbrev pub past_end : Place → Option Place
past_end p = if_eaten (past_byte 59 p.text) (λ t. Some (at_text p t)) (past_newline p)

abbrev pub ended : Place → Outcome Place (Unit {0})
ended p = eaten (past_end p)

-- an item with its end
unfoldable pub next_item : Lists → List Chain → Place → Outcome Place (List Chain)
next_item below found p = and_then (chain below p)
    (λ c q. and_then (ended (past_gap q)) (λ _. pure (found ++ c.chain ∷ [])))

-- the words that close a list
abbrev pub closes : Text → Bool
closes t = sees (codes "then") t || (sees (codes "else") t || sees (codes "fi") t)

-- the number bounds the turns
unfoldable pub items_from : Lists → ℕ → List Chain → Lists
items_from below zero found p = None
items_from below (suc n) found p =
    if_eaten (newlines p) (λ q. if closes q.text then Some (found, q)
    else and_then (next_item below found q) (items_from below n)) None

unfoldable pub items : Lists → Lists
items below p = and_then (items_from below (length p.text) [] p) (λ found q. if is_nil found then None
    else Some (found, q))

-- a list in which `if` nests less than this deep
unfoldable pub list : ℕ → Lists
list zero p = None
list (suc d) p = items (list d) p
