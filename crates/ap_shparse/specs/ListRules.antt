-- The rules of the shell grammar for lists, AND-OR lists and `if`, from one place of a text to another (POSIX.1, 2.9.3, 2.9.4.4 and
-- 2.10.2). Each says which value stands between two places.
use Rattle.std.specs.Prelude.{◌≡◌, ℕ, zero, suc, List, [], ◌∷◌, ◌++◌, ◌⊎◌, Bool, true, false, codes}
use Rattle.ap_shparse.specs.Bytes.{Text}
use Rattle.ap_shparse.specs.Places.{Place, at_text, past_gap}
use Rattle.ap_shparse.specs.LineRules.{AreLines, HasNo, IsKeyword, IsNewline, Rule}
use Rattle.ap_shparse.specs.Commands.{past_blanks}
use Rattle.ap_shparse.specs.CommandRules.{IsSimple, IsSubstitution}
use Rattle.ap_shparse.specs.Lists.{closes, item_of, joined}
use Rattle.ap_shparse.specs.declared.elements.Called.{Called}
use Rattle.ap_shparse.specs.declared.item.Item.{Item}
use Rattle.ap_shparse.specs.declared.item.Member.{Member}
use Rattle.ap_shparse.specs.declared.tree.Chain.{Chain}
use Rattle.ap_shparse.specs.declared.tree.Joined.{Joined}
use Rattle.ap_shparse.specs.declared.tree.Node.{Node}
use Rattle.ap_shparse.specs.declared.tree.Node.TheVariants as node

-- ---- commands

-- `else` list, or nothing
abbrev pub IsElse : Rule (List Chain) → Rule (List Chain)
IsElse IsBelow p q cs =
    (HasNo (codes "else") p.text × (q ≡ p) × (cs ≡ [])) ⊎ ((m : Place) × IsKeyword (codes "else") p m × IsBelow m q cs)

-- `if` list `then` list, `else` list where there is one, and `fi`
pub record IsIf (IsBelow : Rule (List Chain)) (p q : Place) (n : Node) : Type 0 where
  pub if_end : Place
  pub test_end : Place
  pub then_end : Place
  pub yes_end : Place
  pub no_end : Place
  pub test : List Chain
  pub yes_list : List Chain
  pub no_list : List Chain
  pub is_if : IsKeyword (codes "if") p if_end
  pub is_test : IsBelow if_end test_end test
  pub is_then : IsKeyword (codes "then") test_end then_end
  pub is_yes : IsBelow then_end yes_end yes_list
  pub is_else : IsElse IsBelow yes_end no_end no_list
  pub is_fi : IsKeyword (codes "fi") no_end q
  pub value : n ≡ node.If test yes_list no_list

-- as a command, which doesn't stop a script
pub record IsIfMember (IsBelow : Rule (List Chain)) (p q : Place) (m : Member) : Type 0 where
  pub is_if : IsIf IsBelow p q m.node
  pub goes_on : m.stops ≡ false

-- a simple command, which may
pub record IsSimpleMember (p q : Place) (m : Member) : Type 0 where
  pub command : Called
  pub is_simple : IsSimple IsSubstitution p q command
  pub is_node : m.node ≡ node.Simple command.simple
  pub is_stops : m.stops ≡ command.stops

abbrev pub IsCommand : Rule (List Chain) → Rule Member
IsCommand IsBelow p q m = IsSimpleMember p q m ⊎ IsIfMember IsBelow p q m

-- ---- AND-OR lists

abbrev pub operator : Bool → Text
operator true = codes "||"
operator false = codes "&&"

-- behind blanks
abbrev pub IsOperator : Place → Place → Bool → Type 0
IsOperator p q or = (t : Text) × ((past_blanks p).text ≡ operator or ++ t) × (q ≡ at_text p t)

abbrev pub NoOperator : Text → Type 0
NoOperator t = (or : Bool) (u : Text) → t ≡ operator or ++ u → ⊥

-- an operator, newlines, and a command
pub record IsJoined (IsBelow : Rule (List Chain)) (p q : Place) (j : Joined) : Type 0 where
  pub operator_end : Place
  pub lines_end : Place
  pub or : Bool
  pub command : Member
  pub is_operator : IsOperator p operator_end or
  pub are_lines : AreLines operator_end lines_end
  pub is_command : IsCommand IsBelow lines_end q command
  pub value : j ≡ joined or command.node

-- the commands behind the first, as far as operators stand behind them
abbrev pub AreJoined : Rule (List Chain) → Rule (List Joined)
AreJoined IsBelow p q [] = (q ≡ past_blanks p) × NoOperator q.text
AreJoined IsBelow p q (j ∷ js) = (m : Place) × IsJoined IsBelow p m j × AreJoined IsBelow m q js

-- one command or more; one alone may stop a script
pub record IsItem (IsBelow : Rule (List Chain)) (p q : Place) (i : Item) : Type 0 where
  pub first_end : Place
  pub first : Member
  pub rest : List Joined
  pub is_first : IsCommand IsBelow p first_end first
  pub are_rest : AreJoined IsBelow first_end q rest
  pub value : i ≡ item_of first rest

-- ---- lists

-- a newline or `;`
abbrev pub IsItemEnd : Place → Place → Type 0
IsItemEnd p q = IsNewline p q ⊎ ((t : Text) × (p.text ≡ codes ";" ++ t) × (q ≡ at_text p t))

-- an item behind newlines, with its newline or `;` behind blanks and a comment
pub record IsEnded (IsBelow : Rule (List Chain)) (p q : Place) (i : Item) : Type 0 where
  pub start : Place
  pub item_end : Place
  pub are_lines : AreLines p start
  pub is_item : IsItem IsBelow start item_end i
  pub is_end : IsItemEnd (past_gap item_end) q

-- items, and newlines behind them, as far as a word that closes the list
abbrev pub AreItems : Rule (List Chain) → Rule (List Chain)
AreItems IsBelow p q [] = AreLines p q × (closes q.text ≡ true)
AreItems IsBelow p q (c ∷ cs) =
    (m : Place) × (i : Item) × IsEnded IsBelow p m i × (c ≡ i.chain) × AreItems IsBelow m q cs

abbrev pub IsSome : List Chain → Type 0
IsSome [] = ⊥
IsSome (c ∷ cs) = Unit {0}

-- a list of an `if`, in which `if` nests less than this deep
abbrev pub IsList : ℕ → Rule (List Chain)
IsList zero p q cs = ⊥
IsList (suc d) p q cs = IsSome cs × AreItems (IsList d) p q cs
