-- The rules of the shell grammar for whole texts (POSIX.1, 2.10.2, `program`; that a stopping command ends a script is this
-- project's own). They stand on those of PieceRules, WordRules, LineRules, HereRules, RedirectRules, CommandRules and ListRules,
-- none of which reads: each says what may stand between two texts, or between two places of a text.
use Rattle.std.specs.Prelude.{◌≡◌, List, [], ◌∷◌, ◌++◌, ◌⊎◌, None, Bool, true, false, ◌&&◌, not}
use Rattle.ap_shparse.specs.Bytes.{Text}
use Rattle.ap_shparse.specs.Places.{Place, past_gap, waits}
use Rattle.ap_shparse.specs.Commands.{alone}
use Rattle.ap_shparse.specs.Grammar.{seen}
use Rattle.ap_shparse.specs.LineRules.{AreLines, Rule}
use Rattle.ap_shparse.specs.ListRules.{IsEnded, IsItem, IsList}
use Rattle.ap_shparse.specs.declared.item.Item.{Item}
use Rattle.ap_shparse.specs.declared.tree.Chain.{Chain}
use Rattle.ap_shparse.specs.declared.tree.Nul.{Nul}

-- an item of the outermost list with its end; whether it is a stopping command, which no here-document waits behind.
-- `if` nests 64 deep.
pub record IsOuter (p q : Place) (c : Chain) (stops : Bool) : Type 0 where
  pub item : Item
  pub is_ended : IsEnded (IsList 64) p q item
  pub value : c ≡ item.chain
  pub is_stop : stops ≡ (item.stops && not (waits is_ended.item_end))

-- items of which none is a stopping command
abbrev pub AreOuter : Rule (List Chain)
AreOuter p q [] = q ≡ p
AreOuter p q (c ∷ cs) = (m : Place) × IsOuter p m c false × AreOuter m q cs

-- nothing is left, and no here-document waits for its body
pub record IsEnd (p : Place) : Type 0 where
  pub no_text : p.text ≡ []
  pub none_waits : p.bodies ≡ None

-- the text begins with a list whose last item is the first stopping command; what follows isn't looked at
pub record Stops (p : Place) (cs : List Chain) : Type 0 where
  pub before : List Chain
  pub last : Chain
  pub last_start : Place
  pub rest : Place
  pub are_before : AreOuter p last_start before
  pub is_last : IsOuter last_start rest last true
  pub value : cs ≡ before ++ last ∷ []

-- the text is items, each with its end, and newlines
pub record IsClosed (p : Place) (cs : List Chain) : Type 0 where
  pub items_end : Place
  pub text_end : Place
  pub are_items : AreOuter p items_end cs
  pub are_lines : AreLines items_end text_end
  pub is_end : IsEnd text_end

-- the text is such items, and an item that ends with the text
pub record IsOpen (p : Place) (cs : List Chain) : Type 0 where
  pub before : List Chain
  pub last : Item
  pub before_end : Place
  pub last_start : Place
  pub last_end : Place
  pub are_before : AreOuter p before_end before
  pub are_lines : AreLines before_end last_start
  pub is_last : IsItem (IsList 64) last_start last_end last
  pub is_end : IsEnd (past_gap last_end)
  pub value : cs ≡ before ++ last.chain ∷ []

abbrev pub IsProgramAt : Place → List Chain → Type 0
IsProgramAt p cs = Stops p cs ⊎ (IsClosed p cs ⊎ IsOpen p cs)

-- the text spells these items, in this reading of NUL
abbrev pub IsProgram : Nul → Text → List Chain → Type 0
IsProgram n t cs = IsProgramAt (alone (seen n t)) cs
