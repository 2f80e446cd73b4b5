-- The rules of the shell grammar for whole fronts: lists in which each item of the outermost list has its newline or `;` and each
-- here-document's closing line has its newline.
use Rattle.std.specs.Prelude.{◌≡◌, List, [], ◌∷◌, false}
use Rattle.ap_shparse.specs.Bytes.{Text}
use Rattle.ap_shparse.specs.Places.{Place, waits}
use Rattle.ap_shparse.specs.Commands.{alone}
use Rattle.ap_shparse.specs.Scripts.{turn_of}
use Rattle.ap_shparse.specs.Fronts.{is_cut}
use Rattle.ap_shparse.specs.Grammar.{seen}
use Rattle.ap_shparse.specs.LineRules.{AreLines, Rule}
use Rattle.ap_shparse.specs.ListRules.{IsEnded, IsList}
use Rattle.ap_shparse.specs.ScriptRules.{IsEnd}
use Rattle.ap_shparse.specs.declared.item.Item.{Item}
use Rattle.ap_shparse.specs.declared.script.Turn.{Turn}
use Rattle.ap_shparse.specs.declared.tree.Nul.{Nul}

-- an item with its end; the bodies that wait behind it don't end with the text
pub record IsWholeItem (p q : Place) (t : Turn) : Type 0 where
  pub item : Item
  pub is_ended : IsEnded (IsList 64) p q item
  pub uncut : is_cut is_ended.item_end ≡ false
  pub value : t ≡ turn_of item (waits is_ended.item_end)

abbrev pub AreWhole : Rule (List Turn)
AreWhole p q [] = q ≡ p
AreWhole p q (t ∷ ts) = (m : Place) × IsWholeItem p m t × AreWhole m q ts

-- such items, and newlines, blanks and a comment
pub record IsFrontAt (p : Place) (ts : List Turn) : Type 0 where
  pub items_end : Place
  pub text_end : Place
  pub are_items : AreWhole p items_end ts
  pub are_lines : AreLines items_end text_end
  pub is_end : IsEnd text_end

-- the text is a whole front of these items, in this reading of NUL
abbrev pub IsWholeFront : Nul → Text → List Turn → Type 0
IsWholeFront n a ts = IsFrontAt (alone (seen n a)) ts
