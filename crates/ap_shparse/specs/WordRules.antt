-- The rules of the shell grammar for words and assignments (POSIX.1, 2.3, 2.4 and 2.9.1).
use Rattle.std.specs.Prelude.{◌≡◌, List, ◌∷◌, ◌⊎◌, true, false}
use Rattle.ap_shparse.specs.Bytes.{Text}
use Rattle.ap_shparse.specs.Places.{bracket}
use Rattle.ap_shparse.specs.Words.{assign, begins_word, differs, text_word}
use Rattle.ap_shparse.specs.LineRules.{IsWhole}
use Rattle.ap_shparse.specs.PieceRules.{ArePieces, IsName, Piece, TextRule, has_expansion, has_tilde, parts}
use Rattle.ap_shparse.specs.declared.tree.Assign.{Assign}
use Rattle.ap_shparse.specs.declared.tree.Simple.{Simple}
use Rattle.ap_shparse.specs.declared.tree.Word.{Word}
use Rattle.ap_shparse.specs.declared.tree.Word.TheVariants as word

-- this text is the word, without quotes
abbrev pub IsAlone : Text → TextRule Word
IsAlone k t u w = IsWhole k t u × (w ≡ text_word k)

-- pieces that touch, without an expansion outside double quotes
pub record IsPieced (IsSub : TextRule Simple) (t u : Text) (w : Word) : Type 0 where
  pub pieces : List Piece
  pub are_pieces : ArePieces IsSub t u pieces
  pub begins : begins_word t ≡ true
  pub no_expansion : has_expansion pieces ≡ false
  pub value : w ≡ word.Parts (parts pieces)

-- a word other than `"$@"`: `[` and `!=` are words too
abbrev pub IsWord : TextRule Simple → TextRule Word
IsWord IsSub t u w = IsAlone bracket t u w ⊎ (IsAlone differs t u w ⊎ IsPieced IsSub t u w)

-- pieces that touch, or none, without a `~` outside quotes
pub record IsValue (IsSub : TextRule Simple) (t u : Text) (w : Word) : Type 0 where
  pub pieces : List Piece
  pub are_pieces : ArePieces IsSub t u pieces
  pub no_tilde : has_tilde pieces ≡ false
  pub value : w ≡ word.Parts (parts pieces)

-- a name, `=` and a value
pub record IsAssignment (IsSub : TextRule Simple) (t u : Text) (a : Assign) : Type 0 where
  pub name : Text
  pub behind : Text
  pub value : Word
  pub is_name : IsName t (61 ∷ behind) name
  pub is_value : IsValue IsSub behind u value
  pub is_assign : a ≡ assign name value
