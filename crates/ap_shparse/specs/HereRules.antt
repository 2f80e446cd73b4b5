-- The rules of the shell grammar for here-documents (POSIX.1, 2.7.4).
use Rattle.std.specs.Prelude.{◌≡◌, ℕ, zero, suc, List, [], ◌∷◌, ◌++◌, ◌⊎◌, Option, Some, None, true, false}
use Rattle.std.specs.Str.{bytes_eq}
use Rattle.ap_shparse.specs.Bytes.{Text, begins_with, enders, ends_word, gap, is_among}
use Rattle.ap_shparse.specs.Places.{Place, args, bracket, here_at, is_delimiter}
use Rattle.ap_shparse.specs.LineRules.{HasNo, IsWhole}
use Rattle.ap_shparse.specs.PieceRules.{ArePieces, IsRun, Piece, TextRule}
use Rattle.ap_shparse.specs.declared.class.Class.TheVariants.{Comment, Quoted}
use Rattle.ap_shparse.specs.declared.tree.Simple.{Simple}

-- ---- the next newline that isn't part of a word

-- `[` or `"$@"`
abbrev pub IsLone : Text → Text → Type 0
IsLone t u = IsWhole bracket t u ⊎ IsWhole args t u

-- a byte of an operator, `[` or `"$@"`, or the pieces of a word
abbrev pub IsToken : TextRule Simple → Text → Text → Type 0
IsToken IsSub t u = ((c : ℕ) × (t ≡ c ∷ u) × (is_among c enders ≡ true))
    ⊎ (IsLone t u ⊎ ((ps : List Piece) × (ends_word t ≡ false) × HasNo bracket t × HasNo args t × ArePieces IsSub t u ps))

-- behind so many tokens, with blanks and a comment before each
abbrev pub IsNewlineBehind : TextRule Simple → ℕ → Text → Text → Type 0
IsNewlineBehind IsSub zero t u = (u ≡ gap t) × (begins_with 10 u ≡ true)
IsNewlineBehind IsSub (suc n) t u =
    (m : Text) × (begins_with 10 (gap t) ≡ false) × IsToken IsSub (gap t) m × IsNewlineBehind IsSub n m u

-- the newline before the body: where other bodies of this line were taken it stands behind the last of them
abbrev pub IsStart : TextRule Simple → Option Text → Text → Text → Type 0
IsStart IsSub None t u = (n : ℕ) × IsNewlineBehind IsSub n t u
IsStart IsSub (Some bodies) t u = u ≡ bodies

-- ---- the body

-- its lines, none of which is the delimiter, and the closing line, which is
abbrev pub IsBody : Text → TextRule (List Text)
IsBody d t u [] = IsRun Comment t u d
IsBody d t u (l ∷ ls) = (m : Text) × IsRun Comment t (10 ∷ m) l × (bytes_eq l d ≡ false) × IsBody d m u ls

abbrev pub body_text : List Text → Text
body_text [] = []
body_text (l ∷ ls) = l ++ 10 ∷ body_text ls

-- ---- here-documents

-- behind `<<`: a whole word in single quotes, of a byte at least and without a newline
pub record IsDelimiter (t u : Text) (d : Text) : Type 0 where
  pub behind : Text
  pub opens : t ≡ 39 ∷ behind
  pub is_quoted : IsRun Quoted behind (39 ∷ u) d
  pub is_good : is_delimiter d ≡ true
  pub is_whole : ends_word u ≡ true

pub record IsHere (IsSub : TextRule Simple) (p q : Place) (b : Text) : Type 0 where
  pub delimiter : Text
  pub behind : Text
  pub body_start : Text
  pub body_end : Text
  pub lines : List Text
  pub is_delimiter : IsDelimiter p.text behind delimiter
  pub is_start : IsStart IsSub p.bodies behind (10 ∷ body_start)
  pub is_body : IsBody delimiter body_start body_end lines
  pub is_place : q ≡ here_at behind body_end
  pub value : b ≡ body_text lines
