-- The rules of the shell grammar for the pieces of a word: plain bytes, quotes and expansions (POSIX.1, 2.2 and 2.6). A rule says
-- what stands between two texts, of which the second is what is left of the first.
use Rattle.std.specs.Prelude.{◌≡◌, ℕ, List, [], ◌∷◌, ◌++◌, ◌⊎◌, map, Bool, true, false, ◌||◌, ◌==◌, not, codes}
use Rattle.ap_shparse.specs.Bytes.{Text, ends_word, has, is_among, is_plain}
use Rattle.ap_shparse.specs.Pieces.{begins_name, escapable}
use Rattle.ap_shparse.specs.declared.class.Class.{Class}
use Rattle.ap_shparse.specs.declared.class.Class.TheVariants.{Fallback, Name, Quoted}
use Rattle.ap_shparse.specs.declared.tree.Part.{Part}
use Rattle.ap_shparse.specs.declared.tree.Part.TheVariants as part
use Rattle.ap_shparse.specs.declared.tree.Simple.{Simple}

-- what stands between two texts
abbrev pub TextRule : Type 0 → Type 1
TextRule A = Text → Text → A → Type 0

-- ---- runs

abbrev pub AreAll : Class → Text → Type 0
AreAll k [] = Unit {0}
AreAll k (c ∷ t) = (has k c ≡ true) × AreAll k t

abbrev pub begins_in : Class → Text → Bool
begins_in k [] = false
begins_in k (c ∷ t) = has k c

-- bytes of a class, as many as stand there
pub record IsRun (k : Class) (t u : Text) (bytes : Text) : Type 0 where
  pub spelling : t ≡ bytes ++ u
  pub are_all : AreAll k bytes
  pub longest : begins_in k u ≡ false

-- a letter or `_`, and letters, digits and `_`, as many as stand there
pub record IsName (t u : Text) (name : Text) : Type 0 where
  pub is_run : IsRun Name t u name
  pub begins : begins_name t ≡ true

-- ---- expansions

-- behind `$`, in double quotes or not; IsSub says what may stand behind `$(`
abbrev pub IsExpansion : TextRule Simple → Bool → TextRule Part
-- `$NAME` and `${NAME}`
IsExpansion IsSub inside t u (part.Variable n) =
    IsName t u n ⊎ ((v : Text) × (t ≡ codes "{" ++ v) × IsName v (codes "}" ++ u) n)
-- `${NAME:-W}`
IsExpansion IsSub inside t u (part.Fallback n w) =
    (v m : Text) × (t ≡ codes "{" ++ v) × IsName v (codes ":-" ++ m) n × IsRun (Fallback inside) m (codes "}" ++ u) w
IsExpansion IsSub inside t u part.Zero = t ≡ codes "0" ++ u
IsExpansion IsSub inside t u part.Process = t ≡ codes "$" ++ u
-- `$(C)`
IsExpansion IsSub inside t u (part.Output c) = (v : Text) × (t ≡ codes "(" ++ v) × IsSub v u c
IsExpansion IsSub inside t u (part.Text b) = ⊥

-- ---- double quotes

-- what stands in double quotes
pub data Quote : Type 0 where
  -- a byte that stands for itself
  byte : ℕ → Quote
  -- a backslash that stands for itself
  backslash : Quote
  -- a byte behind a backslash
  escape : ℕ → Quote
  expands : Part → Quote

-- ", $, \ and `
abbrev pub not_in_quotes : List ℕ
not_in_quotes = 34 ∷ 36 ∷ 92 ∷ 96 ∷ []

-- a backslash stays before any byte but these and a newline
abbrev pub stays : Text → Bool
stays [] = false
stays (c ∷ t) = not (c == 10 || is_among c escapable)

abbrev pub IsQuote : TextRule Simple → TextRule Quote
IsQuote IsSub t u (byte c) = (t ≡ c ∷ u) × (is_among c not_in_quotes ≡ false)
IsQuote IsSub t u backslash = (t ≡ 92 ∷ u) × (stays u ≡ true)
IsQuote IsSub t u (escape c) = (t ≡ 92 ∷ c ∷ u) × (is_among c escapable ≡ true)
IsQuote IsSub t u (expands p) = (v : Text) × (t ≡ codes "$" ++ v) × IsExpansion IsSub true v u p

-- as far as the closing quote
abbrev pub AreQuoted : TextRule Simple → TextRule (List Quote)
AreQuoted IsSub t u [] = t ≡ 34 ∷ u
AreQuoted IsSub t u (q ∷ qs) = (m : Text) × IsQuote IsSub t m q × AreQuoted IsSub m u qs

-- ---- pieces

pub data Piece : Type 0 where
  plain : ℕ → Piece
  -- '..'
  single : Text → Piece
  -- ".."
  double : List Quote → Piece
  expansion : Part → Piece

abbrev pub IsPiece : TextRule Simple → TextRule Piece
IsPiece IsSub t u (plain c) = (t ≡ c ∷ u) × (is_plain c ≡ true)
IsPiece IsSub t u (single b) = (v : Text) × (t ≡ 39 ∷ v) × IsRun Quoted v (39 ∷ u) b
IsPiece IsSub t u (double qs) = (v : Text) × (t ≡ 34 ∷ v) × AreQuoted IsSub v u qs
IsPiece IsSub t u (expansion p) = (v : Text) × (t ≡ codes "$" ++ v) × IsExpansion IsSub false v u p

-- pieces that touch, as far as the word goes
abbrev pub ArePieces : TextRule Simple → TextRule (List Piece)
ArePieces IsSub t u [] = (t ≡ u) × (ends_word u ≡ true)
ArePieces IsSub t u (p ∷ ps) = (m : Text) × IsPiece IsSub t m p × ArePieces IsSub m u ps

-- ---- what pieces give

pub data Given : Type 0 where
  bytes : Text → Given
  expanded : Part → Given

abbrev pub quote_gives : Quote → Given
quote_gives (byte c) = bytes (c ∷ [])
quote_gives backslash = bytes (92 ∷ [])
quote_gives (escape c) = bytes (c ∷ [])
quote_gives (expands p) = expanded p

abbrev pub piece_gives : Piece → List Given
piece_gives (plain c) = bytes (c ∷ []) ∷ []
piece_gives (single b) = bytes b ∷ []
piece_gives (double qs) = map quote_gives qs
piece_gives (expansion p) = expanded p ∷ []

abbrev pub gives : List Piece → List Given
gives [] = []
gives (p ∷ ps) = piece_gives p ++ gives ps

-- an empty text isn't a part
abbrev pub text_part : Text → List Part
text_part [] = []
text_part (c ∷ t) = part.Text (c ∷ t) ∷ []

-- texts that touch are one
abbrev pub parts_behind : Text → List Given → List Part
parts_behind t [] = text_part t
parts_behind t (bytes b ∷ gs) = parts_behind (t ++ b) gs
parts_behind t (expanded p ∷ gs) = text_part t ++ p ∷ parts_behind [] gs

abbrev pub parts : List Piece → List Part
parts ps = parts_behind [] (gives ps)

-- whether an expansion stands outside double quotes
abbrev pub has_expansion : List Piece → Bool
has_expansion [] = false
has_expansion (expansion p ∷ ps) = true
has_expansion (p ∷ ps) = has_expansion ps

-- whether a `~` stands outside quotes
abbrev pub has_tilde : List Piece → Bool
has_tilde [] = false
has_tilde (plain c ∷ ps) = c == 126 || has_tilde ps
has_tilde (p ∷ ps) = has_tilde ps
