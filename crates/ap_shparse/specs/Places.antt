-- Where a reading stands in a text, and the here-documents that wait there (POSIX.1, 2.7.4).
use Rattle.std.specs.Prelude.{ℕ, zero, suc, [], ◌∷◌, ◌++◌, Option, Some, None, Bool, false, ◌&&◌, ◌-◌, not, if◌then◌else◌, length, is_some, drop}
use Rattle.ap_shparse.specs.Bytes.{Text, after, begins_with, enders, ends_word, gap, is_among, past, past_byte, run}
use Rattle.ap_shparse.specs.Reads.{Outcome, and_then, if_eaten, pure}
use Rattle.ap_shparse.specs.Pieces.{expect, pieces}
use Rattle.ap_shparse.specs.declared.class.Class.TheVariants.{Comment, Quoted}
use Rattle.ap_shparse.specs.declared.tree.Simple.{Simple}
use Rattle.std.specs.Str.{bytes_eq}

-- what is left of the text, and where the bodies that were taken from below this line end, if any were: at the newline of the
-- last one's closing line, or at the end of the text
pub record Place : Type 0 where
  pub text : Text
  pub bodies : Option Text

-- whether a here-document waits for the next newline
abbrev pub waits : Place → Bool
waits p = is_some p.bodies

abbrev pub at_text : Place → Text → Place
at_text p t = record p { text = t }

-- a part that has no here-document
abbrev pub lift : {A : Type 0} → (Text → Outcome Text A) → Place → Outcome Place A
lift f p = and_then (f p.text) (λ a t. Some (a, at_text p t))

-- the text's last bytes, so many
abbrev pub last : ℕ → Text → Text
last n t = drop (length t - n) t

-- behind a newline and the bodies below it
abbrev pub behind : Option Text → Text → Text
behind None t = t
behind (Some b) t = last (length b - 1) t

abbrev pub next_line : Place → Text → Place
next_line p t = record { text = behind p.bodies t; bodies = None }

abbrev pub past_newline : Place → Option Place
past_newline p = if_eaten (past_byte 10 p.text) (λ t. Some (next_line p t)) None

abbrev pub past_gap : Place → Place
past_gap p = at_text p (gap p.text)

-- no newline comes next
abbrev pub no_newline : Place → Option Place
no_newline p = if is_some (past_newline p) then None else Some p

abbrev pub newlines_by : (Place → Option Place) → Place → Option Place
newlines_by next p = if_eaten (past_newline p) next (Some p)

-- behind blanks, comments and newlines; the number bounds the turns
unfoldable pub newlines_from : ℕ → Place → Option Place
newlines_from zero p = no_newline (past_gap p)
newlines_from (suc n) p = newlines_by (newlines_from n) (past_gap p)

unfoldable pub newlines : Place → Option Place
newlines p = newlines_from (length p.text) p

-- ---- here-documents

-- `"$@"`
abbrev pub args : Text
args = 34 ∷ 36 ∷ 64 ∷ 34 ∷ []

-- `[`
abbrev pub bracket : Text
bracket = 91 ∷ []

abbrev pub lone : Text → Option Text
lone t = if_eaten (past bracket t) (λ u. Some u) (past args t)

-- a byte that no word holds, or a word
unfoldable pub token : (Text → Outcome Text Simple) → Text → Outcome Text (Unit {0})
token sub [] = None
token sub (c ∷ t) = if is_among c enders then Some (tt, t)
    else if_eaten (lone (c ∷ t)) (pure tt) (and_then (pieces sub (c ∷ t)) (λ _. pure tt))

-- at the next newline that isn't part of a word; the number bounds the turns
unfoldable pub line_from : (Text → Outcome Text Simple) → ℕ → Text → Outcome Text (Unit {0})
line_from sub zero t = None
line_from sub (suc n) t = if begins_with 10 (gap t) then Some (tt, gap t)
    else and_then (token sub (gap t)) (λ _. line_from sub n)

unfoldable pub line : (Text → Outcome Text Simple) → Text → Outcome Text (Unit {0})
line sub t = line_from sub (length t) t

-- the lines before the one that is the delimiter, with their newlines; the number bounds the turns
unfoldable pub body_from : Text → ℕ → Text → Text → Outcome Text Text
body_from d zero found t = None
body_from d (suc n) found t =
    if bytes_eq (run Comment t) d then Some (found, after Comment t)
    else and_then (expect 10 (after Comment t)) (λ _. body_from d n (found ++ run Comment t ++ 10 ∷ []))

-- from the newline before the body to the end of its closing line
unfoldable pub body : Text → Text → Outcome Text Text
body d t = and_then (expect 10 t) (λ _ u. body_from d (length u) [] u)

abbrev pub is_delimiter : Text → Bool
is_delimiter [] = false
is_delimiter (c ∷ t) = not (is_among 10 (c ∷ t))

-- behind `<<`: a whole word in single quotes
unfoldable pub delimiter : Text → Outcome Text Text
delimiter t = and_then (expect 39 t) (λ _ u. and_then (expect 39 (after Quoted u))
    (λ _ v. if is_delimiter (run Quoted u) && ends_word v then Some (run Quoted u, v) else None))

abbrev pub or_line : (Text → Outcome Text Simple) → Text → Option Text → Outcome Text (Unit {0})
or_line sub t None = line sub t
or_line sub t (Some b) = Some (tt, b)

abbrev pub here_at : Text → Text → Place
here_at t b = record { text = t; bodies = Some b }

-- the body stands behind those of the line's other here-documents
abbrev pub body_of : (Text → Outcome Text Simple) → Option Text → Text → Text → Outcome Place Text
body_of sub bodies d t = and_then (or_line sub t bodies)
    (λ _ u. and_then (body d u) (λ found b. Some (found, here_at t b)))

-- behind `<<` and blanks
unfoldable pub here : (Text → Outcome Text Simple) → Place → Outcome Place Text
here sub p = and_then (delimiter p.text) (body_of sub p.bodies)
