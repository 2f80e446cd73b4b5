-- The pieces of a word: plain bytes, quotes and expansions (POSIX.1, 2.2 and 2.6).
use Rattle.std.specs.Prelude.{ℕ, zero, suc, List, [], ◌∷◌, ◌++◌, Some, None, Bool, true, false, ◌==◌, ◌||◌, ◌&&◌, not, if◌then◌else◌, length}
use Rattle.ap_shparse.specs.Bytes.{Text, after, ends_word, is_among, is_letter, is_plain, past_byte, run}
use Rattle.ap_shparse.specs.Reads.{Outcome, and_then, eaten, if_eaten, ◌>>=◌, pure}
use Rattle.ap_shparse.specs.declared.class.Class.TheVariants.{Quoted, Name, Fallback}
use Rattle.ap_shparse.specs.declared.found.Found.{Found}
use Rattle.ap_shparse.specs.declared.tree.Part.{Part}
use Rattle.ap_shparse.specs.declared.tree.Part.TheVariants as part
use Rattle.ap_shparse.specs.declared.tree.Simple.{Simple}

-- ---- what was found of a word so far

abbrev pub none_found : Found
none_found = record { parts = []; text = []; inside = false; dollar = false; tilde = false }

-- the text that waits is a part of its own, where there is one
abbrev pub with_text : List Part → Text → List Part
with_text parts [] = parts
with_text parts (c ∷ t) = parts ++ part.Text (c ∷ t) ∷ []

abbrev pub parts_of : Found → List Part
parts_of f = with_text f.parts f.text

-- bytes as they are: texts that touch are one
abbrev pub with_bytes : Found → Text → Found
with_bytes f t = record f { text = f.text ++ t }

abbrev pub with_part : Found → Part → Found
with_part f p = record f { parts = parts_of f ++ p ∷ []; text = [] }

-- ---- expansions

-- a byte that has to come next
abbrev pub expect : ℕ → Text → Outcome Text (Unit {0})
expect c t = eaten (past_byte c t)

abbrev pub begins_name : Text → Bool
begins_name [] = false
begins_name (c ∷ t) = is_letter c

-- the longest name that stands here
unfoldable pub name : Text → Outcome Text Text
name t = if begins_name t then Some (run Name t, after Name t) else None

-- `w}` of `${name:-w}`
unfoldable pub other : Bool → Text → Outcome Text Text
other inside t = and_then (expect 125 (after (Fallback inside) t)) (λ _ u. Some (run (Fallback inside) t, u))

-- `:-w}`
unfoldable pub fallback : Bool → Text → Text → Outcome Text Part
fallback inside n = do
  colon ← expect 58
  dash ← expect 45
  w ← other inside
  pure (part.Fallback n w)

-- behind `${`
unfoldable pub braced : Bool → Text → Outcome Text Part
braced inside t = and_then (name t) (λ n u. if_eaten (past_byte 125 u) (pure (part.Variable n)) (fallback inside n u))

unfoldable pub variable : Text → Outcome Text Part
variable t = and_then (name t) (λ n. pure (part.Variable n))

abbrev pub output : (Text → Outcome Text Simple) → Text → Outcome Text Part
output sub t = and_then (sub t) (λ c. pure (part.Output c))

-- behind `$`, in double quotes or not; `sub` is what `$(` may stand before
unfoldable pub dollar : (Text → Outcome Text Simple) → Bool → Text → Outcome Text Part
dollar sub inside t =
    if_eaten (past_byte 36 t) (pure part.Process)
    (if_eaten (past_byte 48 t) (pure part.Zero)
    (if_eaten (past_byte 123 t) (braced inside)
    (if_eaten (past_byte 40 t) (output sub)
    (variable t))))

-- ---- a piece, or a byte of double quotes

-- behind `'`
unfoldable pub single : Found → Text → Outcome Text Found
single f t = and_then (expect 39 (after Quoted t)) (λ _ u. Some (with_bytes f (run Quoted t), u))

unfoldable pub plain : Found → Text → Outcome Text Found
plain f [] = None
plain f (c ∷ t) = if is_plain c then Some (with_bytes (record f { tilde = f.tilde || c == 126 }) (c ∷ []), t)
    else None

unfoldable pub outside : (Text → Outcome Text Simple) → Found → Text → Outcome Text Found
outside sub f t =
    if_eaten (past_byte 39 t) (single f)
    (if_eaten (past_byte 34 t) (pure (record f { inside = true }))
    (if_eaten (past_byte 36 t)
    (λ u. and_then (dollar sub false u) (λ p. pure (with_part (record f { dollar = true }) p)))
    (plain f t)))

-- $, `, " and \
abbrev pub escapable : List ℕ
escapable = 36 ∷ 96 ∷ 34 ∷ 92 ∷ []

-- behind `\` in double quotes
unfoldable pub escaped : Found → Text → Outcome Text Found
escaped f [] = None
escaped f (c ∷ t) = if c == 10 then None
    else (if is_among c escapable then Some (with_bytes f (c ∷ []), t) else Some (with_bytes f (92 ∷ []), c ∷ t))

unfoldable pub quoted : Found → Text → Outcome Text Found
quoted f [] = None
quoted f (c ∷ t) = if c == 96 then None else Some (with_bytes f (c ∷ []), t)

unfoldable pub inside : (Text → Outcome Text Simple) → Found → Text → Outcome Text Found
inside sub f t =
    if_eaten (past_byte 34 t) (pure (record f { inside = false }))
    (if_eaten (past_byte 92 t) (escaped f)
    (if_eaten (past_byte 36 t) (λ u. and_then (dollar sub true u) (λ p. pure (with_part f p)))
    (quoted f t)))

unfoldable pub unit : (Text → Outcome Text Simple) → Found → Text → Outcome Text Found
unit sub f t = if f.inside then inside sub f t else outside sub f t

-- ---- as far as they go

-- whether the word ends here
abbrev pub ends : Found → Text → Bool
ends f t = not f.inside && ends_word t

-- the number bounds the turns
unfoldable pub units : (Text → Outcome Text Simple) → ℕ → Found → Text → Outcome Text Found
units sub zero f t = if ends f t then Some (f, t) else None
units sub (suc n) f t = if ends f t then Some (f, t) else and_then (unit sub f t) (units sub n)

unfoldable pub pieces : (Text → Outcome Text Simple) → Text → Outcome Text Found
pieces sub t = units sub (length t) none_found t
