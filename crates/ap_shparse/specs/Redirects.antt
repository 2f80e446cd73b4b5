-- Redirections (POSIX.1, 2.7).
use Rattle.std.specs.Prelude.{ℕ, List, [], ◌∷◌, Option, Some, None, Bool, ◌==◌, ◌||◌, ◌&&◌, ◌-◌, not, if◌then◌else◌}
use Rattle.ap_shparse.specs.Bytes.{begins_with, Text, after, ends_word, past_byte}
use Rattle.ap_shparse.specs.Reads.{Outcome, and_then, if_eaten, pure}
use Rattle.ap_shparse.specs.Places.{Place, at_text, here, lift}
use Rattle.ap_shparse.specs.Words.{plain_word}
use Rattle.ap_shparse.specs.declared.class.Class.TheVariants.{Blank, Digit}
use Rattle.ap_shparse.specs.declared.redirect.Operator.{Operator}
use Rattle.ap_shparse.specs.declared.redirect.Operator.TheVariants as op
use Rattle.ap_shparse.specs.declared.tree.Simple.{Simple}
use Rattle.ap_shparse.specs.declared.tree.Target.{Target}
use Rattle.ap_shparse.specs.declared.tree.Target.TheVariants as target
use Rattle.ap_shparse.specs.declared.tree.Word.{Word}

abbrev pub is_angle : Text → Bool
is_angle t = begins_with 60 t || begins_with 62 t

-- digits alone, or none, right before `<` or `>`
unfoldable pub redirects : Text → Bool
redirects t = is_angle (after Digit t)

-- `>&` and `>`, `<<`, `<>` and `<`
unfoldable pub next_operator : Text → Outcome Text Operator
next_operator t =
    if_eaten (past_byte 62 t) (λ u. if_eaten (past_byte 38 u) (pure op.Same) (Some (op.Write, u)))
    (if_eaten (past_byte 60 t) (λ u. if_eaten (past_byte 60 u) (pure op.Here)
    (if_eaten (past_byte 62 u) (pure op.Both) (Some (op.Read, u))))
    None)

abbrev pub default : Operator → ℕ
default op.Same = 1
default op.Write = 1
default _ = 0

-- whether this digit may stand before the operator
abbrev pub allows : Operator → ℕ → Bool
allows op.Same d = d == 49 || d == 50
allows op.Write d = d == 48 || (d == 49 || d == 50)
allows op.Both d = d == 48 || (d == 49 || d == 50)
allows _ d = d == 48

unfoldable pub number : Operator → List ℕ → Option ℕ
number o [] = Some (default o)
number o (d ∷ []) = if allows o d then Some (d - 48) else None
number o (d ∷ e ∷ ds) = None

-- a word of digits alone right before `<` or `>` is the next redirection's
unfoldable pub file_word : (Text → Outcome Text Simple) → Text → Outcome Text Word
file_word sub t = if redirects (after Blank t) then None else plain_word sub (after Blank t)

abbrev pub write : (Text → Outcome Text Simple) → Text → Outcome Text Target
write sub t = and_then (file_word sub t) (λ w. pure (target.Write w))

abbrev pub read : (Text → Outcome Text Simple) → Text → Outcome Text Target
read sub t = and_then (file_word sub t) (λ w. pure (target.Read w))

abbrev pub both : (Text → Outcome Text Simple) → Text → Outcome Text Target
both sub t = and_then (file_word sub t) (λ w. pure (target.Both w))

abbrev pub is_same : ℕ → Text → Bool
is_same d t = (d == 49 || d == 50) && ends_word t && not (is_angle t)

abbrev pub same_at : Text → Outcome Text Target
same_at [] = None
same_at (d ∷ t) = if is_same d t then Some (target.Same (d - 48), t) else None

-- behind `>&`: 1 or 2
unfoldable pub same : Text → Outcome Text Target
same t = same_at (after Blank t)

abbrev pub here_target : (Text → Outcome Text Simple) → Place → Outcome Place Target
here_target sub p = and_then (here sub (at_text p (after Blank p.text))) (λ b. pure (target.Here b))

-- what follows the operator
unfoldable pub target_of : (Text → Outcome Text Simple) → Operator → Place → Outcome Place Target
target_of sub op.Same p = lift same p
target_of sub op.Write p = lift (write sub) p
target_of sub op.Read p = lift (read sub) p
target_of sub op.Both p = lift (both sub) p
target_of sub op.Here p = here_target sub p
