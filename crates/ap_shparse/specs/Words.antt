-- Words and assignments (POSIX.1, 2.3, 2.4 and 2.9.1).
use Rattle.std.specs.Prelude.{ℕ, List, [], ◌∷◌, Some, None, Bool, false, ◌==◌, ◌||◌, ◌&&◌, not, if◌then◌else◌}
use Rattle.ap_shparse.specs.Bytes.{begins_with, Text, after, is_among, is_plain, past}
use Rattle.ap_shparse.specs.Reads.{Outcome, and_then, if_eaten, pure}
use Rattle.ap_shparse.specs.Pieces.{begins_name, expect, name, parts_of, pieces}
use Rattle.ap_shparse.specs.Places.{bracket}
use Rattle.ap_shparse.specs.declared.class.Class.TheVariants.{Name}
use Rattle.ap_shparse.specs.declared.tree.Assign.{Assign, roll-Assign}
use Rattle.ap_shparse.specs.declared.tree.Simple.{Simple}
use Rattle.ap_shparse.specs.declared.tree.Part.TheVariants as part
use Rattle.ap_shparse.specs.declared.tree.Word.{Word}
use Rattle.ap_shparse.specs.declared.tree.Word.TheVariants as word

-- !, #, {, } and ~, which don't stand for themselves at a word's start
abbrev pub not_first : List ℕ
not_first = 33 ∷ 35 ∷ 123 ∷ 125 ∷ 126 ∷ []

unfoldable pub begins_word : Text → Bool
begins_word [] = false
begins_word (c ∷ t) = c == 39 || (c == 34 || is_plain c && not (is_among c not_first))

abbrev pub text_word : Text → Word
text_word t = word.Parts (part.Text t ∷ [])

-- a word has no expansion outside double quotes
unfoldable pub pieced : (Text → Outcome Text Simple) → Text → Outcome Text Word
pieced sub t = if begins_word t then and_then (pieces sub t) (λ f u. if f.dollar then None
    else Some (word.Parts (parts_of f), u)) else None

-- `!=`
abbrev pub differs : Text
differs = 33 ∷ 61 ∷ []

-- a word; `"$@"` isn't one of these
unfoldable pub plain_word : (Text → Outcome Text Simple) → Text → Outcome Text Word
plain_word sub t = if_eaten (past bracket t) (pure (text_word bracket))
    (if_eaten (past differs t) (pure (text_word differs)) (pieced sub t))

-- an assignment's value has no `~` outside quotes
unfoldable pub value : (Text → Outcome Text Simple) → Text → Outcome Text Word
value sub t = and_then (pieces sub t) (λ f u. if f.tilde then None
    else Some (word.Parts (parts_of f), u))

unfoldable pub is_assignment : Text → Bool
is_assignment t = begins_name t && begins_with 61 (after Name t)

abbrev pub assign : Text → Word → Assign
assign n v = roll-Assign (record { name = n; value = v })

unfoldable pub assignment : (Text → Outcome Text Simple) → Text → Outcome Text Assign
assignment sub t = and_then (name t)
    (λ n u. and_then (expect 61 u) (λ _ v. and_then (value sub v) (λ w. pure (assign n w))))
