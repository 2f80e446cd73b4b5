-- Words and their expansions (POSIX.1, 2.6).
use Rattle.std.specs.Prelude.{◌==◌, ◌&&◌, Bool, true, if◌then◌else◌, List, [], ◌∷◌, ◌++◌, Option}
use Rattle.std.specs.Str.{bytes_eq}
use Rattle.ap_shell.specs.Files.{Text}
use Rattle.ap_shell.specs.Steps.{Action, Gives, ◌then_do◌}
use Rattle.ap_shell.specs.declared.types.Outcome.{Outcome}
use Rattle.ap_shell.specs.declared.state.State.{State}
use Rattle.ap_shell.specs.declared.state.Variable.{Variable}

-- ---- variables

-- the last of the name counts
abbrev pub value_among : Text → Text → List Variable → Text
value_among name found [] = found
value_among name found (v ∷ vs) = value_among name (if bytes_eq v.name name then v.value else found) vs

abbrev pub value_of : Text → List Variable → Text
value_of name vars = value_among name [] vars

abbrev pub unless_empty : Text → Text → Text
unless_empty [] other = other
unless_empty (b ∷ t) other = b ∷ t

-- ---- the parts of a word, from left to right, and words

abbrev pub joined : List (Gives Text) → Gives Text
joined [] s = ([], s)
joined (p ∷ ps) s = p s then_do (λ a s1. joined ps s1 then_do (λ b s2. (a ++ b, s2)))

abbrev pub listed : List (Gives (List Text)) → Gives (List Text)
listed [] s = ([], s)
listed (w ∷ ws) s = w s then_do (λ a s1. listed ws s1 then_do (λ b s2. (a ++ b, s2)))

-- the text of a word that is one, as those of assignments and redirections are
abbrev pub as_one : List Text → Text
as_one [] = []
as_one (t ∷ ts) = t ++ as_one ts

-- ---- `$(..)`

abbrev pub all_newlines : Text → Bool
all_newlines [] = true
all_newlines (b ∷ t) = b == 10 && all_newlines t

-- without the newlines at the end
abbrev pub trimmed : Text → Text
trimmed [] = []
trimmed (b ∷ t) = if all_newlines (b ∷ t) then [] else b ∷ trimmed t

-- what was printed. The files, the count of calls and the status of the `$(..)` are kept, and nothing else
abbrev pub captured : State → Option Outcome × State → Text × State
captured s r = (
  trimmed r.1.host.out,
  record s { host = record { files = r.1.host.files; out = s.host.out }; calls = r.1.calls; inner = r.1.status },
)

-- the command prints into nothing at first, and is told that it stands within `$(..)`
abbrev pub within : (Bool → Action) → Gives Text
within command s = captured s (command true (record s { host = record { files = s.host.files; out = [] } }))
