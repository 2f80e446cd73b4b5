-- Simple commands (POSIX.1, 2.9.1).
use Rattle.std.specs.Prelude.{ℕ, zero, suc, List, [], ◌∷◌, ◌++◌, Option, Some, None, Bool, true, false, ◌||◌, ◌&&◌, not, if◌then◌else◌, length, is_some, codes}
use Rattle.ap_shparse.specs.Bytes.{begins_with, Text, after, ends_word, past, run}
use Rattle.ap_shparse.specs.Reads.{Outcome, and_then, if_eaten, pure}
use Rattle.ap_shparse.specs.Pieces.{expect}
use Rattle.ap_shparse.specs.Places.{Place, args, at_text, waits}
use Rattle.ap_shparse.specs.Words.{assignment, is_assignment, plain_word}
use Rattle.ap_shparse.specs.Redirects.{next_operator, number, redirects, target_of}
use Rattle.ap_shparse.specs.declared.class.Class.TheVariants.{Blank, Digit}
use Rattle.ap_shparse.specs.declared.redirect.Operator.{Operator}
use Rattle.ap_shparse.specs.declared.redirect.Operator.TheVariants as op
use Rattle.ap_shparse.specs.declared.elements.Elements.{Elements}
use Rattle.ap_shparse.specs.declared.elements.Calls.{Calls}
use Rattle.ap_shparse.specs.declared.elements.Calls.TheVariants as calls
use Rattle.ap_shparse.specs.declared.elements.Called.{Called}
use Rattle.ap_shparse.specs.declared.tree.Redirection.{Redirection, roll-Redirection}
use Rattle.ap_shparse.specs.declared.tree.Simple.{Simple, roll-Simple}
use Rattle.ap_shparse.specs.declared.tree.Target.{Target}
use Rattle.ap_shparse.specs.declared.tree.Word.{Word}
use Rattle.ap_shparse.specs.declared.tree.Word.TheVariants as word

-- whether this word stands in front as a whole word
abbrev pub sees : Text → Text → Bool
sees k t = is_some (past k t)

-- ---- what was found of a command so far; `here` says whether there is a here-document

abbrev pub no_elements : Elements
no_elements = record { assigns = []; words = []; redirections = []; here = false; calls = calls.Other; more = false }

abbrev pub is_nil : {A : Type 0} → List A → Bool
is_nil [] = true
is_nil (x ∷ xs) = false

abbrev pub is_here : Operator → Bool
is_here op.Here = true
is_here _ = false

abbrev pub redirection_of : ℕ → Target → Redirection
redirection_of n to = roll-Redirection (record { number = n; to = to })

abbrev pub with_redirection : Elements → Operator → ℕ → Target → Elements
with_redirection e o n to = record e { redirections = e.redirections ++ redirection_of n to ∷ []; here = e.here || is_here o }

abbrev pub targeted : (Text → Outcome Text Simple) → Elements → Operator → Option ℕ → Place → Outcome Place Elements
targeted sub e o None p = None
targeted sub e o (Some n) p = and_then (target_of sub o p) (λ to. pure (with_redirection e o n to))

-- a digit, an operator and what follows it
unfoldable pub redirection : (Text → Outcome Text Simple) → Elements → Place → Outcome Place Elements
redirection sub e p = and_then (next_operator (after Digit p.text))
    (λ o t. if e.here && is_here o then None
    else targeted sub e o (number o (run Digit p.text)) (at_text p t))

unfoldable pub assigned : (Text → Outcome Text Simple) → Elements → Place → Outcome Place Elements
assigned sub e p = and_then (assignment sub p.text) (λ a t. Some (record e { assigns = e.assigns ++ a ∷ [] }, at_text p t))

-- which of the two commands that end a script the word is, written without quotes
abbrev pub calls_at : Text → Calls
calls_at t = if sees (codes "exit") t then calls.Exit
    else (if sees (codes "exec") t then calls.Exec else calls.Other)

-- the first word tells what is called; one of the others is more than the arguments
abbrev pub with_word : Elements → Calls → Word → Elements
with_word e k w = if is_nil e.words then record e { words = w ∷ []; calls = k }
    else record e { words = e.words ++ w ∷ []; more = true }

abbrev pub with_args : Elements → Elements
with_args e = record e { words = e.words ++ word.Args ∷ [] }

unfoldable pub next_word : (Text → Outcome Text Simple) → Elements → Place → Outcome Place Elements
next_word sub e p = if_eaten (past args p.text) (λ t. Some (with_args e, at_text p t))
    (and_then (plain_word sub p.text) (λ w t. Some (with_word e (calls_at p.text) w, at_text p t)))

-- an assignment has only assignments and redirections before it
unfoldable pub element : (Text → Outcome Text Simple) → Elements → Place → Outcome Place Elements
element sub e p = if redirects p.text then redirection sub e p
    else (if is_nil e.words && is_assignment p.text then assigned sub e p else next_word sub e p)

-- where no element begins
abbrev pub ends_command : Text → Bool
ends_command t = not (redirects t) && (ends_word t || begins_with 35 t)

abbrev pub past_blanks : Place → Place
past_blanks p = at_text p (after Blank p.text)

-- the number bounds the turns
unfoldable pub elements : (Text → Outcome Text Simple) → ℕ → Elements → Place → Outcome Place Elements
elements sub zero e p = if ends_command (past_blanks p).text then Some (e, past_blanks p) else None
elements sub (suc n) e p = if ends_command (past_blanks p).text then Some (e, past_blanks p)
    else and_then (element sub e (past_blanks p)) (elements sub n)

-- ---- the words that begin no simple command

abbrev pub is_keyword : Text → Bool
is_keyword t = sees (codes "if") t || (sees (codes "then") t || (sees (codes "else") t || sees (codes "fi") t))

abbrev pub is_loop : Text → Bool
is_loop t = sees (codes "while") t || (sees (codes "until") t || (sees (codes "for") t
    || (sees (codes "do") t || sees (codes "done") t)))

abbrev pub is_left_out : Text → Bool
is_left_out t = sees (codes "case") t || (sees (codes "esac") t || (sees (codes "elif") t || sees (codes "function") t))

unfoldable pub is_reserved : Text → Bool
is_reserved t = is_keyword t || (is_loop t || is_left_out t)

-- ---- the command

abbrev pub is_empty : Elements → Bool
is_empty e = is_nil e.assigns && (is_nil e.words && is_nil e.redirections)

abbrev pub leaves : Calls → Bool
leaves calls.Other = false
leaves _ = true

abbrev pub stops : Calls → Bool → Bool
stops calls.Exit more = true
stops calls.Exec more = more
stops calls.Other more = false

abbrev pub called : Elements → Called
called e = record {
  simple = roll-Simple (record { assigns = e.assigns; words = e.words; redirections = e.redirections });
  leaves = leaves e.calls;
  stops = stops e.calls e.more;
}

unfoldable pub simple : (Text → Outcome Text Simple) → Place → Outcome Place Called
simple sub p = if is_reserved p.text then None
    else and_then (elements sub (length p.text) no_elements p) (λ e q. if is_empty e then None else Some (called e, q))

-- ---- command substitution (POSIX.1, 2.6.3)

abbrev pub no_substitution : Text → Outcome Text Simple
no_substitution t = None

abbrev pub alone : Text → Place
alone t = record { text = t; bodies = None }

-- behind `$(`: a simple command other than `exit` and `exec`, without a here-document
unfoldable pub substitution : Text → Outcome Text Simple
substitution t = and_then (simple no_substitution (alone (after Blank t)))
    (λ c p. if c.leaves || waits p then None else and_then (expect 41 p.text) (λ _. pure c.simple))
