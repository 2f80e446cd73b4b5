-- A state of the script, and what goes on from it.
use Rattle.std.specs.Prelude.{ℕ, Option, Some, None}
use Rattle.ap_shell.specs.declared.state.State.{State}
use Rattle.ap_shell.specs.declared.types.Outcome.{Outcome}

-- what is given, and the state after it
abbrev pub Gives : Type 0 → Type 0
Gives A = State → A × State

infixl 10 ◌then_do◌
abbrev pub ◌then_do◌ : {A B : Type 0} → A × State → (A → Gives B) → B × State
r then_do f = f r.0 r.1

-- what a command leaves: an outcome where the script ends there, and the state
abbrev pub Action : Type 0
Action = Gives (Option Outcome)

-- a status, where the script goes on
abbrev pub status_now : ℕ → Action
status_now n s = (None, record s { status = n })

-- goes on, unless the script has ended
abbrev pub unless_ended : Option Outcome × State → Action → Option Outcome × State
unless_ended (None, s) next = next s
unless_ended (Some o, s) next = (Some o, s)
