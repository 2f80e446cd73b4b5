-- What a script means: the meaning of each construct is made of the meanings of its parts (POSIX.1, 2.9).
use Rattle.std.specs.Prelude.{ℕ, ◌==◌, not, Bool, false, if◌then◌else◌, List, [], ◌∷◌, codes, map, Option, Some, None}
use Rattle.ap_shell.specs.Files.{Text}
use Rattle.ap_shell.specs.Steps.{Action, status_now, unless_ended}
use Rattle.ap_shell.specs.Simples.{simple_meaning}
use Rattle.ap_shell.specs.declared.types.Env.{Env}
use Rattle.ap_shell.specs.declared.types.Host.{Host}
use Rattle.ap_shell.specs.declared.types.Outcome.{Outcome}
use Rattle.ap_shell.specs.declared.types.Outcome.TheVariants.{Exits}
use Rattle.ap_shell.specs.declared.state.State.{State}
use Rattle.ap_shell.specs.declared.state.Variable.{Variable}
use Rattle.ap_shparse.specs.declared.tree.Chain.{Chain}
use Rattle.ap_shparse.specs.declared.tree.Node.{Node}
use Rattle.ap_shparse.specs.declared.tree.Joined.{Joined}
use Rattle.ap_shparse.specs.declared.tree.Node.TheOpen.{Node-F, Chain-F, Joined-F}
use Rattle.ap_shparse.specs.declared.tree.Node.TheFolds.{fold-Node, fold-Chain, fold-Joined}

-- items, one after another
abbrev pub in_turn : List Action → Action
in_turn [] s = (None, s)
in_turn (a ∷ more) s = unless_ended (a s) (in_turn more)

-- ---- `||` and `&&`

pub record Joins : Type 0 where
  pub or : Bool
  pub does : Action

-- `||` runs the command where the status isn't 0, `&&` where it is
abbrev pub runs : Bool → ℕ → Bool
runs or status = if or then not (status == 0) else status == 0

abbrev pub one_joined : Joins → Action
one_joined j s = if runs j.or s.status then j.does s else (None, s)

abbrev pub joined_on : List Joins → Action
joined_on [] s = (None, s)
joined_on (j ∷ more) s = unless_ended (one_joined j s) (joined_on more)

-- ---- `if`

-- an `else` that isn't there has status 0
abbrev pub branch : List Action → Action
branch [] s = status_now 0 s
branch (a ∷ more) s = in_turn (a ∷ more) s

abbrev pub chosen : List Action → List Action → List Action → Action
chosen test first second s =
    unless_ended (in_turn test s) (λ s1. if s1.status == 0 then branch first s1 else branch second s1)

-- ---- folds over the command tree

abbrev pub node_means : Env → Node-F Action Action Joins → Action
node_means env (Node-F.Simple simple) s = simple_meaning env simple false s
node_means env (Node-F.If test first second) s = chosen test first second s

abbrev pub joined_means : Joined-F Action Action Joins → Joins
joined_means j = record { or = j.or; does = j.node }

abbrev pub chain_means : Chain-F Action Action Joins → Action
chain_means ch s = unless_ended (ch.first s) (joined_on ch.rest)

unfoldable pub node_meaning : Env → Node → Action
node_meaning env = fold-Node Action Action Joins (node_means env) chain_means joined_means

unfoldable pub joined_meaning : Env → Joined → Joins
joined_meaning env = fold-Joined Action Action Joins (node_means env) chain_means joined_means

unfoldable pub chain_meaning : Env → Chain → Action
chain_meaning env = fold-Chain Action Action Joins (node_means env) chain_means joined_means

-- ---- a script

-- TMPDIR, where it is set
abbrev pub at_first : Option Text → List Variable
at_first None = []
at_first (Some t) = (record { name = codes "TMPDIR"; value = t }) ∷ []

abbrev pub started : Env → Host → State
started env host = record { vars = at_first env.tmpdir; host = host; status = 0; calls = 0; inner = 0 }

-- at the text's end the script exits with the last status
abbrev pub finished : Option Outcome × State → Outcome × Host
finished (None, s) = (Exits s.status, s.host)
finished (Some o, s) = (o, s.host)

-- the outcome, and the host afterwards
unfoldable pub shell_meaning : Env → List Chain → Host → Outcome × Host
shell_meaning env items host = finished (in_turn (map (chain_meaning env) items) (started env host))
