-- Where a script stops: items in turn, and `if`.
use Rattle.std.proofs.Common.{◌≡◌, ◌∙◌, ap, refl, List, [], ◌∷◌, ◌==◌, Bool, true, false, cond, map}
use Rattle.std.specs.Prelude.{Option, Some, None}
use Rattle.ap_shell.specs.Steps.{Action, unless_ended}
use Rattle.ap_shell.specs.Meaning.{branch, chain_meaning, finished, in_turn, joined_on}
use Rattle.ap_shell.specs.declared.types.Env.{Env}
use Rattle.ap_shell.specs.declared.types.Host.{Host}
use Rattle.ap_shell.specs.declared.types.Outcome.{Outcome}
use Rattle.ap_shell.specs.declared.state.State.{State}
use Rattle.ap_shparse.specs.declared.tree.Chain.{Chain}
use Rattle.ap_dispatch.proofs.Tree.{if_item}
use Rattle.ap_dispatch.proofs.Opened.{if_opened}

-- the script stops with this outcome, and leaves this host
pub record Stops (r : Option Outcome × State) (end : Outcome × Host) : Type 0 where
  pub state : State
  pub is : r ≡ (Some end.0, state)
  pub host : state.host ≡ end.1

pub finishes : (r : Option Outcome × State) (end : Outcome × Host) → Stops r end → finished r ≡ end
finishes r end stops = ap finished stops.is ∙ ap (λ (h : Host). (end.0, h)) stops.host

pub stops_by : (r q : Option Outcome × State) (end : Outcome × Host) → r ≡ q → Stops q end → Stops r end
stops_by r q end e stops = record { state = stops.state; is = e ∙ stops.is; host = stops.host }

pub stops_now : (a : Action) (more : List Action) (s : State) (end : Outcome × Host) → Stops (a s) end → Stops (in_turn (a ∷ more) s) end
stops_now a more s end stops = record { state = stops.state; is = ap (λ r. unless_ended r (in_turn more)) stops.is; host = stops.host }

pub stops_later : (a : Action) (more : List Action) (s new : State) (end : Outcome × Host) → a s ≡ (None, new) → Stops (in_turn more new) end → Stops (in_turn (a ∷ more) s) end
stops_later a more s new end goes stops = stops_by (in_turn (a ∷ more) s) (in_turn more new) end (ap (λ r. unless_ended r (in_turn more)) goes) stops

-- one of two ends, by a test
pub stops_if : (r : Option Outcome × State) (first second : Outcome × Host) (b : Bool) → (b ≡ true → Stops r first) → (b ≡ false → Stops r second) → Stops r (cond b first second)
stops_if r first second true yes_stops no_stops = yes_stops refl
stops_if r first second false yes_stops no_stops = no_stops refl

-- ---- `if` without `else`

pub if_by : (env : Env) (test : Chain) (items : List Chain) (s s1 : State) (b : Bool) → chain_meaning env test s ≡ (None, s1) → (s1.status == 0) ≡ b
    → chain_meaning env (if_item test items) s ≡ unless_ended (cond b (branch (map (chain_meaning env) items) s1) (None, record s1 { status = 0 })) (joined_on [])
if_by env test items s s1 b goes is =
    ap (λ f. f s) (if_opened env test items)
    ∙ ap (λ r. unless_ended (unless_ended (unless_ended r (in_turn [])) (λ s2. cond (s2.status == 0) (branch (map (chain_meaning env) items) s2) (branch [] s2))) (joined_on [])) goes
    ∙ ap (λ c. unless_ended (cond c (branch (map (chain_meaning env) items) s1) (None, record s1 { status = 0 })) (joined_on [])) is

pub if_stops : (env : Env) (test : Chain) (items : List Chain) (s s1 : State) (end : Outcome × Host) → chain_meaning env test s ≡ (None, s1) → (s1.status == 0) ≡ true
    → Stops (branch (map (chain_meaning env) items) s1) end → Stops (chain_meaning env (if_item test items) s) end
if_stops env test items s s1 end goes is stops = record {
  state = stops.state;
  is = if_by env test items s s1 true goes is ∙ ap (λ r. unless_ended r (joined_on [])) stops.is;
  host = stops.host;
}

pub if_goes : (env : Env) (test : Chain) (items : List Chain) (s s1 s2 : State) → chain_meaning env test s ≡ (None, s1) → (s1.status == 0) ≡ true
    → branch (map (chain_meaning env) items) s1 ≡ (None, s2) → chain_meaning env (if_item test items) s ≡ (None, s2)
if_goes env test items s s1 s2 goes is on = if_by env test items s s1 true goes is ∙ ap (λ r. unless_ended r (joined_on [])) on

pub if_passed : (env : Env) (test : Chain) (items : List Chain) (s s1 : State) → chain_meaning env test s ≡ (None, s1) → (s1.status == 0) ≡ false
    → chain_meaning env (if_item test items) s ≡ (None, record s1 { status = 0 })
if_passed env test items s s1 goes is = if_by env test items s s1 false goes is
