-- One turn over a chain, and the branches of an `if`.
use Rattle.std.proofs.Common.{◌≡◌, ◌∙◌, ap, sym, subst, List, map, Bool, false, cond, ◌==◌}
use Rattle.std.specs.Prelude.{Option, Some, None, Result, IfOk}
use Rattle.ap_shell.specs.Steps.{Action, unless_ended}
use Rattle.ap_shell.specs.Meaning.{chain_meaning, one_joined, runs, joined_on, joined_meaning, node_meaning, chosen, in_turn, branch}
use Rattle.ap_shell.specs.declared.state.State.{State}
use Rattle.ap_shell.specs.declared.types.Env.{Env}
use Rattle.ap_shell.specs.declared.types.Outcome.{Outcome}
use Rattle.ap_shparse.specs.declared.tree.Joined.{Joined, out-Joined}
use Rattle.ap_shell.proofs.Layers.{chain_out, joined_out}
use Rattle.ap_shparse.specs.declared.tree.Chain.{Chain, out-Chain}

pub one_by : {E : Type 0} (env : Env) (x : Joined) (s new : State) (b : Bool) (r : Result (Option Outcome) E) → runs (out-Joined x).or s.status ≡ b
    → IfOk r (λ t. cond b (node_meaning env (out-Joined x).node s) (None, s) ≡ (t, new)) → IfOk r (λ t. one_joined (joined_meaning env x) s ≡ (t, new))
one_by env x s new b r is h =
    subst (λ j. IfOk r (λ t. one_joined j s ≡ (t, new))) (sym (joined_out env x))
    (subst (λ c. IfOk r (λ t. cond c (node_meaning env (out-Joined x).node s) (None, s) ≡ (t, new))) (sym is) h)

pub one_not : (env : Env) (x : Joined) (s : State) → runs (out-Joined x).or s.status ≡ false → one_joined (joined_meaning env x) s ≡ (None, s)
one_not env x s is = ap (λ j. one_joined j s) (joined_out env x) ∙ ap (λ c. cond c (node_meaning env (out-Joined x).node s) (None, s)) is

pub chain_ended : (env : Env) (x : Chain) (s new : State) (o : Outcome) → node_meaning env (out-Chain x).first s ≡ (Some o, new) → chain_meaning env x s ≡ (Some o, new)
chain_ended env x s new o e = ap (λ k. k s) (chain_out env x) ∙ ap (λ r. unless_ended r (joined_on (map (joined_meaning env) (out-Chain x).rest))) e

pub chain_goes : {E : Type 0} (env : Env) (x : Chain) (s s1 new : State) (r : Result (Option Outcome) E) → node_meaning env (out-Chain x).first s ≡ (None, s1)
    → IfOk r (λ t. joined_on (map (joined_meaning env) (out-Chain x).rest) s1 ≡ (t, new)) → IfOk r (λ t. chain_meaning env x s ≡ (t, new))
chain_goes env x s s1 new r e h =
    subst (λ k. IfOk r (λ t. k s ≡ (t, new))) (sym (chain_out env x))
    (subst (λ q. IfOk r (λ t. unless_ended q (joined_on (map (joined_meaning env) (out-Chain x).rest)) ≡ (t, new))) (sym e) h)

pub chosen_ended : (test first second : List Action) (s s1 : State) (o : Outcome) → in_turn test s ≡ (Some o, s1) → chosen test first second s ≡ (Some o, s1)
chosen_ended test first second s s1 o e = ap (λ r. unless_ended r (λ t. cond (t.status == 0) (branch first t) (branch second t))) e

pub chosen_by : {E : Type 0} (test first second : List Action) (s s1 new : State) (b : Bool) (r : Result (Option Outcome) E) → in_turn test s ≡ (None, s1) → (s1.status == 0) ≡ b
    → IfOk r (λ t. cond b (branch first s1) (branch second s1) ≡ (t, new)) → IfOk r (λ t. chosen test first second s ≡ (t, new))
chosen_by test first second s s1 new b r e is h =
    subst (λ q. IfOk r (λ t. unless_ended q (λ t1. cond (t1.status == 0) (branch first t1) (branch second t1)) ≡ (t, new))) (sym e)
    (subst (λ c. IfOk r (λ t. cond c (branch first s1) (branch second s1) ≡ (t, new))) (sym is) h)
