-- A clause of the code, carried over an equation of meanings.
use Rattle.std.proofs.Common.{◌≡◌, ◌∙◌, ap, sym, subst, List, drop, map}
use Rattle.std.specs.Prelude.{Option, Result, IfOk}
use Rattle.std.proofs.Common.{ℕ, ◌<◌, ◌+◌, length, get_or, Bool}
use Rattle.std.proofs.lemmas.List.{at_drop_more}
use Rattle.ap_shell.specs.Files.{Text}
use Rattle.ap_shell.specs.Steps.{Gives, ◌then_do◌}
use Rattle.ap_shell.specs.Redirecting.{redirected, unless_failed, Redirects, plainly}
use Rattle.ap_shell.specs.Simples.{redirection_meaning, target_meaning, assign_meaning, word_meaning}
use Rattle.ap_shell.specs.Obeying.{assigned, name_to, Assigns, performed, simply}
use Rattle.ap_shell.specs.Words.{listed}
use Rattle.ap_shell.specs.declared.types.Outcome.{Outcome}
use Rattle.ap_shell.specs.declared.types.Env.{Env}
use Rattle.ap_shell.specs.declared.state.Routes.{Routes}
use Rattle.ap_shparse.specs.declared.tree.Assign.{Assign, out-Assign}
use Rattle.ap_shparse.specs.declared.tree.Redirection.{Redirection, out-Redirection}
use Rattle.ap_shell.proofs.Layers.{assign_out, redirection_out}
use Rattle.ap_shell.specs.declared.state.State.{State}

pub layer : {A E : Type 0} (r : Result A E) (f g : Gives A) (s new : State) → f ≡ g → IfOk r (λ t. g s ≡ (t, new)) → IfOk r (λ t. f s ≡ (t, new))
layer r f g s new e h = subst (λ k. IfOk r (λ t. k s ≡ (t, new))) (sym e) h

-- what goes on after a step
pub after : {A B E : Type 0} (r : Result B E) (p : A × State) (f : A → Gives B) (a : A) (s new : State) → p ≡ (a, s) → IfOk r (λ t. f a s ≡ (t, new)) → IfOk r (λ t. (p then_do f) ≡ (t, new))
after r p f a s new e h = subst (λ q. IfOk r (λ t. (q then_do f) ≡ (t, new))) (sym e) h

-- ---- one turn of a loop over a command's redirections and assignments

pub redirected_turn : (env : Env) (all : List Redirection) (i : ℕ) (x : Redirection) (q : Routes) (s : State) (o : Option Routes) (new : State) → i < length all → x ≡ get_or all i x
    → target_meaning env (out-Redirection x).to (out-Redirection x).number q s ≡ (o, new)
    → redirected (map (redirection_meaning env) (drop i all)) q s ≡ unless_failed (o, new) (redirected (map (redirection_meaning env) (drop (i + 1) all)))
redirected_turn env all i x q s o new below there is =
    let next = redirected (map (redirection_meaning env) (drop (i + 1) all)) in
    at_drop_more (λ rs. redirected (map (redirection_meaning env) rs) q s) all i x below
    ∙ ap (λ y. unless_failed (redirection_meaning env y q s) next) (sym there)
    ∙ ap (λ k. unless_failed (k q s) next) (redirection_out env x)
    ∙ ap (λ r. unless_failed r next) is

pub assigned_turn : (env : Env) (all : List Assign) (i : ℕ) (x : Assign) (s : State) (w : List Text) (new : State) → i < length all → x ≡ get_or all i x
    → word_meaning env (out-Assign x).value s ≡ (w, new)
    → assigned (map (assign_meaning env) (drop i all)) s ≡ assigned (map (assign_meaning env) (drop (i + 1) all)) (name_to (out-Assign x).name (w, new))
assigned_turn env all i x s w new below there is =
    let next = assigned (map (assign_meaning env) (drop (i + 1) all)) in
    at_drop_more (λ rs. assigned (map (assign_meaning env) rs) s) all i x below
    ∙ ap (λ y. next (name_to (assign_meaning env y).name ((assign_meaning env y).value s))) (sym there)
    ∙ ap (λ a. next (name_to a.name (a.value s))) (assign_out env x)
    ∙ ap (λ r. next (name_to (out-Assign x).name r)) is

-- ---- a simple command, by its words and redirections

pub simply_by : {E : Type 0} (env : Env) (words : List (Gives (List Text))) (redirs : List Redirects) (assigns : List Assigns) (inside : Bool) (s s1 s2 new : State) (ws : List Text) (o : Option Routes) (r : Result (Option Outcome) E)
    → listed words (record s { inner = 0 }) ≡ (ws, s1) → redirected redirs plainly s1 ≡ (o, s2) → IfOk r (λ t. performed env inside assigns ws o s2 ≡ (t, new)) → IfOk r (λ t. simply env words redirs assigns inside s ≡ (t, new))
simply_by env words redirs assigns inside s s1 s2 new ws o r e f h =
    after r (listed words (record s { inner = 0 })) (λ w s3. redirected redirs plainly s3 then_do (λ p s4. performed env inside assigns w p s4)) ws s1 new e
    (after r (redirected redirs plainly s1) (λ p s4. performed env inside assigns ws p s4) o s2 new f h)

pub simply_is : (env : Env) (words : List (Gives (List Text))) (redirs : List Redirects) (assigns : List Assigns) (inside : Bool) (s s1 s2 : State) (ws : List Text) (o : Option Routes)
    → listed words (record s { inner = 0 }) ≡ (ws, s1) → redirected redirs plainly s1 ≡ (o, s2) → simply env words redirs assigns inside s ≡ performed env inside assigns ws o s2
simply_is env words redirs assigns inside s s1 s2 ws o e f =
    ap (λ r. r then_do (λ w s3. redirected redirs plainly s3 then_do (λ p s4. performed env inside assigns w p s4))) e
    ∙ ap (λ r. r then_do (λ p s4. performed env inside assigns ws p s4)) f
