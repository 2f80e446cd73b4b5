-- Whether a variable is one of some names.
use Rattle.std.proofs.Common.{◌≡◌, ◌∙◌, ap, refl, List, [], ◌∷◌, ◌==◌, Bool, true, false, codes, map}
use Rattle.std.specs.Prelude.{None, ◌||◌}
use Rattle.std.specs.Str.{bytes_eq}
use Rattle.std.proofs.lemmas.List.{append-nil}
use Rattle.ap_shell.specs.Files.{Text}
use Rattle.ap_shell.specs.Ends.{holding}
use Rattle.ap_shell.specs.Steps.{unless_ended}
use Rattle.ap_shell.specs.Words.{value_of}
use Rattle.ap_shell.specs.Obeying.{simply}
use Rattle.ap_shell.specs.TextCommands.{test_status}
use Rattle.ap_shell.specs.Meaning.{Joins, chain_meaning, joined_meaning, joined_on, node_meaning, one_joined}
use Rattle.ap_shell.specs.declared.types.Env.{Env}
use Rattle.ap_shell.specs.declared.state.State.{State}
use Rattle.ap_dispatch.specs.Dispatch.{is_one_of}
use Rattle.ap_dispatch.proofs.Tree.{equals, is_any, or_else, system_test, text, variable}
use Rattle.ap_dispatch.proofs.Equations.{chain_is, joined_is}
use Rattle.ap_dispatch.proofs.Opened.{equals_opened, equals_text_opened, equals_words, is_any_opened, of_variable}

-- the state after a test
abbrev pub tested : State → Bool → State
tested s b = record s { status = holding b; inner = 0 }

test_is : (value name : Text) → test_status (value ∷ codes "=" ∷ name ∷ codes "]" ∷ []) ≡ holding (bytes_eq value name)
unfolding test_status
test_is value name = refl

equals_runs : (env : Env) (var name value : Text) (s : State) → value_of var s.vars ≡ value
    → simply env (equals_words (of_variable var) name) [] [] false s ≡ (None, tested s (bytes_eq value name))
equals_runs env var name value s is = rw (append-nil (value_of var s.vars), append-nil name, is, test_is value name) refl

equals_goes : (env : Env) (var name value : Text) (s : State) → value_of var s.vars ≡ value → node_meaning env (equals (variable var) name) s ≡ (None, tested s (bytes_eq value name))
equals_goes env var name value s is = ap (λ f. f s) (equals_opened env var name) ∙ equals_runs env var name value s is

abbrev joins_of : Env → Text → List Text → List Joins
joins_of env var names = map (joined_meaning env) (map (λ name. or_else (equals (variable var) name)) names)

others_by : (env : Env) (var value : Text) (names : List Text) (b : Bool) (s : State) → value_of var s.vars ≡ value
    → joined_on (joins_of env var names) (tested s b) ≡ (None, tested s (b || is_one_of value names))
others_by env var value [] true s is = refl
others_by env var value [] false s is = refl
others_by env var value (name ∷ names) true s is =
    ap (λ j. unless_ended (one_joined j (tested s true)) (joined_on (joins_of env var names))) (joined_is env true (equals (variable var) name))
    ∙ others_by env var value names true s is
others_by env var value (name ∷ names) false s is =
    ap (λ j. unless_ended (one_joined j (tested s false)) (joined_on (joins_of env var names))) (joined_is env true (equals (variable var) name))
    ∙ ap (λ r. unless_ended r (joined_on (joins_of env var names))) (equals_goes env var name value (tested s false) is)
    ∙ others_by env var value names (bytes_eq value name) s is

pub is_any_goes : (env : Env) (var value first : Text) (others : List Text) (s : State) → value_of var s.vars ≡ value
    → chain_meaning env (is_any var first others) s ≡ (None, tested s (is_one_of value (first ∷ others)))
is_any_goes env var value first others s is =
    ap (λ f. f s) (is_any_opened env var first others)
    ∙ ap (λ r. unless_ended r (joined_on (joins_of env var others))) (equals_goes env var first value s is)
    ∙ others_by env var value others (bytes_eq value first) s is

pub system_test_goes : (env : Env) (value : Text) (names : List Text) (s : State) → value_of (codes "s") s.vars ≡ value
    → chain_meaning env (system_test names) s ≡ (None, tested s (is_one_of value names))
system_test_goes env value [] s is =
    ap (λ f. f s) (chain_is env (equals (text (codes "0")) (codes "1")) [])
    ∙ ap (λ f. unless_ended (f s) (joined_on [])) (equals_text_opened env (codes "0") (codes "1"))
    ∙ ap (λ n. (None, record s { status = n; inner = 0 })) (test_is (codes "0") (codes "1"))
system_test_goes env value (name ∷ names) s is = is_any_goes env (codes "s") value name names s is

pub holds : (b : Bool) → (holding b == 0) ≡ b
holds true = refl
holds false = refl
