-- What the script does before it tests the system: the magic's assignment, the test for `ape`, and the three variables.
use Rattle.std.proofs.Common.{◌≡◌, ◌∙◌, ap, refl, ℕ, List, [], ◌∷◌, ◌++◌, ◌==◌, true, false, codes, cond}
use Rattle.std.specs.Prelude.{Option, Some, None, ◌&&◌, unwrap_or}
use Rattle.std.specs.Fmt.{decimal}
use Rattle.std.specs.Str.{bytes_eq}
use Rattle.std.proofs.lemmas.List.{append-nil}
use Rattle.ap_shell.specs.Files.{Text, FileMap}
use Rattle.ap_shell.specs.Ends.{plain, stopping}
use Rattle.ap_shell.specs.TextCommands.{command_v, line, uname}
use Rattle.ap_shell.specs.EndCommands.{exec, exit}
use Rattle.ap_shell.specs.Steps.{unless_ended}
use Rattle.ap_shell.specs.Words.{all_newlines, trimmed, unless_empty, value_among, value_of}
use Rattle.ap_shell.specs.Obeying.{counted, delivered, simply}
use Rattle.ap_shell.specs.Simples.{target_means}
use Rattle.ap_shell.specs.Meaning.{at_first, chain_meaning, joined_on}
use Rattle.ap_shell.specs.declared.types.Env.{Env}
use Rattle.ap_shell.specs.declared.types.Host.{Host}
use Rattle.ap_shell.specs.declared.types.Outcome.{Outcome}
use Rattle.ap_shell.specs.declared.types.Outcome.TheVariants.{Execs, Exits}
use Rattle.ap_shell.specs.declared.state.State.{State}
use Rattle.ap_shell.specs.declared.state.Variable.{Variable}
use Rattle.ap_shell.specs.declared.state.Sink.TheVariants.{Enclosing}
use Rattle.ap_shparse.specs.declared.tree.Part.TheOpen.{Target-F}
use Rattle.ap_dispatch.proofs.Tree.{ape_item, ape_start, ape_test, copy_item, exit_item, opening_item, uname_item}
use Rattle.ap_dispatch.proofs.Opened.{ape_start_opened, ape_start_words, ape_test_opened, ape_test_words, copy_opened, copy_value, exit_opened, exit_words, opening_opened, set_by, to_null, uname_opened, uname_within}
use Rattle.ap_dispatch.proofs.FileFacts.{null_is, null_kept}
use Rattle.ap_dispatch.proofs.Stopping.{Stops, if_passed, if_stops, stops_now}

-- ---- variables

-- a state with one more variable, after an assignment
abbrev pub with_value : State → Text → Text → State
with_value s name value = record { vars = s.vars ++ (record { name = name; value = value }) ∷ []; host = s.host; status = 0; calls = s.calls; inner = 0 }

value_after_by : (name other value : Text) (vs : List Variable) (found : Text)
    → value_among name found (vs ++ (record { name = other; value = value }) ∷ []) ≡ cond (bytes_eq other name) value (value_among name found vs)
value_after_by name other value [] found = refl
value_after_by name other value (v ∷ vs) found = value_after_by name other value vs _

pub value_after : (name other value : Text) (vs : List Variable) → value_of name (vs ++ (record { name = other; value = value }) ∷ []) ≡ cond (bytes_eq other name) value (value_of name vs)
value_after name other value vs = value_after_by name other value vs []

pub first_value : (o : Option Text) → value_of (codes "TMPDIR") (at_first o) ≡ unwrap_or o []
first_value None = refl
first_value (Some t) = refl

-- ---- the magic

pub opening_goes : (env : Env) (name value body : Text) (s : State) → chain_meaning env (opening_item name value body) s ≡ (None, with_value s name ((value ++ []) ++ []))
opening_goes env name value body s = ap (λ f. f s) (opening_opened env name value body)

-- ---- `ape`

ape_found : command_v false true (codes "-v" ∷ codes "ape" ∷ []) ≡ line (codes "ape")
unfolding command_v
ape_found = refl

ape_missing : command_v false false (codes "-v" ∷ codes "ape" ∷ []) ≡ plain 1
unfolding command_v
ape_missing = refl

ape_starts : (ws : List Text) (files : FileMap) → exec true (codes "ape" ∷ ws) files ≡ stopping (Execs (codes "ape") ws)
unfolding exec
ape_starts ws files = refl

abbrev with_status : State → ℕ → State
with_status s n = record s { status = n; inner = 0 }

found_runs : (env : Env) (s : State) → env.ape ≡ true
    → simply env ape_test_words (to_null 1 ∷ target_means (Target-F.Same 1) 2 ∷ []) [] false s ≡ (None, with_status s 0)
found_runs env s ape = rw (null_kept, null_is, ape, ape_found) refl

missing_runs : (env : Env) (s : State) → env.ape ≡ false
    → simply env ape_test_words (to_null 1 ∷ target_means (Target-F.Same 1) 2 ∷ []) [] false s ≡ (None, with_status s 1)
missing_runs env s ape = rw (null_kept, ape, ape_missing) refl

start_runs : (env : Env) (s : State) → env.ape ≡ true
    → simply env (ape_start_words env) [] [] false s ≡ (Some (Execs (codes "ape") (env.zero ∷ env.args)), with_status s 0)
start_runs env s ape = rw (append-nil env.zero, append-nil env.args, ape, ape_starts) refl

pub ape_passed : (env : Env) (s : State) → env.ape ≡ false → chain_meaning env ape_item s ≡ (None, with_status s 0)
ape_passed env s ape = if_passed env ape_test (ape_start ∷ []) s (with_status s 1)
    (ap (λ f. f s) (ape_test_opened env) ∙ ap (λ r. unless_ended r (joined_on [])) (missing_runs env s ape)) refl

pub ape_stops : (env : Env) (s : State) → env.ape ≡ true → Stops (chain_meaning env ape_item s) (Execs (codes "ape") (env.zero ∷ env.args), s.host)
ape_stops env s ape =
    let end : Outcome × Host = (Execs (codes "ape") (env.zero ∷ env.args), s.host) in
    if_stops env ape_test (ape_start ∷ []) s (with_status s 0) end
    (ap (λ f. f s) (ape_test_opened env) ∙ ap (λ r. unless_ended r (joined_on [])) (found_runs env s ape)) refl
    (stops_now (chain_meaning env ape_start) [] (with_status s 0) end (record {
      state = with_status s 0;
      is = ap (λ f. f (with_status s 0)) (ape_start_opened env) ∙ ap (λ r. unless_ended r (joined_on [])) (start_runs env (with_status s 0) ape);
      host = refl;
    }))

-- ---- `m` and `s`

newlines_by : (t : Text) → all_newlines (t ++ 10 ∷ []) ≡ all_newlines t
newlines_by [] = refl
newlines_by (b ∷ t) = ap (λ x. (b == 10) && x) (newlines_by t)

trimmed_line : (t : Text) → trimmed (t ++ 10 ∷ []) ≡ trimmed t
trimmed_line [] = refl
trimmed_line (b ∷ t) = ap (λ x. cond ((b == 10) && x) [] (b ∷ trimmed (t ++ 10 ∷ []))) (newlines_by t) ∙ ap (λ u. cond ((b == 10) && all_newlines t) [] (b ∷ u)) (trimmed_line t)

delivered_all : (t : Text) (files : FileMap) → delivered Enclosing t (record { files = files; out = [] }) ≡ record { files = files; out = t }
delivered_all [] files = refl
delivered_all (b ∷ t) files = refl

uname_runs : (env : Env) (name option answer : Text) (s : State) → env.fails ≡ [] → uname env (option ∷ []) ≡ line answer
    → set_by env (record { name = name; value = uname_within env option }) [] s ≡ (None, with_value (record s { calls = counted s }) name (trimmed answer))
uname_runs env name option answer s none is =
    rw (append-nil option, is, none, delivered_all, append-nil (trimmed (answer ++ 10 ∷ [])), append-nil (trimmed (answer ++ 10 ∷ [])), trimmed_line answer) refl

pub uname_goes : (env : Env) (name option answer : Text) (s : State) → env.fails ≡ [] → uname env (option ∷ []) ≡ line answer
    → chain_meaning env (uname_item name option) s ≡ (None, with_value (record s { calls = counted s }) name (trimmed answer))
uname_goes env name option answer s none is = ap (λ f. f s) (uname_opened env name option) ∙ uname_runs env name option answer s none is

pub machine_is : (env : Env) → uname env (codes "-m" ∷ []) ≡ line env.machine
unfolding uname
machine_is env = refl

pub system_is : (env : Env) → uname env (codes "-s" ∷ []) ≡ line env.system
unfolding uname
system_is env = refl

-- ---- `t`

abbrev pub copy_in : Text → ℕ → Text
copy_in directory pid = unless_empty directory (codes "/tmp") ++ (codes "/ape." ++ decimal pid)

copy_runs : (env : Env) (directory : Text) (s : State) → value_of (codes "TMPDIR") s.vars ≡ directory
    → set_by env (record { name = codes "t"; value = copy_value env }) [] s ≡ (None, with_value s (codes "t") (copy_in directory env.pid))
copy_runs env directory s is = rw (is, append-nil (decimal env.pid), append-nil (copy_in directory env.pid)) refl

pub copy_goes : (env : Env) (directory : Text) (s : State) → value_of (codes "TMPDIR") s.vars ≡ directory
    → chain_meaning env copy_item s ≡ (None, with_value s (codes "t") (copy_in directory env.pid))
copy_goes env directory s is = ap (λ f. f s) (copy_opened env) ∙ copy_runs env directory s is

-- ---- `exit`

exit_runs : (env : Env) (status : Text) (n : ℕ) (s : State) → ((last : ℕ) → exit (status ∷ []) last ≡ stopping (Exits n))
    → simply env (exit_words status) [] [] false s ≡ (Some (Exits n), with_status s 0)
exit_runs env status n s is = rw (append-nil status, is s.status) refl

pub exit_stops : (env : Env) (status : Text) (n : ℕ) (s : State) → ((last : ℕ) → exit (status ∷ []) last ≡ stopping (Exits n))
    → Stops (chain_meaning env (exit_item status) s) (Exits n, s.host)
exit_stops env status n s is = record {
  state = with_status s 0;
  is = ap (λ f. f s) (exit_opened env status) ∙ ap (λ r. unless_ended r (joined_on [])) (exit_runs env status n s is);
  host = refl;
}

pub exits_125 : (last : ℕ) → exit (codes "125" ∷ []) last ≡ stopping (Exits 125)
unfolding exit
exits_125 last = refl

pub exits_126 : (last : ℕ) → exit (codes "126" ∷ []) last ≡ stopping (Exits 126)
unfolding exit
exits_126 last = refl
