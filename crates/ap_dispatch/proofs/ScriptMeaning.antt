-- The script means its dispatch table.
use Rattle.std.proofs.Common.{◌≡◌, ◌∙◌, ap, refl, ℕ, List, [], ◌∷◌, ◌++◌, false, codes, cond, map}
use Rattle.std.specs.Prelude.{Option, ◌&&◌, unwrap_or}
use Rattle.std.specs.Option.{is_some}
use Rattle.std.specs.Str.{bytes_eq}
use Rattle.ap_check.specs.declared.options.Systems.{Systems}
use Rattle.ap_check.specs.Options.{has_system}
use Rattle.ap_script.specs.Script.{kernels_of}
use Rattle.ap_shell.specs.Files.{Text}
use Rattle.ap_shell.specs.Obeying.{counted}
use Rattle.ap_shell.specs.Words.{value_of}
use Rattle.ap_shell.specs.Meaning.{at_first, chain_meaning, in_turn, shell_meaning, started}
use Rattle.ap_shell.specs.declared.types.Env.{Env}
use Rattle.ap_shell.specs.declared.types.Host.{Host}
use Rattle.ap_shell.specs.declared.types.Outcome.{Outcome}
use Rattle.ap_shell.specs.declared.types.Outcome.TheVariants.{Execs, Exits}
use Rattle.ap_shell.specs.declared.state.State.{State}
use Rattle.ap_shell.specs.declared.state.Variable.{Variable}
use Rattle.ap_dispatch.specs.Dispatch.{IsReady, by_header, by_mach, copy_name, dispatch, is_one_of, machine_name, named_header, system_name}
use Rattle.ap_dispatch.proofs.Tree.{ape_item, copy_item, opening_item, script_items, system_items, uname_item}
use Rattle.ap_dispatch.proofs.Stopping.{Stops, finishes, stops_if, stops_later, stops_now}
use Rattle.ap_dispatch.proofs.FirstItems.{ape_passed, ape_stops, copy_goes, first_value, machine_is, opening_goes, system_is, uname_goes, value_after, with_value}
use Rattle.ap_dispatch.proofs.SystemItems.{AreShort, IsSpelled, Knows, systems_stop}

-- ---- the variables, one after another

-- with the magic's name, and then with each of the three others
abbrev variables_1 : Env → Text → Text → List Variable
variables_1 env name value = at_first env.tmpdir ++ (record { name = name; value = value }) ∷ []

abbrev variables_2 : Env → Text → Text → List Variable
variables_2 env name value = variables_1 env name value ++ (record { name = codes "m"; value = machine_name env }) ∷ []

abbrev variables_3 : Env → Text → Text → List Variable
variables_3 env name value = variables_2 env name value ++ (record { name = codes "s"; value = system_name env }) ∷ []

abbrev variables_4 : Env → Text → Text → List Variable
variables_4 env name value = variables_3 env name value ++ (record { name = codes "t"; value = copy_name env }) ∷ []

tmpdir_is : (env : Env) (name value : Text) → bytes_eq name (codes "TMPDIR") ≡ false → value_of (codes "TMPDIR") (variables_3 env name value) ≡ unwrap_or env.tmpdir []
tmpdir_is env name value other =
    value_after (codes "TMPDIR") (codes "s") (system_name env) (variables_2 env name value)
    ∙ value_after (codes "TMPDIR") (codes "m") (machine_name env) (variables_1 env name value)
    ∙ value_after (codes "TMPDIR") name value (at_first env.tmpdir)
    ∙ ap (λ b. cond b value (value_of (codes "TMPDIR") (at_first env.tmpdir))) other
    ∙ first_value env.tmpdir

known_at : (env : Env) (name value : Text) (host : Host) (calls : ℕ)
    → Knows env host (record { vars = variables_4 env name value; host = host; status = 0; calls = calls; inner = 0 })
known_at env name value host calls = record {
  machine =
      value_after (codes "m") (codes "t") (copy_name env) (variables_3 env name value)
      ∙ value_after (codes "m") (codes "s") (system_name env) (variables_2 env name value)
      ∙ value_after (codes "m") (codes "m") (machine_name env) (variables_1 env name value);
  system =
      value_after (codes "s") (codes "t") (copy_name env) (variables_3 env name value)
      ∙ value_after (codes "s") (codes "s") (system_name env) (variables_2 env name value);
  copy = value_after (codes "t") (codes "t") (copy_name env) (variables_3 env name value);
  same = refl;
}

-- ---- behind the test for `ape`

-- how the script ends where no `ape` is found
abbrev without_ape : Systems → Option Text → Option Text → ℕ → ℕ → Text → Env → Host → Outcome × Host
without_ape systems x64 a64 skip count w env host =
    cond (has_system systems 16 && bytes_eq (system_name env) (codes "Darwin")) (by_mach (is_some x64 && bytes_eq (machine_name env) (codes "x86_64")) skip count w env host)
    (cond (is_one_of (system_name env) (kernels_of systems)) (by_header (named_header x64 a64 (machine_name env)) w env host) (Exits 126, host))

uname_stop : (env : Env) (host : Host) (w : Text) (systems : Systems) (x64 a64 : Option Text) (skip count : ℕ) (name value : Text) (calls : ℕ)
    → bytes_eq name (codes "TMPDIR") ≡ false → IsReady env host w → IsSpelled x64 → IsSpelled a64 → AreShort skip count
    → Stops (in_turn (map (chain_meaning env) (uname_item (codes "m") (codes "-m") ∷ uname_item (codes "s") (codes "-s") ∷ copy_item ∷ system_items systems x64 a64 skip count))
    (record { vars = variables_1 env name value; host = host; status = 0; calls = calls; inner = 0 }))
    (without_ape systems x64 a64 skip count w env host)
uname_stop env host w systems x64 a64 skip count name value calls other ready spelled others short =
    let end = without_ape systems x64 a64 skip count w env host in
    let s1 : State = record { vars = variables_1 env name value; host = host; status = 0; calls = calls; inner = 0 } in
    let s2 : State = record { vars = variables_2 env name value; host = host; status = 0; calls = counted s1; inner = 0 } in
    let s3 : State = record { vars = variables_3 env name value; host = host; status = 0; calls = counted s2; inner = 0 } in
    let s4 : State = record { vars = variables_4 env name value; host = host; status = 0; calls = counted s2; inner = 0 } in
    let rest = system_items systems x64 a64 skip count in
    stops_later (chain_meaning env (uname_item (codes "m") (codes "-m"))) (map (chain_meaning env) (uname_item (codes "s") (codes "-s") ∷ copy_item ∷ rest)) s1 s2 end
    (uname_goes env (codes "m") (codes "-m") env.machine s1 ready.none_fail (machine_is env))
    (stops_later (chain_meaning env (uname_item (codes "s") (codes "-s"))) (map (chain_meaning env) (copy_item ∷ rest)) s2 s3 end
    (uname_goes env (codes "s") (codes "-s") env.system s2 ready.none_fail (system_is env))
    (stops_later (chain_meaning env copy_item) (map (chain_meaning env) rest) s3 s4 end
    (copy_goes env (unwrap_or env.tmpdir []) s3 (tmpdir_is env name value other))
    (systems_stop env host w systems x64 a64 skip count s4 ready (known_at env name value host (counted s2)) spelled others short)))

-- ---- the whole

pub script_means : (env : Env) (host : Host) (w : Text) (systems : Systems) (x64 a64 : Option Text) (skip count : ℕ) (name value body : Text)
    → bytes_eq name (codes "TMPDIR") ≡ false → IsReady env host w → IsSpelled x64 → IsSpelled a64 → AreShort skip count
    → shell_meaning env (opening_item name value body ∷ script_items systems x64 a64 skip count) host ≡ dispatch systems x64 a64 skip count w env host
unfolding shell_meaning dispatch script_items
script_means env host w systems x64 a64 skip count name value body other ready spelled others short =
    let end = dispatch systems x64 a64 skip count w env host in
    let found : Outcome × Host = (Execs (codes "ape") (env.zero ∷ env.args), host) in
    let rest = uname_item (codes "m") (codes "-m") ∷ uname_item (codes "s") (codes "-s") ∷ copy_item ∷ system_items systems x64 a64 skip count in
    let s1 : State = with_value (started env host) name ((value ++ []) ++ []) in
    finishes (in_turn (map (chain_meaning env) (opening_item name value body ∷ ape_item ∷ rest)) (started env host)) end
    (stops_later (chain_meaning env (opening_item name value body)) (map (chain_meaning env) (ape_item ∷ rest)) (started env host) s1 end (opening_goes env name value body (started env host))
    (stops_if (in_turn (map (chain_meaning env) (ape_item ∷ rest)) s1) found (without_ape systems x64 a64 skip count w env host) env.ape
    (λ there. stops_now (chain_meaning env ape_item) (map (chain_meaning env) rest) s1 found (ape_stops env s1 there))
    (λ missing. stops_later (chain_meaning env ape_item) (map (chain_meaning env) rest) s1 s1 (without_ape systems x64 a64 skip count w env host) (ape_passed env s1 missing)
    (uname_stop env host w systems x64 a64 skip count name ((value ++ []) ++ []) 0 other ready spelled others short))))
