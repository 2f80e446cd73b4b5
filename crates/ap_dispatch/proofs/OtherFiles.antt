-- The dispatch table changes no file but the copy.
use Rattle.std.proofs.Common.{◌≡◌, ◌≢◌, ◌∙◌, ap, refl, ℕ, Bool, true, false, cond}
use Rattle.std.specs.Prelude.{Option, Some, None, ◌&&◌, codes, ◌∷◌}
use Rattle.std.specs.Option.{is_some}
use Rattle.std.specs.FinMap as fin
use Rattle.std.specs.Str.{bytes_eq}
use Rattle.ap_check.specs.declared.options.Systems.{Systems}
use Rattle.ap_check.specs.Options.{has_system}
use Rattle.ap_fields.specs.Bytes.{over}
use Rattle.ap_octal.specs.DdEffect.{dd_effect}
use Rattle.ap_script.specs.Script.{kernels_of}
use Rattle.ap_shell.specs.Files.{Text}
use Rattle.ap_shell.specs.Places.{host_file, is_null}
use Rattle.ap_shell.specs.declared.map.HostFile.{HostFile}
use Rattle.ap_shell.specs.declared.types.Env.{Env}
use Rattle.ap_shell.specs.declared.types.Host.{Host}
use Rattle.ap_shell.specs.declared.types.Outcome.{Outcome}
use Rattle.ap_shell.specs.declared.types.Outcome.TheVariants.{Execs, Exits}
use Rattle.ap_dispatch.specs.Dispatch.{by_header, by_mach, copy_name, dispatch, is_one_of, machine_name, named_header, runs_copy, system_name}
use Rattle.ap_dispatch.proofs.FileFacts.{differ, get_insert}

-- the file of a name is as it was
abbrev Kept : Text → Host → Outcome × Host → Type 0
Kept name host end = host_file name end.1.files ≡ host_file name host.files

kept_if : (name : Text) (host : Host) (b : Bool) (first second : Outcome × Host) → Kept name host first → Kept name host second → Kept name host (cond b first second)
kept_if name host true first second x y = x
kept_if name host false first second x y = y

kept_by_copy : (name : Text) (host : Host) (env : Env) (bytes : Text) → name ≢ copy_name env → Kept name host (runs_copy env bytes host)
unfolding host_file
kept_by_copy name host env bytes other =
    let f : HostFile = record { bytes = bytes; mode = 448 } in
    ap (λ o. cond (is_null name) None o) (get_insert host.files (copy_name env) f name ∙ ap (λ b. cond b (Some f) (fin.get host.files name)) (differ name (copy_name env) other))

kept_by_header : (name : Text) (host : Host) (env : Env) (w : Text) (o : Option Text) → name ≢ copy_name env → Kept name host (by_header o w env host)
kept_by_header name host env w None other = refl
kept_by_header name host env w (Some header) other = kept_by_copy name host env (over w header) other

kept_by_mach : (name : Text) (host : Host) (env : Env) (w : Text) (x64 : Bool) (skip count : ℕ) → name ≢ copy_name env → Kept name host (by_mach x64 skip count w env host)
kept_by_mach name host env w true skip count other = kept_by_copy name host env (dd_effect true 8 skip count w w) other
kept_by_mach name host env w false skip count other = refl

pub others_kept : (systems : Systems) (x64 a64 : Option Text) (skip count : ℕ) (w : Text) (env : Env) (host : Host) (name : Text) → name ≢ copy_name env
    → host_file name (dispatch systems x64 a64 skip count w env host).1.files ≡ host_file name host.files
unfolding dispatch
others_kept systems x64 a64 skip count w env host name other =
    let mach = by_mach (is_some x64 && bytes_eq (machine_name env) (codes "x86_64")) skip count w env host in
    let header = by_header (named_header x64 a64 (machine_name env)) w env host in
    let kernel = cond (is_one_of (system_name env) (kernels_of systems)) header (Exits 126, host) in
    let rest = cond (has_system systems 16 && bytes_eq (system_name env) (codes "Darwin")) mach kernel in
    kept_if name host env.ape (Execs (codes "ape") (env.zero ∷ env.args), host) rest refl
    (kept_if name host (has_system systems 16 && bytes_eq (system_name env) (codes "Darwin")) mach kernel (kept_by_mach name host env w (is_some x64 && bytes_eq (machine_name env) (codes "x86_64")) skip count other)
    (kept_if name host (is_one_of (system_name env) (kernels_of systems)) header (Exits 126, host) (kept_by_header name host env w (named_header x64 a64 (machine_name env)) other) refl))
