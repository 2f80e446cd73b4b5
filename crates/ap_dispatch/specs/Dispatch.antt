-- The dispatch table: how the script of a linked file ends, and the host afterwards, by what the script was written for (as
-- `script_of` takes it), the file's bytes, and what a shell sees of its surroundings. In the words of ap_shell.
use Rattle.std.specs.Prelude.{◌≡◌, ◌≢◌, ℕ, ◌/◌, ◌&&◌, ◌||◌, if◌then◌else◌, Bool, true, false, List, [], ◌∷◌, ◌++◌, codes, Option, Some, None, unwrap_or}
use Rattle.std.specs.Option.{is_some}
use Rattle.std.specs.List.{list_any}
use Rattle.std.specs.Str.{bytes_eq}
use Rattle.std.specs.Fmt.{decimal}
use Rattle.std.specs.FinMap as fin
use Rattle.ap_fields.specs.Bytes.{over}
use Rattle.ap_octal.specs.DdEffect.{dd_effect}
use Rattle.ap_check.specs.declared.options.Systems.{Systems}
use Rattle.ap_check.specs.declared.options.Options.{Options}
use Rattle.ap_check.specs.Options.{has_system}
use Rattle.ap_check.specs.Inputs.{Taken}
use Rattle.ap_elf.specs.declared.machine.Machine.{Machine}
use Rattle.ap_elf.specs.declared.machine.Machine.TheVariants.{X64, A64}
use Rattle.ap_layout.specs.Positions.{Positions, placed_inputs}
use Rattle.ap_script.specs.Script.{header_for, kernels_of, machine_names}
use Rattle.ap_shell.specs.Files.{Text}
use Rattle.ap_shell.specs.Places.{host_file}
use Rattle.ap_shell.specs.FileCommands.{begins_with}
use Rattle.ap_shell.specs.Words.{trimmed, unless_empty}
use Rattle.ap_shell.specs.declared.types.Env.{Env}
use Rattle.ap_shell.specs.declared.types.Host.{Host}
use Rattle.ap_shell.specs.declared.types.Outcome.{Outcome}
use Rattle.ap_shell.specs.declared.types.Outcome.TheVariants.{Execs, Exits}

-- ---- the copy

-- its name: in the directory that TMPDIR names, or else in `/tmp`
abbrev pub copy_name : Env → Text
copy_name env = unless_empty (unwrap_or env.tmpdir []) (codes "/tmp") ++ (codes "/ape." ++ decimal env.pid)

-- the host with the copy, which its owner alone may read, write and run: mode 0700
abbrev pub with_copy : Env → Text → Host → Host
with_copy env bytes host = record { files = fin.insert host.files (copy_name env) (record { bytes = bytes; mode = 448 }); out = host.out }

-- the copy with these bytes is started with the script's arguments
abbrev pub runs_copy : Env → Text → Host → Outcome × Host
runs_copy env bytes host = (Execs (copy_name env) env.args, with_copy env bytes host)

-- ---- the cases

-- what `uname` answers, as `$(..)` gives it: without newlines at its end
abbrev pub system_name : Env → Text
system_name env = trimmed env.system

abbrev pub machine_name : Env → Text
machine_name env = trimmed env.machine

abbrev pub is_one_of : Text → List Text → Bool
is_one_of text names = list_any (λ name. bytes_eq text name) names

-- whether an answer names a machine
abbrev pub is_name_of : Machine → Text → Bool
is_name_of m text = bytes_eq text (machine_names m).0 || bytes_eq text (machine_names m).1

-- the embedded header for the machine that an answer names, where there is an input for it
abbrev pub named_header : Option Text → Option Text → Text → Option Text
named_header x64 a64 text = if is_name_of X64 text then x64 else (if is_name_of A64 text then a64 else None)

-- with the header over the copy's first bytes
abbrev pub by_header : Option Text → Text → Env → Host → Outcome × Host
by_header None w env host = (Exits 126, host)
by_header (Some header) w env host = runs_copy env (over w header) host

-- on macOS: where there is an input for the machine, after `dd` moved the Mach-O header to the copy's front
abbrev pub by_mach : Bool → ℕ → ℕ → Text → Env → Host → Outcome × Host
by_mach x64 skip count w env host = if x64 then runs_copy env (dd_effect true 8 skip count w w) host else (Exits 125, host)

-- ---- the table, by the systems, the header of each machine, and the Mach-O header's place and length in units of eight bytes

unfoldable pub dispatch : Systems → Option Text → Option Text → ℕ → ℕ → Text → Env → Host → Outcome × Host
dispatch systems x64 a64 skip count w env host =
    if env.ape then (Execs (codes "ape") (env.zero ∷ env.args), host)
    else (if has_system systems 16 && bytes_eq (system_name env) (codes "Darwin")
    then by_mach (is_some x64 && bytes_eq (machine_name env) (codes "x86_64")) skip count w env host
    else (if is_one_of (system_name env) (kernels_of systems)
    then by_header (named_header x64 a64 (machine_name env)) w env host
    else (Exits 126, host)))

-- the same by the inputs of a linked file, and the places of its parts
abbrev pub dispatch_for : Options → List Taken → Positions → Text → Env → Host → Outcome × Host
dispatch_for options inputs l =
    dispatch options.systems (header_for X64 (placed_inputs inputs l)) (header_for A64 (placed_inputs inputs l)) (l.mach_at / 8) (l.mach_len / 8)

-- ---- what it supposes

-- TMPDIR isn't set, is empty or begins with `/`
abbrev pub IsAbsolute : Option Text → Type 0
IsAbsolute None = Unit {0}
IsAbsolute (Some []) = Unit {0}
IsAbsolute (Some (c ∷ text)) = c ≡ 47

-- `$0` doesn't begin with `-`, is the name of the file in the host, with any mode, and not that of the copy; no utility fails
pub record IsReady (env : Env) (host : Host) (w : Text) : Type 0 where
  pub mode : ℕ
  pub there : host_file env.zero host.files ≡ Some (record { bytes = w; mode = mode })
  pub no_option : begins_with 45 env.zero ≡ false
  pub apart : env.zero ≢ copy_name env
  pub tmpdir : IsAbsolute env.tmpdir
  pub none_fail : env.fails ≡ []
