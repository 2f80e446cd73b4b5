-- A simple command (POSIX.1, 2.9.1): its words, then its redirections, then its assignments, then the command.
use Rattle.std.specs.Prelude.{ℕ, ◌+◌, ◌-◌, ◌^◌, ◌==◌, ◌&&◌, not, min, Bool, if◌then◌else◌, List, [], ◌∷◌, ◌++◌, Option, Some, None}
use Rattle.std.specs.List.{list_any}
use Rattle.ap_fields.specs.Bytes.{over}
use Rattle.ap_shell.specs.Files.{Text, FileMap}
use Rattle.ap_shell.specs.Places.{bytes_or_none, file_at, mode_or, with_file}
use Rattle.ap_shell.specs.Names.{command_of, is_special, is_utility, keeps}
use Rattle.ap_shell.specs.Commands.{effect}
use Rattle.ap_shell.specs.Steps.{Action, Gives, status_now, ◌then_do◌}
use Rattle.ap_shell.specs.Words.{as_one, listed}
use Rattle.ap_shell.specs.Redirecting.{Redirects, plainly, redirected}
use Rattle.ap_shell.specs.declared.done.Done.{Done}
use Rattle.ap_shell.specs.declared.map.HostFile.{HostFile}
use Rattle.ap_shell.specs.declared.names.Command.{Command}
use Rattle.ap_shell.specs.declared.types.Env.{Env}
use Rattle.ap_shell.specs.declared.types.Host.{Host}
use Rattle.ap_shell.specs.declared.types.Outcome.{Outcome}
use Rattle.ap_shell.specs.declared.types.Outcome.TheVariants.{Exits}
use Rattle.ap_shell.specs.declared.state.State.{State}
use Rattle.ap_shell.specs.declared.state.Variable.{Variable}
use Rattle.ap_shell.specs.declared.state.Routes.{Routes}
use Rattle.ap_shell.specs.declared.state.Sink.{Sink}
use Rattle.ap_shell.specs.declared.state.Sink.TheVariants.{Enclosing, Into, Nowhere}

-- ---- assignments, from left to right

pub record Assigns : Type 0 where
  pub name : Text
  pub value : Gives (List Text)

abbrev pub name_to : Text → List Text × State → State
name_to name r = record r.1 { vars = r.1.vars ++ (record { name = name; value = as_one r.0 }) ∷ [] }

abbrev pub assigned : List Assigns → State → State
assigned [] s = s
assigned (a ∷ more) s = assigned more (name_to a.name (a.value s))

-- ---- what is printed

-- from the file's start, without cutting the rest
abbrev pub overwritten : Text → Option HostFile → Text → FileMap → FileMap
overwritten name file text files =
    with_file name (record { bytes = over (bytes_or_none file) text; mode = mode_or file 384 }) files

abbrev pub delivered : Sink → Text → Host → Host
delivered sink [] host = host
delivered Enclosing (b ∷ t) host = record { files = host.files; out = host.out ++ b ∷ t }
delivered (Into name) (b ∷ t) host = record {
  files = overwritten name (file_at name host.files) (b ∷ t) host.files;
  out = host.out;
}
delivered Nowhere (b ∷ t) host = host

abbrev pub left_by : Routes → Done × FileMap → Action
left_by routes r s = (
  r.0.outcome,
  record s {
    host = delivered routes.one r.0.printed (record { files = r.1; out = s.host.out });
    status = r.0.status;
  },
)

-- ---- the command

-- the count of utility calls, which stays at the last number of 64 bits
abbrev pub counted : State → ℕ
counted s = min (s.calls + 1) (2 ^ 64 - 1)

abbrev pub is_failing : Env → ℕ → Bool
is_failing env n = list_any (λ k. k == n) env.fails

abbrev pub called_if : Bool → Env → Bool → Command → List Text → Routes → Action
called_if fails env inside k ws routes s =
    if fails then status_now 1 s else left_by routes (effect env inside k ws s.status s.host.files) s

abbrev pub called : Env → Bool → Option Command → List Text → Routes → Action
called env inside None ws routes s = status_now 127 s
called env inside (Some k) ws routes s =
    if is_utility k then called_if (is_failing env (counted s)) env inside k ws routes (record s { calls = counted s })
    else left_by routes (effect env inside k ws s.status s.host.files) s

abbrev pub with_vars : List Variable → Option Outcome × State → Option Outcome × State
with_vars vars r = (r.0, record r.1 { vars = vars })

-- after the assignments; `before` are the variables before them. Without words the status is that of the last `$(..)`
abbrev pub obeyed : Env → Bool → List Variable → List Text → Routes → Action
obeyed env inside before [] routes s = status_now s.inner s
obeyed env inside before (name ∷ ws) routes s =
    if keeps (command_of inside name) then called env inside (command_of inside name) ws routes s
    else with_vars before (called env inside (command_of inside name) ws routes s)

-- after a redirection that failed
abbrev pub failed : Bool → List Text → Action
failed inside [] s = status_now 1 s
failed inside (name ∷ ws) s =
    if not inside && is_special (command_of inside name) then (Some (Exits 1), s) else status_now 1 s

-- after the redirections
abbrev pub performed : Env → Bool → List Assigns → List Text → Option Routes → Action
performed env inside assigns ws None s = failed inside ws s
performed env inside assigns ws (Some routes) s = obeyed env inside s.vars ws routes (assigned assigns s)

abbrev pub simply : Env → List (Gives (List Text)) → List Redirects → List Assigns → Bool → Action
simply env words redirs assigns inside s =
    listed words (record s { inner = 0 }) then_do (λ ws s1.
    redirected redirs plainly s1 then_do (λ o s2.
    performed env inside assigns ws o s2))
