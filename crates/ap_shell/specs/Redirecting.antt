-- Redirections (POSIX.1, 2.7), from left to right.
use Rattle.std.specs.Prelude.{ℕ, ◌==◌, if◌then◌else◌, List, [], ◌∷◌, Option, Some, None}
use Rattle.ap_shell.specs.Files.{Text, FileMap}
use Rattle.ap_shell.specs.Places.{file_at, is_null, mode_or, with_file}
use Rattle.ap_shell.specs.Steps.{Gives}
use Rattle.ap_shell.specs.Words.{as_one}
use Rattle.ap_shell.specs.declared.map.HostFile.{HostFile}
use Rattle.ap_shell.specs.declared.state.State.{State}
use Rattle.ap_shell.specs.declared.state.Routes.{Routes}
use Rattle.ap_shell.specs.declared.state.Sink.{Sink}
use Rattle.ap_shell.specs.declared.state.Sink.TheVariants.{Enclosing, Into, Nowhere}

-- where outputs 1 and 2 go then, or none after a failure
abbrev pub Redirects : Type 0
Redirects = Routes → Gives (Option Routes)

-- the same, by the number that is redirected
abbrev pub Opens : Type 0
Opens = ℕ → Redirects

abbrev pub sink_of : Text → Sink
sink_of name = if is_null name then Nowhere else Into name

abbrev pub routed : ℕ → Sink → Routes → Routes
routed n sink routes = if n == 1 then record { one = sink; two = routes.two }
    else (if n == 2 then record { one = routes.one; two = sink } else routes)

abbrev pub source_of : ℕ → Routes → Sink
source_of n routes = if n == 1 then routes.one else routes.two

abbrev pub opened : ℕ → Text → Routes → Option Routes
opened n name routes = Some (routed n (sink_of name) routes)

abbrev pub with_files : (FileMap → FileMap) → State → State
with_files f s = record s { host = record { files = f s.host.files; out = s.host.out } }

-- ---- `>` makes or empties the file

abbrev pub emptied : Text → FileMap → FileMap
emptied name files = with_file name (record { bytes = []; mode = mode_or (file_at name files) 384 }) files

abbrev pub opens_emptied : ℕ → List Text → Routes → Gives (Option Routes)
opens_emptied n w routes s = (opened n (as_one w) routes, with_files (emptied (as_one w)) s)

-- ---- `<>` makes it where it is missing

abbrev pub ensured : Option HostFile → Text → FileMap → FileMap
ensured (Some f) name files = files
ensured None name files = with_file name (record { bytes = []; mode = 384 }) files

abbrev pub opens_ensured : ℕ → List Text → Routes → Gives (Option Routes)
opens_ensured n w routes s = (
  opened n (as_one w) routes,
  with_files (ensured (file_at (as_one w) s.host.files) (as_one w)) s,
)

-- ---- `<` fails where it is missing

abbrev pub only_there : Option HostFile → Routes → Gives (Option Routes)
only_there (Some f) routes s = (Some routes, s)
only_there None routes s = (None, s)

abbrev pub opens_there : List Text → Routes → Gives (Option Routes)
opens_there w routes s = only_there (file_at (as_one w) s.host.files) routes s

-- ---- all of a command

-- goes on with the routes, unless a redirection failed
abbrev pub unless_failed : Option Routes × State → Redirects → Option Routes × State
unless_failed (None, s) next = (None, s)
unless_failed (Some q, s) next = next q s

abbrev pub redirected : List Redirects → Redirects
redirected [] routes s = (Some routes, s)
redirected (r ∷ rs) routes s = unless_failed (r routes s) (redirected rs)

-- where the outputs go without a redirection: output 2 is dropped
abbrev pub plainly : Routes
plainly = record { one = Enclosing; two = Nowhere }
