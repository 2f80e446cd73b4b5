-- What the script of a linked file does.
use Rattle.std.specs.Prelude.{◌≡◌, ◌≢◌, ℕ, List}
use Rattle.ap_check.specs.declared.options.Options.{Options}
use Rattle.ap_check.specs.Inputs.{Taken}
use Rattle.ap_layout.specs.Positions.{Positions}
use Rattle.ap_shparse.specs.declared.tree.Nul.{Nul}
use Rattle.ap_shell.specs.Places.{host_file}
use Rattle.ap_shell.specs.Runs.{Ends}
use Rattle.ap_shell.specs.declared.types.Env.{Env}
use Rattle.ap_shell.specs.declared.types.Host.{Host}
use Rattle.ap_dispatch.specs.Dispatch.{IsReady, copy_name, dispatch_for}

-- The file is a script, whether a shell keeps NUL bytes or drops them, and ends as the dispatch table says, wherever a shell
-- meets what the table supposes. The table changes no file of the host but the copy.
pub record Dispatches (options : Options) (inputs : List Taken) (l : Positions) (file : List ℕ) : Type 0 where
  pub ends : (nul : Nul) (env : Env) (host : Host) → IsReady env host file
      → Ends nul file env host (dispatch_for options inputs l file env host).0 (dispatch_for options inputs l file env host).1
  pub others : (env : Env) (host : Host) (name : List ℕ) → name ≢ copy_name env
      → host_file name (dispatch_for options inputs l file env host).1.files ≡ host_file name host.files
