-- What each command does with its words, after a command with this status.
use Rattle.std.specs.Prelude.{ℕ, Bool, List}
use Rattle.ap_shell.specs.Files.{Text}
use Rattle.ap_shell.specs.Ends.{Leaves, plain}
use Rattle.ap_shell.specs.FileCommands.{cp, chmod}
use Rattle.ap_shell.specs.DdCommand.{dd}
use Rattle.ap_shell.specs.TextCommands.{command_v, printf, test_status, uname}
use Rattle.ap_shell.specs.EndCommands.{exec, exit}
use Rattle.ap_shell.specs.declared.names.Command.{Command}
use Rattle.ap_shell.specs.declared.names.Command.TheVariants as c
use Rattle.ap_shell.specs.declared.types.Env.{Env}

abbrev pub effect : Env → Bool → Command → List Text → ℕ → Leaves
effect env inside c.Uname words last files = (uname env words, files)
effect env inside c.Cp words last files = cp words files
effect env inside c.Chmod words last files = chmod words files
effect env inside c.Dd words last files = dd words files
effect env inside c.Printf words last files = (printf words, files)
effect env inside c.Test words last files = (plain (test_status words), files)
effect env inside c.Find words last files = (command_v inside env.ape words, files)
effect env inside c.Colon words last files = (plain 0, files)
effect env inside c.True words last files = (plain 0, files)
effect env inside c.False words last files = (plain 1, files)
effect env inside c.Exit words last files = (exit words last, files)
effect env inside c.Exec words last files = (exec env.ape words files, files)
