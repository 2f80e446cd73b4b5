-- The commands that a script may name (POSIX.1, Shell and Utilities).
use Rattle.std.specs.Prelude.{◌||◌, ◌&&◌, Bool, true, false, if◌then◌else◌, List, [], ◌∷◌, codes, Option, Some, None, is_some}
use Rattle.std.specs.Str.{bytes_eq}
use Rattle.ap_shell.specs.Files.{Text}
use Rattle.ap_shell.specs.declared.names.Command.{Command}
use Rattle.ap_shell.specs.declared.names.Command.TheVariants as c

abbrev pub Names : Type 0
Names = List (Text × Command)

abbrev pub utilities : Names
utilities =
    (codes "uname", c.Uname) ∷ (codes "cp", c.Cp) ∷ (codes "chmod", c.Chmod) ∷ (codes "dd", c.Dd) ∷ (codes "printf", c.Printf) ∷ []

abbrev pub others : Names
others =
    (codes "[", c.Test) ∷ (codes "command", c.Find) ∷ (codes ":", c.Colon) ∷ (codes "true", c.True) ∷ (codes "false", c.False) ∷ []

abbrev pub ends : Names
ends = (codes "exit", c.Exit) ∷ (codes "exec", c.Exec) ∷ []

abbrev pub named : Text → Names → Option Command
named name [] = None
named name (n ∷ ns) = if bytes_eq name n.0 then Some n.1 else named name ns

abbrev pub first_of : Option Command → Option Command → Option Command
first_of None other = other
first_of (Some k) other = Some k

-- within `$(..)`, `exit` and `exec` are no commands
abbrev pub command_of : Bool → Text → Option Command
command_of inside name =
    first_of (named name utilities) (first_of (named name others) (if inside then None else named name ends))

abbrev pub is_utility : Command → Bool
is_utility c.Uname = true
is_utility c.Cp = true
is_utility c.Chmod = true
is_utility c.Dd = true
is_utility c.Printf = true
is_utility _ = false

-- whether `command -v` finds the name: `ape` where it is there
abbrev pub is_command : Bool → Bool → Text → Bool
is_command inside ape name = is_some (command_of inside name) || (ape && bytes_eq name (codes "ape"))

-- the commands whose assignments stay (POSIX.1, 2.14, special built-in utilities)
abbrev pub keeps : Option Command → Bool
keeps (Some c.Colon) = true
keeps (Some c.Exec) = true
keeps _ = false

-- the commands that end the script where a redirection of theirs fails (POSIX.1, 2.8.1)
abbrev pub is_special : Option Command → Bool
is_special (Some c.Colon) = true
is_special (Some c.Exec) = true
is_special (Some c.Exit) = true
is_special _ = false
