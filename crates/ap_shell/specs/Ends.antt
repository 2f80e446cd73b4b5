-- How a command ends.
use Rattle.std.specs.Prelude.{ℕ, Bool, if◌then◌else◌, [], Some, None}
use Rattle.ap_shell.specs.Files.{Text, FileMap}
use Rattle.ap_shell.specs.declared.done.Done.{Done}
use Rattle.ap_shell.specs.declared.types.Outcome.{Outcome}

-- with a status alone
abbrev pub plain : ℕ → Done
plain status = record { status = status; printed = []; outcome = None }

-- with status 0, and a text on output 1
abbrev pub printing : Text → Done
printing text = record { status = 0; printed = text; outcome = None }

-- with the script's end
abbrev pub stopping : Outcome → Done
stopping outcome = record { status = 0; printed = []; outcome = Some outcome }

-- with status 0 where it holds, and else 1
abbrev pub holding : Bool → ℕ
holding holds = if holds then 0 else 1

-- and the files that it leaves
abbrev pub Leaves : Type 0
Leaves = FileMap → Done × FileMap
