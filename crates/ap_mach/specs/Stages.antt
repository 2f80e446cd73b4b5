-- The answers of the calls that read parts of a file.
use Rattle.std.specs.Prelude.{ℕ, List, length, if◌then◌else◌, Option, Some, None, Result, Ok, Err, ◌≤◌}
use Rattle.ap_fields.specs.FirstFault.{first_fault}
use Rattle.ap_mach.specs.declared.constants.TheConstants.{MOST_COMMANDS}
use Rattle.ap_mach.specs.declared.types.MachHeader.{MachHeader}
use Rattle.ap_mach.specs.declared.types.Command.{Command}
use Rattle.ap_mach.specs.declared.fault.MachFault.{MachFault}
use Rattle.ap_mach.specs.Format.{header_of, commands_end, command_by}
use Rattle.ap_mach.specs.MachReading.{header_rules, is_whole}

-- the command at a place, if its size may stand there
abbrev pub command_result : List ℕ → ℕ → ℕ → Option Command
command_result b at end = if is_whole end (command_by at b at) then Some (command_by at b at) else None

abbrev pub header_unless : Option MachFault → MachHeader → Result MachHeader MachFault
header_unless None h = Ok h
header_unless (Some fault) h = Err fault

-- the header of a file, or the first refusal of it
abbrev pub header_result : List ℕ → Result MachHeader MachFault
header_result b = header_unless (first_fault (header_rules (length b) (header_of b))) (header_of b)

-- what a header meets that isn't refused, in a file of so many bytes
pub record IsTaken (size : ℕ) (h : MachHeader) : Type 0 where
  pub few : h.count ≤ MOST_COMMANDS
  pub fits : commands_end h ≤ size
