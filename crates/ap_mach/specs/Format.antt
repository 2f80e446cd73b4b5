-- The fields of a Mach-O file of 64 bits, each once, by which headers are read and written (loader.h, `mach_header_64`,
-- `load_command`, `segment_command_64`, `thread_command`), and what is looked at of them.
use Rattle.std.specs.Prelude.{ℕ, zero, suc, ◌+◌, List, [], ◌∷◌, take}
use Rattle.ap_fields.specs.Structures.{Field, value_at}
use Rattle.ap_mach.specs.declared.constants.TheConstants.{HEADER_SIZE}
use Rattle.ap_mach.specs.declared.types.MachHeader.{MachHeader}
use Rattle.ap_mach.specs.declared.types.Command.{Command}
use Rattle.ap_mach.specs.declared.types.SegmentCommand.{SegmentCommand}
use Rattle.ap_mach.specs.declared.types.ThreadCommand.{ThreadCommand}
use Rattle.ap_mach.specs.declared.types.CommandParts.{CommandParts}

-- of the header
abbrev pub magic : Field
magic = (0, 4)

abbrev pub cpu_type : Field
cpu_type = (4, 4)

abbrev pub cpu_subtype : Field
cpu_subtype = (8, 4)

abbrev pub file_type : Field
file_type = (12, 4)

abbrev pub command_count : Field
command_count = (16, 4)

abbrev pub commands_size : Field
commands_size = (20, 4)

abbrev pub header_flags : Field
header_flags = (24, 4)

-- of each command
abbrev pub command_kind : Field
command_kind = (0, 4)

abbrev pub command_size : Field
command_size = (4, 4)

-- of a segment command; of its name, which may have 16 bytes, the first eight
abbrev pub segment_name : Field
segment_name = (8, 8)

abbrev pub memory_address : Field
memory_address = (24, 8)

abbrev pub memory_size : Field
memory_size = (32, 8)

abbrev pub file_offset : Field
file_offset = (40, 8)

abbrev pub file_size : Field
file_size = (48, 8)

abbrev pub most_protection : Field
most_protection = (56, 4)

abbrev pub first_protection : Field
first_protection = (60, 4)

-- of a thread command; its registers, of 8 bytes each, stand from 16 on, and this is register 16, counted from 0
abbrev pub state_flavor : Field
state_flavor = (8, 4)

abbrev pub state_count : Field
state_count = (12, 4)

abbrev pub start_register : Field
start_register = (144, 8)

-- what is looked at of the header
unfoldable pub header_of : List ℕ → MachHeader
header_of b = record {
  magic = value_at magic 0 b;
  cpu = value_at cpu_type 0 b;
  kind = value_at file_type 0 b;
  count = value_at command_count 0 b;
  size = value_at commands_size 0 b;
}

-- where the commands end
abbrev pub commands_end : MachHeader → ℕ
commands_end h = HEADER_SIZE + h.size

-- the command at a place, whose bytes stand at the place `from` of a list
unfoldable pub command_by : ℕ → List ℕ → ℕ → Command
command_by at b from = record { kind = value_at command_kind from b; at = at; size = value_at command_size from b }

unfoldable pub segment_at : List ℕ → ℕ → SegmentCommand
segment_at b at = record {
  vmaddr = value_at memory_address at b;
  vmsize = value_at memory_size at b;
  fileoff = value_at file_offset at b;
  filesize = value_at file_size at b;
  initprot = value_at first_protection at b;
}

unfoldable pub thread_at : List ℕ → ℕ → ThreadCommand
thread_at b at = record {
  flavor = value_at state_flavor at b;
  count = value_at state_count at b;
  start = value_at start_register at b;
}

-- a command with its fields
unfoldable pub parts_by : ℕ → List ℕ → ℕ → CommandParts
parts_by at b from = record { front = command_by at b from; segment = segment_at b from; thread = thread_at b from }

abbrev pub parts_at : List ℕ → ℕ → CommandParts
parts_at b at = parts_by at b at

-- n commands, one behind the other from a place on
abbrev pub parts_from : List ℕ → ℕ → ℕ → List CommandParts
parts_from b at zero = []
parts_from b at (suc n) = parts_at b at ∷ parts_from b (at + (parts_at b at).front.size) n

-- the header and the commands of a file, without what stands behind them
abbrev pub front_of : List ℕ → List ℕ
front_of b = take (commands_end (header_of b)) b

-- the commands of a file: in its front alone, so that a field which would lie behind the commands isn't looked at
abbrev pub parts_in : List ℕ → List CommandParts
parts_in b = parts_from (front_of b) HEADER_SIZE (header_of b).count
