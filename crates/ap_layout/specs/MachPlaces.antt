-- Where the Mach-O header stands, and how long it is: the file's header, a segment command for the addresses below the loads and
-- one for each load, and the thread command (loader.h, "mach_header_64", "segment_command_64" and "thread_command").
use Rattle.std.specs.Prelude.{ℕ, ◌+◌, ◌*◌, if◌then◌else◌, List, length, Option, Some, None}
use Rattle.ap_fields.specs.declared.sizes.TheConstants.{WINDOW}
use Rattle.ap_check.specs.declared.options.Options.{Options}
use Rattle.ap_check.specs.Options.{for_mac}
use Rattle.ap_check.specs.Inputs.{Taken}
use Rattle.ap_check.specs.Windows.{x64_of}
use Rattle.ap_layout.specs.declared.sizes.TheConstants.{MACH_HEADER, SEGMENT_COMMAND, THREAD_COMMAND}

-- the input that has a Mach-O header: where macOS was chosen that for x86-64, if there is one
abbrev pub mach_input : Options → List Taken → Option Taken
mach_input options inputs = if for_mac options then x64_of inputs else None

-- the header stands in the block's second half
abbrev pub place_of : Option Taken → ℕ
place_of None = 0
place_of (Some e) = WINDOW

abbrev pub length_of : Option Taken → ℕ
length_of None = 0
length_of (Some e) = MACH_HEADER + SEGMENT_COMMAND * (1 + length e.loads) + THREAD_COMMAND

-- its place and its length, 0 where there is none
abbrev pub mach_start : Options → List Taken → ℕ
mach_start options inputs = place_of (mach_input options inputs)

abbrev pub mach_length : Options → List Taken → ℕ
mach_length options inputs = length_of (mach_input options inputs)
