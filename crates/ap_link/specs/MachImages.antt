-- What the Mach-O reading finds in a linked file whose first bytes the Mach-O header stands over, as the script's `dd` leaves it: the
-- image of the input whose header it is.
use Rattle.std.specs.Prelude.{◌≡◌, ℕ, ◌^◌, ◌<◌, List}
use Rattle.ap_fields.specs.Bytes.{over}
use Rattle.ap_elf.specs.declared.types.Entry.{Entry}
use Rattle.ap_elf.specs.Fields.{loads_in}
use Rattle.ap_elf.specs.declared.machine.Machine.TheVariants.{X64}
use Rattle.ap_check.specs.Inputs.{Taken}
use Rattle.ap_layout.specs.declared.layout.Area.{Area}
use Rattle.ap_mach.specs.declared.constants.TheConstants.{SEGMENT_ALIGNMENT}
use Rattle.ap_mach.specs.Written.{mach_headers}
use Rattle.ap_mach.specs.MachReading.{mach_reading}
use Rattle.ap_link.specs.Same.{Same, nothing_else}
use Rattle.ap_link.specs.LinkedIn.{IsLinkedIn}

abbrev pub MachIsSame : Type 0
MachIsSame = (e : Taken) (entries : List Entry) (byte : ℕ → ℕ) (areas : List Area) (at start : ℕ) (file : List ℕ)
    → IsLinkedIn e entries byte areas at file → e.machine ≡ X64 → start < 2 ^ 64
    → Same SEGMENT_ALIGNMENT byte (loads_in entries) start nothing_else (mach_reading (over file (mach_headers start e.loads areas)))
