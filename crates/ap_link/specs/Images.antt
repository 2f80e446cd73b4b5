-- What readings find in a linked file: the image of an input that was linked into it.
use Rattle.std.specs.Prelude.{ℕ, List}
use Rattle.ap_fields.specs.Bytes.{over}
use Rattle.ap_elf.specs.declared.types.Entry.{Entry}
use Rattle.ap_elf.specs.Fields.{loads_in}
use Rattle.ap_elf.specs.ElfReading.{elf_reading}
use Rattle.ap_elf.specs.Machines.{granule_of, number_of}
use Rattle.ap_check.specs.Inputs.{Taken}
use Rattle.ap_layout.specs.declared.layout.Area.{Area}
use Rattle.ap_script.specs.Tables.{embedded_bytes}
use Rattle.ap_elf.specs.Machines.{IsPage}
use Rattle.ap_loader.specs.ApeReading.{reading_over}
use Rattle.ap_link.specs.Same.{Same, nothing_else}
use Rattle.ap_link.specs.LinkedIn.{IsLinkedIn}

-- the ELF reading of the file with the input's header over its first bytes, as the script leaves it
abbrev pub ElfIsSame : Type 0
ElfIsSame = (e : Taken) (entries : List Entry) (byte : ℕ → ℕ) (areas : List Area) (at : ℕ) (file : List ℕ) (page : ℕ)
    → IsLinkedIn e entries byte areas at file → IsPage e.machine page
    → Same (granule_of e.machine) byte (loads_in entries) e.entry nothing_else (elf_reading (number_of e.machine) page (over file (embedded_bytes e at)))

-- the reading of the file itself with the input's header, as the APE reading has it from a statement
abbrev pub ApeIsSame : Type 0
ApeIsSame = (e : Taken) (entries : List Entry) (byte : ℕ → ℕ) (areas : List Area) (at : ℕ) (file : List ℕ) (page : ℕ)
    → IsLinkedIn e entries byte areas at file → IsPage e.machine page
    → Same (granule_of e.machine) byte (loads_in entries) e.entry nothing_else (reading_over (number_of e.machine) page file (embedded_bytes e at))
