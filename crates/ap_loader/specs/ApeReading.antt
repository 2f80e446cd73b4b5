-- The APE reading: what an Actually Portable Executable file puts into memory, for a machine and a page size (APE
-- specification). It is the ELF reading of the file with the header of the statement that is taken in place of the file's
-- first bytes; what memory shows are the file's own bytes.
use Rattle.std.specs.Prelude.{ℕ, ◌<◌, ◌⊎◌, if◌then◌else◌, List, length, Option, Some, None, Result, Ok, Err}
use Rattle.ap_fields.specs.Bytes.{over}
use Rattle.ap_fields.specs.Readings.{MemoryImage, bytes_in}
use Rattle.ap_fields.specs.declared.sizes.TheConstants.{WINDOW}
use Rattle.ap_elf.specs.declared.fault.ElfFault.{ElfFault}
use Rattle.ap_elf.specs.Fields.{header_of, entries_of}
use Rattle.ap_elf.specs.ElfReading.{elf_reading_by}
use Rattle.ap_image.specs.Plans.{Mapping}
use Rattle.ap_elfmap.specs.ElfPlans as elf
use Rattle.ap_elfmap.specs.ElfPlans.{elf_plan_by}
use Rattle.ap_loader.specs.declared.fault.ApeFault.{ApeFault}
use Rattle.ap_loader.specs.declared.fault.ApeFault.TheVariants.{NoMagic, NoStatement, Elf}
use Rattle.ap_loader.specs.Embedded.{has_magic, taken}

-- what the ELF reading says, as the APE reading says it
abbrev pub as_ape : {T : Type 0} → Result T ElfFault → Result T ApeFault
as_ape (Ok x) = Ok x
as_ape (Err fault) = Err (Elf fault)

-- the ELF reading with another header
abbrev pub reading_over : ℕ → ℕ → List ℕ → List ℕ → Result MemoryImage ElfFault
reading_over machine page file header =
    elf_reading_by machine page (length file) (header_of (over file header)) (entries_of (over file header)) (bytes_in file)

-- by the statement that is taken
abbrev pub reading_by : ℕ → ℕ → List ℕ → Option (ℕ × List ℕ) → Result MemoryImage ApeFault
reading_by machine page file None = Err NoStatement
reading_by machine page file (Some (at, header)) = as_ape (reading_over machine page file header)

-- the reading of a file
abbrev pub ape_reading : ℕ → ℕ → List ℕ → Result MemoryImage ApeFault
ape_reading machine page file = if has_magic file then reading_by machine page file (taken machine file) else Err NoMagic

-- the plan by which the file is mapped
abbrev pub plan_over : ℕ → ℕ → List ℕ → List ℕ → Result Mapping ElfFault
plan_over machine page file header =
    elf_plan_by machine page (length file) (header_of (over file header)) (entries_of (over file header))

abbrev pub plan_by : ℕ → ℕ → List ℕ → Option (ℕ × List ℕ) → Result Mapping ApeFault
plan_by machine page file None = Err NoStatement
plan_by machine page file (Some (at, header)) = as_ape (plan_over machine page file header)

abbrev pub ape_plan : ℕ → ℕ → List ℕ → Result Mapping ApeFault
ape_plan machine page file = if has_magic file then plan_by machine page file (taken machine file) else Err NoMagic

-- the header that takes the place of the file's first bytes, or why there is none
abbrev pub header_by : Option (ℕ × List ℕ) → Result (List ℕ) ApeFault
header_by None = Err NoStatement
header_by (Some (at, header)) = Ok header

abbrev pub header_for : ℕ → List ℕ → Result (List ℕ) ApeFault
header_for machine file = if has_magic file then header_by (taken machine file) else Err NoMagic

-- the places that the reading looks at: the window, and what the ELF reading with the header looks at
abbrev pub LooksBy : List ℕ → Option (ℕ × List ℕ) → ℕ → Type 0
LooksBy file None k = ⊥
LooksBy file (Some (at, header)) k = elf.Looks (over file header) k

abbrev pub Looks : ℕ → List ℕ → ℕ → Type 0
Looks machine file k = (k < WINDOW) ⊎ LooksBy file (taken machine file) k
