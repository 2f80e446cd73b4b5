-- A file that the readings of a trial take. The clauses of private functions alone speak of it.
use Rattle.std.specs.Prelude.{ℕ, List, Result, Ok, Err}
use Rattle.ap_fields.specs.Readings.{MemoryImage}
use Rattle.ap_elf.specs.declared.machine.Machine.{Machine}
use Rattle.ap_elf.specs.Machines.{IsPage, number_of}
use Rattle.ap_loader.specs.ApeReading.{ape_reading}
use Rattle.ap_pe.specs.PeReading.{pe_reading}
use Rattle.ap_mach.specs.MachReading.{mach_reading}
use Rattle.ap_assim.specs.Assimilated.{BecomesMach}
use Rattle.ap_assim.specs.declared.fault.AssimFault.TheVariants.{NotApe, NoStatement}

abbrev pub IsRead : {Fault : Type 0} → Result MemoryImage Fault → Type 0
IsRead (Ok image) = Unit {0}
IsRead (Err fault) = ⊥

-- a file becomes a Mach-O file, which the Mach-O reading doesn't refuse
pub record IsReadAsMach (file : List ℕ) : Type 0 where
  pub is_ape : BecomesMach file (Err NotApe) → ⊥
  pub has_statement : BecomesMach file (Err NoStatement) → ⊥
  pub reads : (bytes : List ℕ) → BecomesMach file (Ok bytes) → IsRead (mach_reading bytes)

pub record IsReadByAll (file : List ℕ) : Type 0 where
  pub pe : IsRead (pe_reading file)
  pub mach : IsReadAsMach file
  pub ape : (machine : Machine) (page : ℕ) → IsPage machine page → IsRead (ape_reading (number_of machine) page file)
