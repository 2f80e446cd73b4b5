-- A trial: two inputs of one number, the file that they are linked into, and what seven readings find in it.
use Rattle.std.specs.Prelude.{◌≡◌, ℕ, ◌+◌, false, List, length, Some, Result, Ok, Err}
use Rattle.ap_fields.specs.Readings.{MemoryImage}
use Rattle.ap_elf.specs.declared.types.Entry.{Entry}
use Rattle.ap_elf.specs.declared.machine.Machine.{Machine}
use Rattle.ap_elf.specs.declared.machine.Machine.TheVariants.{X64, A64}
use Rattle.ap_elf.specs.Machines.{granule_of, number_of}
use Rattle.ap_elf.specs.ElfReading.{elf_reading}
use Rattle.ap_check.specs.declared.options.Options.{Options}
use Rattle.ap_loader.specs.ApeReading.{ape_reading}
use Rattle.ap_pe.specs.PeReading.{pe_reading}
use Rattle.ap_mach.specs.MachReading.{mach_reading}
use Rattle.ap_assim.specs.Assimilated.{BecomesElf, BecomesMach}
use Rattle.ap_link.specs.LinkedClaims.{linked_of}
use Rattle.ap_trial.specs.TrialInputs.{trial_input, trial_loads}
use Rattle.ap_trial.specs.Folds.{fold_over, folded_all}
use Rattle.ap_trial.specs.Summaries.{summary_of}
use Rattle.ap_trial.specs.declared.numbers.SummaryNumbers.{SummaryNumbers}
use Rattle.ap_trial.specs.declared.numbers.ReadingFolds.{ReadingFolds}

-- Linux 1, FreeBSD 2, NetBSD 4, Windows 8 and macOS 16, and no magic for debuggers
abbrev pub all_systems : Options
all_systems = record { systems = record { 0 = 1 + 2 + 4 + 8 + 16 }; debug = false }

-- the linked file of the inputs of a number
unfoldable pub trial_file : ℕ → ℕ → List ℕ
trial_file number pages = linked_of all_systems (trial_input number pages X64) (Some (trial_input number pages A64))

-- a reading refuses nothing, and what it finds at the addresses of loads has this fold
abbrev pub HasFold : {Fault : Type 0} → List Entry → ℕ → Result MemoryImage Fault → Type 0
HasFold loads h (Ok image) = h ≡ fold_over image.cell 0 loads
HasFold loads h (Err fault) = ⊥

-- so does what the ELF reading finds in the ELF file for a machine that a file becomes
abbrev pub HasElfFold : List Entry → ℕ → Machine → ℕ → List ℕ → Type 0
HasElfFold loads h machine page file = (bytes : List ℕ) × BecomesElf (number_of machine) file (Ok bytes) × HasFold loads h (elf_reading (number_of machine) page bytes)

-- and the Mach-O reading in the Mach-O file
abbrev pub HasMachFold : List Entry → ℕ → List ℕ → Type 0
HasMachFold loads h file = (bytes : List ℕ) × BecomesMach file (Ok bytes) × HasFold loads h (mach_reading bytes)

-- the folds of what the readings find in a file at the addresses of loads, x64 and a64
pub record AreFolds (x64 a64 : List Entry) (file : List ℕ) (f : ReadingFolds) : Type 0 where
  pub pe : HasFold x64 f.pe (pe_reading file)
  pub mach : HasMachFold x64 f.mach file
  pub elf_x64 : HasElfFold x64 f.elf_x64 X64 4096 file
  pub ape_x64 : HasFold x64 f.ape_x64 (ape_reading (number_of X64) 4096 file)
  pub elf_a64 : HasElfFold a64 f.elf_a64 A64 16384 file
  pub ape_a64_4096 : HasFold a64 f.ape_a64_4096 (ape_reading (number_of A64) 4096 file)
  pub ape_a64_16384 : HasFold a64 f.ape_a64_16384 (ape_reading (number_of A64) 16384 file)

-- the numbers of a trial: the lengths of the inputs and of the linked file, the fold of its bytes, and the folds of the readings
pub record AreNumbers (number pages : ℕ) (n : SummaryNumbers) : Type 0 where
  pub x64 : n.x64 ≡ length (trial_input number pages X64)
  pub a64 : n.a64 ≡ length (trial_input number pages A64)
  pub linked : n.linked ≡ length (trial_file number pages)
  pub fold : n.fold ≡ folded_all 0 (trial_file number pages)
  pub folds : AreFolds (trial_loads (granule_of X64) pages) (trial_loads (granule_of A64) pages) (trial_file number pages) n.folds

-- the text is the summary of a trial
abbrev pub IsTrial : ℕ → ℕ → List ℕ → Type 0
IsTrial number pages text = (n : SummaryNumbers) × AreNumbers number pages n × (text ≡ summary_of n)
