-- What `assimilate` makes of a file.
use Rattle.std.specs.Prelude.{ℕ, List, Result, Ok, Err}
use Rattle.ap_elf.specs.declared.machine.Machine.{Machine}
use Rattle.ap_elf.specs.Machines.{number_of}
use Rattle.ap_assim.specs.declared.fault.AssimFault.{AssimFault}
use Rattle.ap_assim.specs.declared.fault.AssimFault.TheVariants as assim
use Rattle.ap_assim.specs.Assimilated.{BecomesElf, BecomesMach}
use Rattle.ap_words.specs.declared.command.Form.{Form}
use Rattle.ap_words.specs.declared.command.Form.TheVariants.{Pe, Mach, Elf}
use Rattle.ap_run.specs.declared.end.ReadingFault.TheVariants as fault
use Rattle.ap_run.specs.Whole.{Sized, Telling}

-- what a file becomes as an ELF file for the machine, or as a Mach-O file
abbrev pub Becomes : Form → Machine → List ℕ → Result (List ℕ) AssimFault → Type 0
Becomes Elf machine file answer = BecomesElf (number_of machine) file answer
Becomes Mach machine file answer = BecomesMach file answer
Becomes Pe machine file answer = ⊥

-- the same, with the fault that a run tells
abbrev pub BecomesOr : Form → Machine → Telling
BecomesOr form machine file (Ok bytes) = Becomes form machine file (Ok bytes)
BecomesOr form machine file (Err fault.NotApe) = Becomes form machine file (Err assim.NotApe)
BecomesOr form machine file (Err fault.NoStatement) = Becomes form machine file (Err assim.NoStatement)
BecomesOr form machine file (Err _) = ⊥

-- and of a file of any length
abbrev pub Assimilated : Form → Machine → Telling
Assimilated form machine = Sized (BecomesOr form machine)
