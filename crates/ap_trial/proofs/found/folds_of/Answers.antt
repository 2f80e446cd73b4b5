use Rattle.std.proofs.Common.{inl, inr, refl, subst, List}
use Rattle.ap_elf.specs.declared.types.Entry.{Entry}
use Rattle.ap_elf.specs.declared.machine.Machine.TheVariants.{X64, A64}
use Rattle.ap_elf.specs.Machines.{number_of}
use Rattle.ap_loader.specs.ApeReading.{ape_reading}
use Rattle.ap_pe.specs.PeReading.{pe_reading}
use Rattle.ap_trial.specs.Trials.{HasElfFold, HasFold, HasMachFold}
use Rattle.ap_trial.proofs.found.folds_of.Goals as goal

pub fold_as_elf-requires-clause-read : goal.fold_as_elf-requires-clause-read
fold_as_elf-requires-clause-read c = c.requires.read.ape X64 4096 refl

pub fold_as_ape-requires-clause-read : goal.fold_as_ape-requires-clause-read
fold_as_ape-requires-clause-read c = c.requires.read.ape X64 4096 refl

pub fold_as_elf-requires-2-clause-read : goal.fold_as_elf-requires-2-clause-read
fold_as_elf-requires-2-clause-read c = c.requires.read.ape A64 16384 (inr refl)

pub fold_as_ape-requires-2-clause-read : goal.fold_as_ape-requires-2-clause-read
fold_as_ape-requires-2-clause-read c = c.requires.read.ape A64 4096 (inl refl)

pub fold_as_ape-requires-3-clause-read : goal.fold_as_ape-requires-3-clause-read
fold_as_ape-requires-3-clause-read c = c.requires.read.ape A64 16384 (inr refl)

pub returns : goal.returns
returns c =
    let file = c.args.file.now in
    let x64 = c.loads_of-x64.ensures in
    let a64 = c.loads_of-a64.ensures in
    record {
      pe = subst (λ (l : List Entry). HasFold l c.fold_of.result (pe_reading file)) x64 c.fold_of.ensures;
      mach = subst (λ (l : List Entry). HasMachFold l c.in_ok-fold_as_mach.field-0 file) x64 c.in_ok-fold_as_mach.ensures;
      elf_x64 = subst (λ (l : List Entry). HasElfFold l c.in_ok-fold_as_elf.field-0 X64 4096 file) x64 c.in_ok-fold_as_elf.ensures;
      ape_x64 = subst (λ (l : List Entry). HasFold l c.fold_as_ape.result (ape_reading (number_of X64) 4096 file)) x64 c.fold_as_ape.ensures;
      elf_a64 = subst (λ (l : List Entry). HasElfFold l c.in_ok-fold_as_elf-2.field-0 A64 16384 file) a64 c.in_ok-fold_as_elf-2.ensures;
      ape_a64_4096 = subst (λ (l : List Entry). HasFold l c.fold_as_ape-2.result (ape_reading (number_of A64) 4096 file)) a64 c.fold_as_ape-2.ensures;
      ape_a64_16384 = subst (λ (l : List Entry). HasFold l c.fold_as_ape-3.result (ape_reading (number_of A64) 16384 file)) a64 c.fold_as_ape-3.ensures;
    }
