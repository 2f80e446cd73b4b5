use Rattle.std.proofs.Common.{sym, subst}
use Rattle.ap_elf.specs.ElfReading.{elf_reading}
use Rattle.ap_elf.specs.Machines.{number_of}
use Rattle.ap_trial.specs.Refusals.{IsRead}
use Rattle.ap_trial.specs.Trials.{HasFold}
use Rattle.ap_trial.proofs.FoldReads.{elf-read}
use Rattle.ap_trial.proofs.found.fold_as_elf.Goals as goal

pub fold_of-requires-clause-read : goal.fold_of-requires-clause-read
fold_of-requires-clause-read c =
    subst (λ b. IsRead (elf_reading (number_of c.args.machine) c.args.page b)) (sym c.deref.ensures.value)
    (elf-read (number_of c.args.machine) c.args.page c.args.file.now c.in-Ok.bytes.items c.in-Ok.ensures c.requires.read)

pub returns-in-Ok : goal.returns-in-Ok
returns-in-Ok c = (
  c.in-Ok.bytes.items,
  c.in-Ok.ensures,
  subst (λ b. HasFold c.args.loads.now c.fold_of.result (elf_reading (number_of c.args.machine) c.args.page b)) c.deref.ensures.value c.fold_of.ensures,
)
