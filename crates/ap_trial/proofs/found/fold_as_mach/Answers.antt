use Rattle.std.proofs.Common.{subst}
use Rattle.ap_mach.specs.MachReading.{mach_reading}
use Rattle.ap_trial.specs.Trials.{HasFold}
use Rattle.ap_trial.proofs.found.fold_as_mach.Goals as goal

pub returns-in-Ok : goal.returns-in-Ok
returns-in-Ok c = (
  c.in-Ok.bytes.items,
  c.in-Ok.ensures,
  subst (λ b. HasFold c.args.loads.now c.fold_of.result (mach_reading b)) c.deref.ensures.value c.fold_of.ensures,
)
