use Rattle.std.proofs.Common.{◌≡◌, ◌∙◌, List, ℕ, length, ap, subst, sym}
use Rattle.ap_elf.specs.declared.machine.Machine.TheVariants.{X64, A64}
use Rattle.ap_elf.specs.Machines.{granule_of}
use Rattle.ap_trial.specs.Folds.{folded_all}
use Rattle.ap_trial.specs.Refusals.{IsReadByAll}
use Rattle.ap_trial.specs.TrialInputs.{trial_loads}
use Rattle.ap_trial.specs.Trials.{AreFolds}
use Rattle.ap_trial.proofs.LinkedReads.{inputs-pass, linked-file, read-by-all}
use Rattle.ap_trial.proofs.whole.numbers_of.Goals as goal

pub linked-requires : goal.linked-requires
linked-requires c =
    inputs-pass c.args.number c.args.pages c.deref.result.now c.deref-2.result.now c.requires.least c.requires.most (c.deref.ensures.value ∙ c.in_ok-x64.ensures) (c.deref-2.ensures.value ∙ c.in_ok-a64.ensures)

pub folds_of-requires-clause-read : goal.folds_of-requires-clause-read
folds_of-requires-clause-read c =
    subst IsReadByAll (sym c.deref-4.ensures.value)
    (read-by-all c.args.number c.args.pages c.deref.result.now c.deref-2.result.now c.in_ok-file.file.items c.requires.most (c.deref.ensures.value ∙ c.in_ok-x64.ensures) (c.deref-2.ensures.value ∙ c.in_ok-a64.ensures)
    c.in_ok-file.ensures)

pub returns : goal.returns
returns c =
    let file = linked-file c.args.number c.args.pages c.deref.result.now c.deref-2.result.now c.in_ok-file.file.items (c.deref.ensures.value ∙ c.in_ok-x64.ensures) (c.deref-2.ensures.value ∙ c.in_ok-a64.ensures) c.in_ok-file.ensures in
    record {
      x64 = c.len.ensures ∙ sym c.deref.ensures.len ∙ ap length (c.deref.ensures.value ∙ c.in_ok-x64.ensures);
      a64 = c.len-2.ensures ∙ sym c.deref-2.ensures.len ∙ ap length (c.deref-2.ensures.value ∙ c.in_ok-a64.ensures);
      linked = c.len-3.ensures ∙ sym c.deref-3.ensures.len ∙ ap length (c.deref-3.ensures.value ∙ file);
      fold = c.fold_bytes.ensures ∙ ap (folded_all 0) (c.deref-3.ensures.value ∙ file);
      folds = subst (λ w. AreFolds (trial_loads (granule_of X64) c.args.pages) (trial_loads (granule_of A64) c.args.pages) w c.in_ok-folds_of.field-0) (c.deref-4.ensures.value ∙ file) c.in_ok-folds_of.ensures;
    }
