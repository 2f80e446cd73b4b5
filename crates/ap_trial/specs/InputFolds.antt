-- The folds of the inputs of a trial, and that the readings have them.
use Rattle.std.specs.Prelude.{◌≡◌, ℕ}
use Rattle.ap_fields.specs.Readings.{bytes_in}
use Rattle.ap_elf.specs.declared.machine.Machine.{Machine}
use Rattle.ap_elf.specs.Machines.{granule_of}
use Rattle.ap_elf.specs.Fields.{entries_of, loads_in}
use Rattle.ap_elf.specs.InputCell.{input_cell}
use Rattle.ap_trial.specs.TrialInputs.{trial_input, trial_loads}
use Rattle.ap_trial.specs.Folds.{fold_over}
use Rattle.ap_trial.specs.declared.numbers.ReadingFolds.{ReadingFolds}

-- the fold of the cells of an input of a number, at the addresses of its loads
unfoldable pub input_fold : ℕ → ℕ → Machine → ℕ
input_fold number pages machine =
    let input = trial_input number pages machine in
    fold_over (input_cell (bytes_in input) (loads_in (entries_of input))) 0 (trial_loads (granule_of machine) pages)

-- the readings for x86-64 have one fold, and those for AArch64 another
pub record HaveFolds (x64 a64 : ℕ) (f : ReadingFolds) : Type 0 where
  pub pe : f.pe ≡ x64
  pub mach : f.mach ≡ x64
  pub elf_x64 : f.elf_x64 ≡ x64
  pub ape_x64 : f.ape_x64 ≡ x64
  pub elf_a64 : f.elf_a64 ≡ a64
  pub ape_a64_4096 : f.ape_a64_4096 ≡ a64
  pub ape_a64_16384 : f.ape_a64_16384 ≡ a64
