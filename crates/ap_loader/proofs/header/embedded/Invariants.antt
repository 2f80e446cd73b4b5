use Rattle.std.proofs.Common.{◌≡◌, ℕ, ◌-◌, ◌<◌, ◌≤◌, take, None}
use Rattle.ap_fields.specs.declared.sizes.TheConstants.{WINDOW}
use Rattle.ap_elf.specs.Machines.{number_of}
use Rattle.ap_loader.specs.Embedded as spec
use Rattle.ap_loader.proofs.header.embedded.Given as goal

abbrev pub invariant-loop-at : goal.invariant-loop-at
invariant-loop-at l = record {
  within : l.from ≤ WINDOW;
  none : (k : ℕ) → k < l.from → spec.header_at (number_of l.machine) (take WINDOW l.file) k ≡ None;
}

abbrev pub decreases-loop-at : goal.decreases-loop-at
decreases-loop-at l = WINDOW - l.from
