use Rattle.std.proofs.Common.{◌≡◌, drop}
use Rattle.ap_layout.specs.Positions.{placed_inputs}
use Rattle.ap_layout.specs.Jobs as spec
use Rattle.ap_layout.specs.Jobs.{job_inputs}
use Rattle.ap_layout.proofs.placed.placed_for.Given as goal

-- the input is one of those that are left
abbrev pub invariant-loop-i : goal.invariant-loop-i
invariant-loop-i l =
    let ps = placed_inputs (job_inputs l.job) l.lay in
    spec.placed_for l.machine ps ≡ spec.placed_for l.machine (drop l.i ps)
