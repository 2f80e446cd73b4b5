use Rattle.std.proofs.Common.{◌≡◌, drop}
use Rattle.ap_layout.specs.Positions.{placed_inputs}
use Rattle.ap_layout.specs.Jobs.{job_inputs}
use Rattle.ap_script.specs.Script as script
use Rattle.ap_script.proofs.header.machine_header.Given as goal

-- the header is that of the inputs that are left
abbrev pub invariant-loop-i : goal.invariant-loop-i
invariant-loop-i l =
    let ps = placed_inputs (job_inputs l.job) l.lay in
    script.header_for l.machine ps ≡ script.header_for l.machine (drop l.i ps)
