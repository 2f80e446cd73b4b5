use Rattle.std.proofs.Common.{◌≡◌, ◌++◌, List, drop, Ok}
use Rattle.ap_claims.specs.Lists.{Claim, Makes}
use Rattle.ap_layout.specs.Positions.{placed_inputs}
use Rattle.ap_script.specs.Claims.{table_claims}
use Rattle.ap_layout.specs.Jobs.{job_inputs}
use Rattle.ap_script.proofs.tables.write_tables.Given as goal

-- some claims are made, and what is left are those of the inputs that are left
abbrev pub invariant-loop-i : goal.invariant-loop-i
invariant-loop-i l =
    let ps = placed_inputs (job_inputs l.job) l.lay in
    (done : List Claim) × Makes l.fn.block l.block done (Ok tt) × (done ++ table_claims (drop l.i ps) ≡ table_claims ps)
