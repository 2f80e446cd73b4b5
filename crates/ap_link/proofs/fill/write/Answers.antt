use Rattle.std.proofs.Common.{rules, ◌++◌}
use Rattle.ap_claims.proofs.Writers.{stopped-writer, next-writer}
use Rattle.ap_layout.specs.Positions.{placed_inputs}
use Rattle.ap_layout.specs.Jobs.{job_inputs}
use Rattle.ap_pe.specs.Linked.{windows_claims}
use Rattle.ap_mach.specs.Linked.{mac_claims}
use Rattle.ap_script.specs.Claims.{table_claims, script_claims}
use Rattle.ap_link.proofs.fill.write.Goals as goal

pub returns-in_err-write_pe : goal.returns-in_err-write_pe
returns-in_err-write_pe c =
    let options = c.args.job.now.options in
    let inputs = job_inputs c.args.job.now in
    let l = c.args.lay.now in
    stopped-writer (windows_claims options inputs l) (table_claims (placed_inputs inputs l) ++ (mac_claims options inputs l ++ script_claims options inputs l)) c.args.block.now c.write_pe.new.block c.write_pe.result c.from_residual.result
    c.in_err-write_pe.field-0.0 c.write_pe.ensures c.in_err-write_pe.was (search rules)

pub returns-in_err-write_tables : goal.returns-in_err-write_tables
returns-in_err-write_tables c =
    let options = c.args.job.now.options in
    let inputs = job_inputs c.args.job.now in
    let l = c.args.lay.now in
    let behind = mac_claims options inputs l ++ script_claims options inputs l in
    let R = c.from_residual-in_err-write_tables.result in
    next-writer (windows_claims options inputs l) (table_claims (placed_inputs inputs l) ++ behind) c.args.block.now c.write_pe.new.block c.write_tables.new.block c.write_pe.result R
    c.in_ok-write_pe.field-0 c.write_pe.ensures c.in_ok-write_pe.was
    (stopped-writer (table_claims (placed_inputs inputs l)) behind c.write_pe.new.block c.write_tables.new.block c.write_tables.result R
    c.in_err-write_tables.field-0.0 c.write_tables.ensures c.in_err-write_tables.was (search rules))

pub returns-in_err-write_mach : goal.returns-in_err-write_mach
returns-in_err-write_mach c =
    let options = c.args.job.now.options in
    let inputs = job_inputs c.args.job.now in
    let l = c.args.lay.now in
    let behind = mac_claims options inputs l ++ script_claims options inputs l in
    let R = c.from_residual-in_err-write_mach.result in
    next-writer (windows_claims options inputs l) (table_claims (placed_inputs inputs l) ++ behind) c.args.block.now c.write_pe.new.block c.write_mach.new.block c.write_pe.result R
    c.in_ok-write_pe.field-0 c.write_pe.ensures c.in_ok-write_pe.was
    (next-writer (table_claims (placed_inputs inputs l)) behind c.write_pe.new.block c.write_tables.new.block c.write_mach.new.block c.write_tables.result R
    c.in_ok-write_tables.field-0 c.write_tables.ensures c.in_ok-write_tables.was
    (stopped-writer (mac_claims options inputs l) (script_claims options inputs l) c.write_tables.new.block c.write_mach.new.block c.write_mach.result R
    c.in_err-write_mach.field-0.0 c.write_mach.ensures c.in_err-write_mach.was (search rules)))

pub returns : goal.returns
returns c =
    let options = c.args.job.now.options in
    let inputs = job_inputs c.args.job.now in
    let l = c.args.lay.now in
    let behind = mac_claims options inputs l ++ script_claims options inputs l in
    let R = c.write_script.result in
    next-writer (windows_claims options inputs l) (table_claims (placed_inputs inputs l) ++ behind) c.args.block.now c.write_pe.new.block c.write_script.new.block c.write_pe.result R
    c.in_ok-write_pe.field-0 c.write_pe.ensures c.in_ok-write_pe.was
    (next-writer (table_claims (placed_inputs inputs l)) behind c.write_pe.new.block c.write_tables.new.block c.write_script.new.block c.write_tables.result R
    c.in_ok-write_tables.field-0 c.write_tables.ensures c.in_ok-write_tables.was
    (next-writer (mac_claims options inputs l) (script_claims options inputs l) c.write_tables.new.block c.write_mach.new.block c.write_script.new.block c.write_mach.result R
    c.in_ok-write_mach.field-0 c.write_mach.ensures c.in_ok-write_mach.was c.write_script.ensures))
