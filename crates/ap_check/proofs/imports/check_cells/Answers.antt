use Rattle.ap_check.proofs.ImportLemmas.{file-checked}
use Rattle.ap_check.proofs.imports.check_cells.Goals as goal

pub returns-clause-same_reference : goal.returns-clause-same_reference
returns-clause-same_reference g c =
    let old = c.args.cells.now in
    let new = c.check_table.new.cells in
    (file-checked (g.F.Files.state old.files.now) (g.F.Files.state new.files.now) old.name.now new.name.now old.plan.now.regions new.plan.now.regions old.files.ghost_name new.files.ghost_name
    c.args.input.now c.args.base c.check_table.result (record { shows = c.requires.plan }) c.check_table.ensures.rules).1

pub returns-clause-checks : goal.returns-clause-checks
returns-clause-checks g c =
    let old = c.args.cells.now in
    let new = c.check_table.new.cells in
    (file-checked (g.F.Files.state old.files.now) (g.F.Files.state new.files.now) old.name.now new.name.now old.plan.now.regions new.plan.now.regions old.files.ghost_name new.files.ghost_name
    c.args.input.now c.args.base c.check_table.result (record { shows = c.requires.plan }) c.check_table.ensures.rules).0
