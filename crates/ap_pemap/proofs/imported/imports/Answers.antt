use Rattle.std.proofs.Common.{◌∙◌, sym, ap}
use Rattle.ap_image.specs.ImportWalk.{Items}
use Rattle.ap_image.specs.Imports.{imports_of}
use Rattle.ap_image.specs.PlanCells.{shown_by}
use Rattle.ap_fields.specs.Readings.{bytes_in}
use Rattle.ap_pemap.specs.PeImports.{memory_of}
use Rattle.ap_pemap.proofs.Importing.{headers-same, plan-backed, items-there, items-none, imports-there}
use Rattle.ap_pemap.proofs.imported.imports.Goals as goal

pub returns-then-rva-eq0 : goal.returns-then-rva-eq0
returns-then-rva-eq0 c =
    let b = c.args.file.now in
    let same = headers-same b c.args.plan.now c.in-Ok.h c.requires c.in-Ok.ensures in
    let none = items-none b c.in-Ok.h c.table_rva-rva.result same c.table_rva-rva.ensures c.if-rva-eq0.true in
    (ap (λ (x : Items). x.ending) none, c.new.ensures.items ∙ sym (ap (imports_of (memory_of b)) none))

pub list_of-requires : goal.list_of-requires
list_of-requires c = plan-backed c.args.file.now c.args.plan.now c.requires

pub returns : goal.returns
returns c =
    let b = c.args.file.now in
    let h = c.in-Ok.h in
    let same = headers-same b c.args.plan.now h c.requires c.in-Ok.ensures in
    let there = items-there b h c.table_rva-rva.result same c.table_rva-rva.ensures c.if-rva-eq0.false in
    imports-there b c.args.plan.now _ h.base _ c.list_of.result c.requires (c.new-walk.ensures.items (shown_by (bytes_in b) c.args.plan.now.regions)) there c.list_of.ensures
