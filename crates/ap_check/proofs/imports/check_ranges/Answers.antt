use Rattle.std.proofs.Common.{◌∙◌, sym, subst}
use Rattle.ap_elf.specs.Machines.{granule_of}
use Rattle.ap_check.specs.Inputs.{AreLoads}
use Rattle.ap_check.proofs.ImportLemmas.{between-top}
use Rattle.ap_check.proofs.imports.check_ranges.Goals as goal

pub returns-clause-start : goal.returns-clause-start
returns-clause-start c =
    let i = c.input.inside in
    (between-top (granule_of i.machine) i.size 20 c.args.table.now.idata c.args.table.now.idata_end c.as_slice-loads.result.now
    (subst (AreLoads (granule_of i.machine) i.size 0) (sym c.as_slice-loads.ensures.value) c.input.invariant.loads) (sym c.is_between.ensures ∙ c.if-not-is_between.false)).0

pub returns-clause-end : goal.returns-clause-end
returns-clause-end c =
    let i = c.input.inside in
    (between-top (granule_of i.machine) i.size 20 c.args.table.now.idata c.args.table.now.idata_end c.as_slice-loads.result.now
    (subst (AreLoads (granule_of i.machine) i.size 0) (sym c.as_slice-loads.ensures.value) c.input.invariant.loads) (sym c.is_between.ensures ∙ c.if-not-is_between.false)).1
