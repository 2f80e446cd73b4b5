use Rattle.ap_elf.specs.Machines.{number_of}
use Rattle.ap_elfmap.specs.Laws.{page-granule}
use Rattle.ap_elfmap.proofs.Planned.{rules-hold, planned-ascends, planned-backed}
use Rattle.ap_elfmap.proofs.plan.plan_by.Goals as goal

pub invariant_of-result : goal.invariant_of-result
invariant_of-result c =
    planned-ascends (number_of c.args.machine) c.args.page c.args.size c.args.h.now c.args.entries.now c.in_ok-regions.regions.items (page-granule c.args.machine c.args.page c.requires.page)
    (rules-hold (number_of c.args.machine) c.args.page c.args.size c.args.h.now c.args.entries.now c.requires.header c.in_ok-regions.ensures.rules) c.in_ok-regions.ensures.regions

pub returns-clause-backed : goal.returns-clause-backed
returns-clause-backed c =
    planned-backed (number_of c.args.machine) c.args.page c.args.size c.args.h.now c.args.entries.now c.in_ok-regions.regions.items (page-granule c.args.machine c.args.page c.requires.page)
    (rules-hold (number_of c.args.machine) c.args.page c.args.size c.args.h.now c.args.entries.now c.requires.header c.in_ok-regions.ensures.rules) c.in_ok-regions.ensures.regions
