use Rattle.ap_machmap.proofs.Planned.{mapped-ascending}
use Rattle.ap_machmap.proofs.mapped.Mapped.finish.Goals as goal

pub invariant_of-result : goal.invariant_of-result
invariant_of-result c = mapped-ascending c.args.len c.args.self.low c.args.self.regions.items c.requires
