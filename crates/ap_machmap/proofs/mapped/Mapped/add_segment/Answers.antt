use Rattle.std.proofs.Common.{◌∙◌, ◌+◌, refl, sym}
use Rattle.ap_machmap.proofs.Planned.{mapped-more}
use Rattle.ap_machmap.proofs.mapped.Mapped.add_segment.Goals as goal

pub returns-then-maps-clause-mapped : goal.returns-then-maps-clause-mapped
returns-then-maps-clause-mapped c =
    let s = c.args.s.now in
    mapped-more c.args.len c.args.k c.args.self.now.low c.len.result c.args.size (s.vmaddr + s.vmsize) c.args.self.now.regions.items c.push.new.self.items s c.region.result
    c.requires.mapped (sym c.maps.ensures ∙ c.if-maps.true) c.in_ok-check_segment.ensures c.region.ensures c.push.ensures.items refl
