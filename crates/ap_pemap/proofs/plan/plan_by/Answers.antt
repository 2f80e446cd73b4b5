use Rattle.std.proofs.Common.{◌≡◌, [], ◌∷◌}
use Rattle.ap_pemap.specs.PePlans.{headers_region}
use Rattle.ap_pemap.proofs.Planned.{planned-good}
use Rattle.ap_pemap.proofs.plan.plan_by.Goals as goal

pub invariant_of-result : goal.invariant_of-result
invariant_of-result c =
    let head : c.push.new.self.items ≡ headers_region c.args.h.now ∷ [] = cc in
    (planned-good c.args.size c.in_ok-end.end c.args.h.now c.args.sections.now c.push.new.self.items c.push_sections.new.regions.items c.requires.taken.align c.in_ok-check_extent.ensures c.in_ok-end.ensures.rules
    c.in_ok-end.ensures.end c.in_ok-check_image.ensures head c.in_ok-end.ensures.regions).0

pub returns-clause-backed : goal.returns-clause-backed
returns-clause-backed c =
    let head : c.push.new.self.items ≡ headers_region c.args.h.now ∷ [] = cc in
    (planned-good c.args.size c.in_ok-end.end c.args.h.now c.args.sections.now c.push.new.self.items c.push_sections.new.regions.items c.requires.taken.align c.in_ok-check_extent.ensures c.in_ok-end.ensures.rules
    c.in_ok-end.ensures.end c.in_ok-check_image.ensures head c.in_ok-end.ensures.regions).1
