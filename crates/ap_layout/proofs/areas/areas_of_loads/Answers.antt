use Rattle.std.proofs.Common.{◌≤◌, IfSome, get_or, sym, subst, arith}
use Rattle.std.proofs.lemmas.List.{drop_more, drop_all}
use Rattle.ap_layout.specs.Areas.{content_length, end_of}
use Rattle.ap_layout.specs.Twins.{no_load}
use Rattle.ap_layout.proofs.SharedAreas.{shared-ends}
use Rattle.ap_layout.proofs.Walked.{walked-fits, walked-end, room_of-is}
use Rattle.ap_layout.proofs.areas.areas_of_loads.Goals as goal

pub area-area-requires-clause-small : goal.area-area-requires-clause-small
area-area-requires-clause-small c =
    let room = room_of-is c.args.loads.now in
    let fits = walked-fits _ _ _ _ _ _ _ _ _ _ (drop_more c.args.loads.now c.loop-i.i no_load c.loop-i-test.true) c.loop-i.invariant.far in
    omega (arith, c.requires.small)

pub overflow_add-area : goal.overflow_add-area
overflow_add-area c =
    let room = room_of-is c.args.loads.now in
    let fits = walked-fits _ _ _ _ _ _ _ _ _ _ (drop_more c.args.loads.now c.loop-i.i no_load c.loop-i-test.true) c.loop-i.invariant.far in
    omega (arith, c.requires.small, c.area-area.ensures.bound)

pub returns-clause-bound : goal.returns-clause-bound
returns-clause-bound c =
    let room = room_of-is c.args.loads.now in
    let end = walked-end _ _ _ _ _ _ _ _ (drop_all c.loop-i.i c.args.loads.now c.loop-i-test.false) c.loop-i.invariant.far in
    let most = end.2 in
    omega arith

pub area-area-requires-clause-shared : goal.area-area-requires-clause-shared
area-area-requires-clause-shared c =
    subst (λ s. IfSome s (λ a. end_of a ≤ c.loop-i.end)) (sym c.shared_for-shared.ensures)
    (shared-ends c.args.from c.loop-i.end c.args.granule (content_length c.args.granule (get_or c.args.loads.now c.loop-i.i no_load)) c.mask_at.result c.args.others.now c.requires.others c.loop-i.invariant.up)
