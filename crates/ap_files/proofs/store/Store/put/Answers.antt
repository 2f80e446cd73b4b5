use Rattle.std.proofs.Common.{subst, ap, ◌∙◌, length}
use Rattle.std.specs.FinMap as map
use Rattle.ap_files.specs.Places.{IsFirst, IsNowhere}
use Rattle.ap_files.specs.Stores.{Stored}
use Rattle.ap_files.proofs.StoreLemmas.{filled, room_at, no_room, room_enough, room_there}
use Rattle.ap_files.proofs.store.Store.put.Goals as goal

pub fill-requires : goal.fill-requires
fill-requires c =
    room_enough c.args.self.now c.reserve.new.self c.args.name.now (length c.args.bytes.now) c.index_mut.result.now.room c.in_ok-reserve.ensures.ok
    (room_at c.self.inside.slots.items c.self.inside.unfinished c.reserve.new.self c.args.name.now c.in-Some.i c.index_mut.result.now c.self.view_is
    (subst (λ slots. IsFirst slots c.args.name.now c.in-Some.i) c.deref.ensures.value c.in-Some.ensures.place) c.index_mut.ensures.value)

pub unreachable-requires : goal.unreachable-requires
unreachable-requires c =
    room_there c.args.self.now c.reserve.new.self c.args.name.now (length c.args.bytes.now) c.in_ok-reserve.ensures.ok
    (no_room c.self.inside.slots.items c.self.inside.unfinished c.reserve.new.self c.args.name.now c.self.view_is
    (subst (λ slots. IsNowhere slots c.args.name.now) c.deref.ensures.value c.in-None.ensures.place))

pub returns-clause-ok : goal.returns-clause-ok
returns-clause-ok c =
    filled c.self.inside.slots.items c.self.inside.unfinished c.reserve.new.self c.args.name.now c.in-Some.i c.index_mut.result.now c.fill.new.self c.args.bytes.now c.self.view_is
    (subst (λ slots. IsFirst slots c.args.name.now c.in-Some.i) c.deref.ensures.value c.in-Some.ensures.place) c.index_mut.ensures.value c.fill.ensures
    ∙ ap (λ (m : Stored). record m { files = map.insert m.files c.args.name.now c.args.bytes.now }) c.in_ok-reserve.ensures.ok
