use Rattle.std.proofs.Common.{sym, ap, subst, is_some, []}
use Rattle.ap_files.specs.Places.{IsFirst, IsNowhere}
use Rattle.ap_files.proofs.StoreLemmas.{no_room, room_at, taken_up}
use Rattle.ap_files.proofs.store.Store.start.Goals as goal

pub returns-in_default-clause-has_room : goal.returns-in_default-clause-has_room
returns-in_default-clause-has_room c =
    ap is_some (sym (no_room c.self.inside.slots.items c.self.inside.unfinished c.args.self.now c.args.name.now c.self.view_is
    (subst (λ slots. IsNowhere slots c.args.name.now) c.deref.ensures.value c.in_default.ensures.place)))

pub returns-clause-has_room : goal.returns-clause-has_room
returns-clause-has_room c =
    ap is_some (sym (room_at c.self.inside.slots.items c.self.inside.unfinished c.args.self.now c.args.name.now c.in-Some.i c.index_mut.result.now c.self.view_is
    (subst (λ slots. IsFirst slots c.args.name.now c.in-Some.i) c.deref.ensures.value c.in-Some.ensures.place) c.index_mut.ensures.value))

pub returns-clause-started : goal.returns-clause-started
returns-clause-started c =
    taken_up c.self.inside.slots.items c.self.inside.unfinished c.args.self.now c.args.name.now c.in-Some.i c.index_mut.result.now c.restart.new.self [] c.self.view_is
    (subst (λ slots. IsFirst slots c.args.name.now c.in-Some.i) c.deref.ensures.value c.in-Some.ensures.place) c.index_mut.ensures.value c.restart.ensures
