use Rattle.std.proofs.Common.{subst}
use Rattle.std.proofs.lemmas.Result.{on_ok_weaker}
use Rattle.ap_files.specs.Places.{IsFirst, IsNowhere}
use Rattle.ap_files.proofs.StoreLemmas.{widened, added}
use Rattle.ap_files.proofs.store.Store.reserve.Goals as goal

pub returns-in-Some-clause-ok : goal.returns-in-Some-clause-ok
returns-in-Some-clause-ok c =
    on_ok_weaker c.widen.result
    (widened c.self.inside.slots.items c.self.inside.unfinished c.args.self.now c.args.name.now c.in-Some.i c.index_mut.result.now c.widen.new.self c.args.room c.self.view_is
    (subst (λ slots. IsFirst slots c.args.name.now c.in-Some.i) c.deref.ensures.value c.in-Some.ensures.place) c.index_mut.ensures.value)
    c.widen.ensures.ok

pub returns-in_ok-push-in-None-clause-ok : goal.returns-in_ok-push-in-None-clause-ok
returns-in_ok-push-in-None-clause-ok c =
    rw c.in_ok-push-in-None.ensures.items
    (added c.self.inside.slots.items c.self.inside.unfinished c.args.self.now c.args.name.now c.args.room c.in_ok-slot-in-None.slot c.self.view_is
    (subst (λ slots. IsNowhere slots c.args.name.now) c.deref.ensures.value c.in-None.ensures.place) c.self.invariant c.in_ok-slot-in-None.ensures)
