use Rattle.std.proofs.Common.{subst, ap, sym, ◌∙◌, ◌++◌, length, take, false, true, IsSome, Some, [], unwrap_or}
use Rattle.std.specs.FinMap as map
use Rattle.ap_files.specs.Files.{bytes_in}
use Rattle.ap_files.specs.Places.{IsFirst, IsNowhere}
use Rattle.ap_files.proofs.StoreLemmas.{file_at, no_file, room_at, taken_up, fits_as, not_there}
use Rattle.ap_files.proofs.store.Store.append.Goals as goal

pub returns-in_default-clause-fits : goal.returns-in_default-clause-fits
returns-in_default-clause-fits c =
    absurd (not_there (map.get c.args.self.now.files c.args.name.now) c.requires.there
    (no_file c.self.inside.slots.items c.self.inside.unfinished c.args.self.now c.args.name.now c.self.view_is
    (subst (λ slots. IsNowhere slots c.args.name.now) c.deref.ensures.value c.in_default.ensures.place)))

pub append-requires-clause-there : goal.append-requires-clause-there
append-requires-clause-there c =
    subst IsSome
    (file_at c.self.inside.slots.items c.self.inside.unfinished c.args.self.now c.args.name.now c.in-Some.i c.index_mut.result.now c.self.view_is
    (subst (λ slots. IsFirst slots c.args.name.now c.in-Some.i) c.deref.ensures.value c.in-Some.ensures.place) c.index_mut.ensures.value)
    c.requires.there

pub returns-then-not-append-clause-fits : goal.returns-then-not-append-clause-fits
returns-then-not-append-clause-fits c =
    let first = subst (λ slots. IsFirst slots c.args.name.now c.in-Some.i) c.deref.ensures.value c.in-Some.ensures.place in
    fits_as c.index_mut.result.now.file (map.get c.args.self.now.files c.args.name.now) c.index_mut.result.now.room (map.get c.args.self.now.rooms c.args.name.now) (length c.args.piece.now) false
    (file_at c.self.inside.slots.items c.self.inside.unfinished c.args.self.now c.args.name.now c.in-Some.i c.index_mut.result.now c.self.view_is first c.index_mut.ensures.value)
    (room_at c.self.inside.slots.items c.self.inside.unfinished c.args.self.now c.args.name.now c.in-Some.i c.index_mut.result.now c.self.view_is first c.index_mut.ensures.value)
    c.if-not-append.ensures.fits

pub returns-clause-fits : goal.returns-clause-fits
returns-clause-fits c =
    let first = subst (λ slots. IsFirst slots c.args.name.now c.in-Some.i) c.deref.ensures.value c.in-Some.ensures.place in
    fits_as c.index_mut.result.now.file (map.get c.args.self.now.files c.args.name.now) c.index_mut.result.now.room (map.get c.args.self.now.rooms c.args.name.now) (length c.args.piece.now) true
    (file_at c.self.inside.slots.items c.self.inside.unfinished c.args.self.now c.args.name.now c.in-Some.i c.index_mut.result.now c.self.view_is first c.index_mut.ensures.value)
    (room_at c.self.inside.slots.items c.self.inside.unfinished c.args.self.now c.args.name.now c.in-Some.i c.index_mut.result.now c.self.view_is first c.index_mut.ensures.value)
    c.if-not-append.ensures.fits

pub returns-clause-appended : goal.returns-clause-appended
returns-clause-appended c =
    let first = subst (λ slots. IsFirst slots c.args.name.now c.in-Some.i) c.deref.ensures.value c.in-Some.ensures.place in
    taken_up c.self.inside.slots.items c.self.inside.unfinished c.args.self.now c.args.name.now c.in-Some.i c.index_mut.result.now c.append.new.self
    (bytes_in c.args.self.now.files c.args.name.now ++ take c.args.count c.args.piece.now) c.self.view_is first c.index_mut.ensures.value
    (c.if-not-append.ensures.appended
    ∙ ap (λ o. record c.index_mut.result.now { file = Some (unwrap_or o [] ++ take c.args.count c.args.piece.now) })
    (sym (file_at c.self.inside.slots.items c.self.inside.unfinished c.args.self.now c.args.name.now c.in-Some.i c.index_mut.result.now c.self.view_is first c.index_mut.ensures.value)))
