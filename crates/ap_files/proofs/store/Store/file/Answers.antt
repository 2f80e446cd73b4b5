use Rattle.std.proofs.Common.{sym, ap, ◌∙◌, subst}
use Rattle.std.specs.Option.{option_copied}
use Rattle.ap_files.specs.Places.{IsFirst, IsNowhere}
use Rattle.ap_files.proofs.StoreLemmas.{file_at, no_file}
use Rattle.ap_files.proofs.store.Store.file.Goals as goal

pub returns-in_err-i : goal.returns-in_err-i
returns-in_err-i c =
    ap option_copied c.from_residual.ensures
    ∙ sym (no_file c.self.inside.slots.items c.self.inside.unfinished c.args.self.now c.args.name.now c.self.view_is
    (subst (λ slots. IsNowhere slots c.args.name.now) c.deref.ensures.value c.in_err-i.ensures.place))

pub returns : goal.returns
returns c =
    c.file.ensures
    ∙ sym (file_at c.self.inside.slots.items c.self.inside.unfinished c.args.self.now c.args.name.now c.in_ok-i.i c.index.result.now c.self.view_is
    (subst (λ slots. IsFirst slots c.args.name.now c.in_ok-i.i) c.deref.ensures.value c.in_ok-i.ensures.place) c.index.ensures)
