use Rattle.std.proofs.Common.{◌++◌, sym, ap, ◌∙◌, append-nil}
use Rattle.ap_texts.proofs.Digits.{no-digits}
use Rattle.ap_texts.proofs.text.+push_digits.Goals as goal

pub returns-then-count-eq0 : goal.returns-then-count-eq0
returns-then-count-eq0 t c =
    let items = c.args.text.now.items in
    sym (ap (λ d. items ++ d) (no-digits c.args.count c.args.number c.if-count-eq0.true) ∙ append-nil items)
