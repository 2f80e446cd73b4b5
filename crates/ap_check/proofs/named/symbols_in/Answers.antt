use Rattle.std.proofs.Common.{◌∙◌}
use Rattle.ap_check.proofs.Prefixes.{no-symbols-at, not-true}
use Rattle.ap_check.proofs.named.symbols_in.Goals as goal

pub returns-else-branch : goal.returns-else-branch
returns-else-branch g c =
    let read = c.in_ok-stands_in_strings.ensures in (
      read.0,
      λ m b told at. c.no_symbols.ensures ∙ no-symbols-at b c.args.t.now (λ stands. not-true c.in_ok-stands_in_strings.field-0 c.if-branch.false ((read.1 m b told at).1 stands)),
    )
