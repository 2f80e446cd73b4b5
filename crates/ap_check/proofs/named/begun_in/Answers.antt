use Rattle.std.proofs.Common.{◌≡◌, ◌∙◌, false, sym}
use Rattle.ap_check.proofs.Prefixes.{no-symbols-begun}
use Rattle.ap_check.proofs.named.begun_in.Goals as goal

pub returns-else-branch : goal.returns-else-branch
returns-else-branch g c =
    let read = c.in_ok-any_begins_in.ensures in (
      read.0,
      λ m b told at. c.no_symbols.ensures ∙ no-symbols-begun b c.args.t.now (read.1 m b told at c.if-branch.false),
    )
