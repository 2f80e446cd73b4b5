use Rattle.std.proofs.Common.{arith}
use Rattle.ap_octal.proofs.WindowLemmas.{part-is, opens-found, opens-none}
use Rattle.ap_octal.proofs.search.statements.Goals as goal

pub returns-then-from-window : goal.returns-then-from-window
returns-then-from-window c k low below opens =
    let fits = opens.stands.fits in
    let within = opens.within in
    absurd (omega arith)

pub returns-in_err-place : goal.returns-in_err-place
returns-in_err-place c =
    rw c.from_residual.ensures
    (opens-none c.args.file.now _ c.args.from (part-is c.args.file.now c.window_of-window.result.now c.args.from c.window_of-window.ensures.bytes) c.in_err-place.ensures)

pub returns : goal.returns
returns c =
    opens-found c.args.file.now _ c.args.from c.in_ok-place.place (part-is c.args.file.now c.window_of-window.result.now c.args.from c.window_of-window.ensures.bytes)
    c.in_ok-place.ensures
