use Rattle.ap_octal.proofs.WindowLemmas.{part-is, closes-found, closes-none}
use Rattle.ap_octal.proofs.search.closing_quote.Goals as goal

pub returns-in_err-place : goal.returns-in_err-place
returns-in_err-place c =
    rw c.from_residual.ensures
    (closes-none c.args.file.now _ c.args.from (part-is c.args.file.now c.window_of.result.now c.args.from c.window_of.ensures.bytes) c.in_err-place.ensures)

pub returns : goal.returns
returns c =
    closes-found c.args.file.now _ c.args.from c.in_ok-place.place (part-is c.args.file.now c.window_of.result.now c.args.from c.window_of.ensures.bytes) c.in_ok-place.ensures
