use Rattle.std.proofs.Common.{sym, subst}
use Rattle.ap_words.specs.Meaning.{texts_of}
use Rattle.ap_run.specs.Ends.{IsComplete}
use Rattle.ap_run.proofs.Complete.{complete}
use Rattle.ap_run.proofs.ViewCells.{words-cells}
use Rattle.ap_run.proofs.command.run.Goals as goal

pub returns-clause-complete : goal.returns-clause-complete
returns-clause-complete g c =
    let old = g.F.Files.state c.args.files.now in
    let new = g.F.Files.state c.obey-cause.new.files in
    let before = g.O.Sink.state c.args.out.now in
    let after = g.O.Sink.state c.obey-cause.new.out in
    let words = texts_of c.args.words.now in
    subst (IsComplete old new before after words) (sym c.end_by.ensures.cause) (complete old new before after words c.obey-cause.result c.obey-cause.ensures)

pub returns-clause-cells : goal.returns-clause-cells
returns-clause-cells g c = words-cells (texts_of c.args.words.now)
