use Rattle.std.proofs.Common.{◌≡◌, ◌∙◌, Err, ap}
use Rattle.ap_image.specs.Cells.{CellsState}
use Rattle.ap_image.specs.declared.import_step.Ending.TheVariants as end
use Rattle.ap_image.specs.ImportWalk.{name_at}
use Rattle.ap_image.specs.WalkSteps.{left_of}
use Rattle.ap_image.specs.Imports.{fault_of}
use Rattle.ap_image.proofs.ImportLists.{dll-read, word-read, gather-fails}
use Rattle.ap_image.proofs.import_list.list_imports.Goals as goal

pub returns-in-Err : goal.returns-in-Err
returns-in-Err g c =
    let at = c.in-Ok-Entry.at in
    let given = rw c.in-Ok-Entry.field-0-is at c.in-Ok-Entry.ensures.step in
    let same = given.0 ∙ c.loop-imports.invariant.state in
    gather-fails (g.C.Cells.state c.args.cells.now) (g.C.Cells.state c.step.new.cells) (g.C.Cells.state c.read_name.new.cells) (λ m f. name_at m at ≡ Err f) (λ m f. (left_of m c.args.walk).ending ≡ end.Fault f) c.in-Err.end same
    (λ m f told e. dll-read m c.loop-imports.walk at (left_of m c.step.new.self) f (given.1.told m (ap (λ (s : CellsState). s.told) c.loop-imports.invariant.state ∙ told)) e)
    c.in-Err.ensures

pub returns-in-Err-push_word : goal.returns-in-Err-push_word
returns-in-Err-push_word g c =
    let w = c.in-Ok-Word.what in
    let given = rw c.in-Ok-Word.field-0-is at c.in-Ok-Word.ensures.step in
    let same = given.0 ∙ c.loop-imports.invariant.state in
    gather-fails (g.C.Cells.state c.args.cells.now) (g.C.Cells.state c.step.new.cells) (g.C.Cells.state c.push_word.new.cells) (λ m f. fault_of m w f) (λ m f. (left_of m c.args.walk).ending ≡ end.Fault f) c.in-Err-push_word.end same
    (λ m f told e. word-read m c.loop-imports.walk w c.in-Ok-Word.slot (left_of m c.step.new.self) f (given.1.told m (ap (λ (s : CellsState). s.told) c.loop-imports.invariant.state ∙ told)) e)
    c.in-Err-push_word.ensures
