use Rattle.std.proofs.Common.{◌+◌, ◌<◌, ◌∙◌, ap, arith, Ok}
use Rattle.std.proofs.lemmas.Bool.{eq-eqb, ne_eqb}
use Rattle.ap_image.specs.Cells.{CellsState}
use Rattle.ap_image.specs.ImportWalk.{byte_at, name_at}
use Rattle.ap_image.proofs.Fetching.{fetch-out}
use Rattle.ap_image.specs.WalkSteps.{passed}
use Rattle.ap_image.proofs.ImportNames.{name-ends, name-next, name-none}
use Rattle.ap_image.proofs.import_read.skip_name.Goals as goal

pub loop-i-preserved : goal.loop-i-preserved
loop-i-preserved g c =
    let read = c.in_ok-byte_at.ensures in
    let within : c.loop-i.i < 1025 = omega arith in
    record {
      state = read.0 ∙ c.loop-i.invariant.state;
      left = λ m told.
          name-next m c.args.start 1025 c.loop-i.i c.in_ok-byte_at.field-0 (λ rest. Ok tt) _ within (c.loop-i.invariant.left m told)
          (read.1 m (ap (λ (s : CellsState). s.told) c.loop-i.invariant.state ∙ told)) (ne_eqb c.in_ok-byte_at.field-0 0 c.if-branch-eq0.false);
    }

pub returns-then-branch-eq0 : goal.returns-then-branch-eq0
returns-then-branch-eq0 g c =
    let read = c.in_ok-byte_at.ensures in
    let within : c.loop-i.i < 1025 = omega arith in (
      read.0 ∙ c.loop-i.invariant.state,
      λ m told.
          name-ends m c.args.start 1025 c.loop-i.i c.in_ok-byte_at.field-0 (λ rest. Ok tt) _ within (c.loop-i.invariant.left m told)
          (read.1 m (ap (λ (s : CellsState). s.told) c.loop-i.invariant.state ∙ told)) (eq-eqb c.in_ok-byte_at.field-0 0 c.if-branch-eq0.true),
    )

pub returns-in_err-byte_at : goal.returns-in_err-byte_at
returns-in_err-byte_at g c =
    let within : c.loop-i.i < 1025 = omega arith in
    fetch-out (g.C.Cells.state c.args.cells.now) (g.C.Cells.state c.loop-i.cells) (g.C.Cells.state c.byte_at.new.cells)
    (λ m. byte_at m (c.args.start + c.loop-i.i)) (λ m. passed (name_at m c.args.start)) c.from_residual.result c.in_err-byte_at.field-0.0 c.loop-i.invariant.state
    (λ m f told none. name-none m c.args.start 1025 c.loop-i.i f (λ rest. Ok tt) _ within (c.loop-i.invariant.left m told) none)
    c.in_err-byte_at.ensures c.from_residual.ensures.1
