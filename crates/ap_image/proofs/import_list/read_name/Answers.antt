use Rattle.std.proofs.Common.{ℕ, List, ◌+◌, ◌<◌, ◌∙◌, Ok, sym, ap, arith}
use Rattle.std.proofs.lemmas.Bool.{eq-eqb, ne_eqb}
use Rattle.ap_image.specs.Cells.{CellsState}
use Rattle.ap_image.proofs.ImportNames.{name_left, gathered, gather-ends, gather-next, name-none}
use Rattle.ap_image.proofs.import_list.read_name.Goals as goal

pub returns-in-Ok-eq0 : goal.returns-in-Ok-eq0
returns-in-Ok-eq0 g c =
    let read = c.in-Ok-eq0.ensures in
    let within : c.loop-i.i < 1025 = omega arith in (
      read.0 ∙ c.loop-i.invariant.state,
      λ m told.
          gather-ends m c.args.start 1025 c.loop-i.i c.in-Ok-eq0.field-0 c.loop-i.name.items _ within (c.loop-i.invariant.left m told)
          (read.1 m (ap (λ (s : CellsState). s.told) c.loop-i.invariant.state ∙ told)) (eq-eqb c.in-Ok-eq0.field-0 0 c.in-Ok-eq0.field-0-test)
          ∙ ap (λ l. Ok l) (sym c.new.ensures),
    )

pub returns-in-Err-Fault : goal.returns-in-Err-Fault
returns-in-Err-Fault g c =
    let read = rw c.in-Err-Fault.field-0-is at c.in-Err-Fault.ensures in
    let within : c.loop-i.i < 1025 = omega arith in (
      read.0 ∙ c.loop-i.invariant.state,
      λ m told.
          name-none m c.args.start 1025 c.loop-i.i c.in-Err-Fault.fault (gathered c.loop-i.name.items) _ within (c.loop-i.invariant.left m told)
          (read.1 m (ap (λ (s : CellsState). s.told) c.loop-i.invariant.state ∙ told)),
    )

pub loop-i-preserved : goal.loop-i-preserved
loop-i-preserved g c =
    let read = c.in-Ok.ensures in
    let within : c.loop-i.i < 1025 = omega arith in
    record {
      state = read.0 ∙ c.loop-i.invariant.state;
      left = λ m told.
          gather-next m c.args.start 1025 c.loop-i.i c.in-Ok.byte c.loop-i.name.items _ within (c.loop-i.invariant.left m told)
          (read.1 m (ap (λ (s : CellsState). s.told) c.loop-i.invariant.state ∙ told)) (ne_eqb c.in-Ok.byte 0 c.in-Ok.byte-test.1)
          ∙ ap (λ l. name_left m c.args.start 1025 (c.loop-i.i + 1) (gathered l)) (sym {A = List ℕ} c.in_default.ensures.items);
    }
