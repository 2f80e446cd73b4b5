use Rattle.std.proofs.Common.{◌∙◌, refl, arith}
use Rattle.ap_files.proofs.Printing.{gains-nothing, written-below, written-more}
use Rattle.ap_files.proofs.text.print.Goals as goal

pub loop-at-init : goal.loop-at-init
loop-at-init g c = record {
  below = omega arith;
  gained = gains-nothing (g.S.Sink.state c.args.sink.now);
  faults = refl;
}

pub loop-at-preserved : goal.loop-at-preserved
loop-at-preserved g c =
    let old = g.S.Sink.state c.args.sink.now in
    let mid = g.S.Sink.state c.loop-at.sink in
    let new = g.S.Sink.state c.write.new.self in
    let before = c.loop-at.invariant in
    let wrote = c.in_ok-at.ensures in
    record {
      below = written-below mid new c.args.text.now c.loop-at.at c.in_ok-at.field-0 before.below wrote;
      gained = written-more old mid new c.args.text.now c.loop-at.at c.in_ok-at.field-0 before.below before.gained wrote;
      faults = wrote.ok ∙ before.faults;
    }
