use Rattle.std.proofs.Common.{rules, length, ap, ◌∙◌, sym, subst, arith}
use Rattle.std.proofs.Math.ListN.{drop_of_length-le}
use Rattle.std.proofs.lemmas.Bool.Decides.{nat_tests}
use Rattle.ap_elf.specs.Machines.{granule_of}
use Rattle.ap_check.specs.Inputs.{Taken, Meets}
use Rattle.ap_files.specs.Files.{told_bytes}
use Rattle.ap_files.specs.Appends.{Appends}
use Rattle.ap_files.proofs.Appending.{transfer-failed}
use Rattle.ap_link.specs.Linked.{input_text}
use Rattle.ap_link.proofs.AreaTexts.{load-here, area-here}
use Rattle.ap_link.proofs.Writing.{writing-start, writing-here, writing-open, writing-range, writing-new, writing-old, writing-fails, writing-end}
use Rattle.ap_link.proofs.areas.write_input.Goals as goal
use Rattle.ap_link.proofs.areas.write_input.Goals.{then-is_new+in_ok-write_area, else-is_new}

pub loop-i-init : goal.loop-i-init
loop-i-init g c =
    let loads-is = c.as_slice-loads.ensures.value ∙ ap (λ (i : Taken). i.loads) c.input.view_is in
    record {
      count = ap length loads-is ∙ sym c.requires.count;
      written = writing-start (g.F.Files.state c.args.files.now) c.args.name.now c.args.out.now c.args.input.now c.granule-granule.result c.args.from c.as_slice-loads.result.now c.args.areas.now c.requires.out
          (c.granule-granule.ensures ∙ ap (λ (i : Taken). granule_of i.machine) c.input.view_is) loads-is (c.requires.next (subst (λ (i : Taken). Meets i) c.input.view_is c.input.invariant));
    }

pub bounds-areas-i : goal.bounds-areas-i
bounds-areas-i g c =
    let same = c.loop-i.invariant.count in
    omega arith

pub write_area-requires-clause-gap : goal.write_area-requires-clause-gap
write_area-requires-clause-gap g c =
    let h = writing-here _ _ _ _ _ _ _ _ _ _ _ _ _ _ (load-here c.as_slice-loads.result.now c.loop-i.i c.loop-i-test.true) (area-here c.args.areas.now c.loop-i.i _ c.loop-i-test.true c.loop-i.invariant.count) c.loop-i.invariant.written in
    let near = h.next.0.gap (sym c.is_new.ensures ∙ c.if-is_new.true) in
    grind (arith, nat_tests)

pub write_area-requires-clause-out : goal.write_area-requires-clause-out
write_area-requires-clause-out g c = writing-open _ _ _ _ _ _ _ _ _ _ c.requires.out c.loop-i.invariant.written

pub write_area-requires-clause-range : goal.write_area-requires-clause-range
write_area-requires-clause-range g c =
    let h = writing-here _ _ _ _ _ _ _ _ _ _ _ _ _ _ (load-here c.as_slice-loads.result.now c.loop-i.i c.loop-i-test.true) (area-here c.args.areas.now c.loop-i.i _ c.loop-i-test.true c.loop-i.invariant.count) c.loop-i.invariant.written in
    writing-range _ _ _ _ _ _ _ _ _ _ _ _ _ (sym c.is_new.ensures ∙ c.if-is_new.true) c.requires.readable h

pub returns-in_err-write_area : goal.returns-in_err-write_area
returns-in_err-write_area g c =
    let h = writing-here _ _ _ _ _ _ _ _ _ _ _ _ _ _ (load-here c.as_slice-loads.result.now c.loop-i.i c.loop-i-test.true) (area-here c.args.areas.now c.loop-i.i _ c.loop-i-test.true c.loop-i.invariant.count) c.loop-i.invariant.written in
    let old = g.F.Files.state c.args.files.now in
    let new = g.F.Files.state c.write_area.new.files in
    transfer-failed (Appends old new c.args.out.now (input_text c.args.from c.args.input.now (told_bytes old.kept c.args.name.now) c.args.areas.now)) c.from_residual.result c.in_err-write_area.field-0.0 (search rules)
    (writing-fails old _ new _ _ _ _ _ _ _ _ _ _ c.in_err-write_area.field-0.0 (sym c.is_new.ensures ∙ c.if-is_new.true) c.requires.readable.apart h c.in_err-write_area.ensures)

pub loop-i-preserved : goal.loop-i-preserved
loop-i-preserved g c =
    let h = writing-here _ _ _ _ _ _ _ _ _ _ _ _ _ _ (load-here c.as_slice-loads.result.now c.loop-i.i c.loop-i-test.true) (area-here c.args.areas.now c.loop-i.i _ c.loop-i-test.true c.loop-i.invariant.count) c.loop-i.invariant.written in
    let test = c.is_new.ensures in
    record {
      count = c.loop-i.invariant.count;
      written = elim c.if-is_new.branch [
        | then-is_new+in_ok-write_area w ↦
            rw (w.files-is, w.end-is)
            (writing-new _ _ _ _ _ _ _ _ _ _ _ _ _ (sym test ∙ w.if-is_new.true) c.requires.readable.apart h w.in_ok-write_area.ensures)
        | else-is_new w ↦ rw (w.files-is, w.end-is) (writing-old _ _ _ _ _ _ _ _ _ _ _ _ (sym test ∙ w.if-is_new.false) h)
      ];
    }

pub returns : goal.returns
returns g c = writing-end _ _ _ _ _ _ _ _ _ _ (drop_of_length-le c.as_slice-loads.result.now c.loop-i-test.false) c.loop-i.invariant.written
