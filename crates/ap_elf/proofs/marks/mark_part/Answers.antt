use Rattle.std.proofs.Common.{arith}
use Rattle.ap_elf.proofs.Markings.{part-found, part-none}
use Rattle.ap_elf.proofs.marks.mark_part.Goals as goal

pub loop-from-preserved : goal.loop-from-preserved
loop-from-preserved c =
    let l = c.loop-from.invariant in
    let found = rw c.new-finder.ensures at (rw c.in-Some.is at c.find.ensures) in
    record {
      some = grind arith;
      kept = λ k m. c.mark.ensures.kept k (l.kept k m);
      high = (let fits = found.1.fits in grind arith);
      marked = part-found c.args.part.now c.args.text.now c.args.at c.loop-from.from c.loop-from.marks l.high l.marked
          c.in-Some.place c.mark.new.marks found c.mark.ensures.kept c.mark.ensures.marked;
    }

pub returns-in-None-clause-marked : goal.returns-in-None-clause-marked
returns-in-None-clause-marked c =
    part-none c.args.part.now c.args.text.now c.args.at c.loop-from.from c.loop-from.marks c.loop-from.invariant.high c.loop-from.invariant.marked
    (rw c.new-finder.ensures at (rw c.in-None.is at c.find.ensures))
