use Rattle.std.proofs.Common.{arith}
use Rattle.ap_elf.proofs.Naming.{one-named}
use Rattle.ap_elf.proofs.named.mark_symbols.Goals as goal

pub loop-i-preserved : goal.loop-i-preserved
loop-i-preserved c =
    let l = c.loop-i.invariant in
    record {
      some = grind arith;
      kept = λ k m. c.mark_symbol.ensures.kept k (l.kept k m);
      marked = one-named c.args.part.now c.loop-i.i c.symbol_from-s.result c.loop-i.marks c.mark_symbol.new.marks c.mark_symbol.ensures.kept c.symbol_from-s.ensures c.mark_symbol.ensures.marked l.marked;
    }
