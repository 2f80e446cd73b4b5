use Rattle.std.proofs.Common.{◌∙◌, ap}
use Rattle.ap_files.specs.Files.{FileState}
use Rattle.ap_elf.specs.Symbols.{strings_of}
use Rattle.ap_elf.proofs.Beginnings.{one-begins}
use Rattle.ap_elf.proofs.begun.part_begins_in.Goals as goal

pub loop-i-preserved : goal.loop-i-preserved
loop-i-preserved g c =
    let l = c.loop-i.invariant in
    let read = c.in_ok-begins_in.ensures in
    record {
      state = read.0 ∙ l.state;
      none = λ m b told at.
          one-begins (strings_of b c.args.t.now) c.args.text.now c.args.part.now c.loop-i.i c.symbol_from-s.result c.symbol_from-s.ensures
          (read.1 m b (ap (λ (s : FileState). s.kept) l.state ∙ told) at c.if-branch.false) (l.none m b told at);
    }
