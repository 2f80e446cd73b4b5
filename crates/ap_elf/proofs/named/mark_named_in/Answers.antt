use Rattle.std.proofs.Common.{◌≤◌, ◌+◌, ◌∙◌, arith, ap}
use Rattle.ap_files.specs.Files.{FileState}
use Rattle.ap_elf.proofs.Naming.{more-named}
use Rattle.ap_elf.proofs.named.mark_named_in.Goals as goal

pub loop-done-preserved : goal.loop-done-preserved
loop-done-preserved g c =
    let t = c.args.t.now in
    let l = c.loop-done.invariant in
    let within : c.loop-done.done + c.min-count.result ≤ t.count = grind arith in
    let read = c.in_ok-mark_block_in.ensures.marked in
    record {
      state = read.0 ∙ l.state;
      some = grind arith;
      below = within;
      marked = λ m b told at.
          more-named b t.at c.loop-done.done c.min-count.result c.loop-done.marks c.mark_block_in.new.marks c.in_ok-mark_block_in.ensures.kept
          (l.marked m b told at) (read.1 m b (ap (λ (s : FileState). s.kept) l.state ∙ told) at);
    }
