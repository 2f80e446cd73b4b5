use Rattle.std.proofs.Common.{◌≤◌, ◌+◌, ◌∙◌, arith, ap}
use Rattle.ap_files.specs.Files.{FileState}
use Rattle.ap_elf.specs.Symbols.{strings_of}
use Rattle.ap_elf.proofs.Beginnings.{more-begin}
use Rattle.ap_elf.proofs.begun.any_in.Goals as goal

pub loop-done-preserved : goal.loop-done-preserved
loop-done-preserved g c =
    let t = c.args.t.now in
    let l = c.loop-done.invariant in
    let within : c.loop-done.done + c.min-count.result ≤ t.count = grind arith in
    let read = c.in_ok-block_begins_in.ensures in
    record {
      state = read.0 ∙ l.state;
      below = within;
      none = λ m b told at.
          more-begin (strings_of b t) c.args.text.now b t.at c.loop-done.done c.min-count.result (l.none m b told at)
          (read.1 m b (ap (λ (s : FileState). s.kept) l.state ∙ told) at c.if-branch.false);
    }
