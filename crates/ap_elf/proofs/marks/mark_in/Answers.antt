use Rattle.std.proofs.Common.{◌≤◌, ◌<◌, ◌+◌, ◌∙◌, arith, ap, length}
use Rattle.ap_files.specs.Files.{FileState}
use Rattle.ap_files.proofs.ReadLemmas.{told_of}
use Rattle.ap_elf.specs.Symbols.{strings_of}
use Rattle.ap_elf.proofs.Searches.{length-strings}
use Rattle.ap_elf.proofs.Markings.{marked-next, marked-all}
use Rattle.ap_elf.proofs.marks.mark_in.Goals as goal

pub loop-at-preserved : goal.loop-at-preserved
loop-at-preserved g c =
    let t = c.args.t.now in
    let n = c.min-count.result in
    let within : c.loop-at.at + n ≤ t.length = grind arith in
    let long : length c.args.text.now ≤ n = grind arith in
    let some : 0 < length c.mark_piece_in.new.marks = grind arith in
    let read = c.in_ok-mark_piece_in.ensures.marked in
    record {
      state = read.0 ∙ c.loop-at.invariant.state;
      some = some;
      high = omega arith;
      marked = λ m b told at.
          let len = length-strings b t (told_of (g.F.Files.state c.args.files.now).kept c.args.name.now m b c.requires.tables.told told at) in
          marked-next (strings_of b t) c.args.text.now c.loop-at.at n c.loop-at.marks c.mark_piece_in.new.marks (omega arith) long
          (c.loop-at.invariant.marked m b told at) c.in_ok-mark_piece_in.ensures.kept
          (read.1 m b (ap (λ (s : FileState). s.kept) c.loop-at.invariant.state ∙ told) at);
    }

pub returns : goal.returns
returns g c = (
  c.loop-at.invariant.state,
  λ m b told at.
      let len = length-strings b c.args.t.now (told_of (g.F.Files.state c.args.files.now).kept c.args.name.now m b c.requires.tables.told told at) in
      let past = c.loop-at-test.false in
      marked-all (strings_of b c.args.t.now) c.args.text.now c.loop-at.at c.loop-at.marks (omega arith) (c.loop-at.invariant.marked m b told at),
)
