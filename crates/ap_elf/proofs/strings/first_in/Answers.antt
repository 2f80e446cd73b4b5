use Rattle.std.proofs.Common.{◌≤◌, ◌+◌, ◌∙◌, arith, ap, length}
use Rattle.ap_files.specs.Files.{FileState}
use Rattle.ap_files.proofs.ReadLemmas.{told_of}
use Rattle.ap_elf.specs.Symbols.{strings_of}
use Rattle.ap_elf.proofs.Searches.{length-strings, search-next, search-found, search-none}
use Rattle.ap_elf.proofs.strings.first_in.Goals as goal

pub loop-at-preserved : goal.loop-at-preserved
loop-at-preserved g c =
    let t = c.args.t.now in
    let n = c.min-count.result in
    let within : c.loop-at.at + n ≤ t.length = grind arith in
    let long : length c.args.text.now ≤ n = grind arith in
    let read = rw c.in-None.is at c.in_ok-first_in_piece.ensures.first in
    let low = c.loop-at.invariant.low in
    record {
      state = read.0 ∙ c.loop-at.invariant.state;
      low = omega arith;
      high = omega arith;
      before = λ m b told at.
          let len = length-strings b t (told_of (g.F.Files.state c.args.files.now).kept c.args.name.now m b c.requires.tables.told told at) in
          search-next (strings_of b t) c.args.text.now c.loop-at.at n (omega arith) c.args.from long
          (c.loop-at.invariant.before m b told at) (read.1 m b (ap (λ (s : FileState). s.kept) c.loop-at.invariant.state ∙ told) at);
    }

pub returns-in-Some-clause-first : goal.returns-in-Some-clause-first
returns-in-Some-clause-first g c =
    let t = c.args.t.now in
    let n = c.min-count.result in
    let within : c.loop-at.at + n ≤ t.length = grind arith in
    let read = rw c.in-Some.is at c.in_ok-first_in_piece.ensures.first in (
      read.0 ∙ c.loop-at.invariant.state,
      λ m b told at.
          let len = length-strings b t (told_of (g.F.Files.state c.args.files.now).kept c.args.name.now m b c.requires.tables.told told at) in
          search-found (strings_of b t) c.args.text.now c.loop-at.at n (omega arith) c.args.from c.in-Some.place c.loop-at.invariant.low
          (c.loop-at.invariant.before m b told at) (read.1 m b (ap (λ (s : FileState). s.kept) c.loop-at.invariant.state ∙ told) at),
    )

pub returns-clause-first : goal.returns-clause-first
returns-clause-first g c = (
  c.loop-at.invariant.state,
  λ m b told at.
      let len = length-strings b c.args.t.now (told_of (g.F.Files.state c.args.files.now).kept c.args.name.now m b c.requires.tables.told told at) in
      let past = c.loop-at-test.false in
      search-none (strings_of b c.args.t.now) c.args.text.now c.args.from c.loop-at.at (omega arith) (c.loop-at.invariant.before m b told at),
)
