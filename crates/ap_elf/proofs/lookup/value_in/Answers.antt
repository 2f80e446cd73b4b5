use Rattle.std.proofs.Common.{◌≤◌, ◌+◌, ◌∙◌, refl, arith, ap}
use Rattle.ap_files.specs.Files.{FileState}
use Rattle.ap_elf.specs.Symbols.{strings_of}
use Rattle.ap_elf.proofs.Values.{value-start, block-next, block-found}
use Rattle.ap_elf.proofs.lookup.value_in.Goals as goal

pub loop-done-init : goal.loop-done-init
loop-done-init g c = record {
  state = refl;
  below = omega arith;
  left = λ m b told at. value-start b c.args.wanted.now c.args.t.now;
}

pub loop-done-preserved : goal.loop-done-preserved
loop-done-preserved g c =
    let t = c.args.t.now in
    let within : c.loop-done.done + c.min-count.result ≤ t.count = grind arith in
    let read = rw c.in-None.is at c.in_ok-block_in.ensures in
    record {
      state = read.0 ∙ c.loop-done.invariant.state;
      below = within;
      left = λ m b told at.
          block-next b (strings_of b t) c.args.wanted.now t.at t.count c.loop-done.done c.min-count.result _ within
          (c.loop-done.invariant.left m b told at) (read.1 m b (ap (λ (s : FileState). s.kept) c.loop-done.invariant.state ∙ told) at);
    }

pub returns-in-Some : goal.returns-in-Some
returns-in-Some g c =
    let t = c.args.t.now in
    let within : c.loop-done.done + c.min-count.result ≤ t.count = grind arith in
    let read = rw c.in-Some.is at c.in_ok-block_in.ensures in (
      read.0 ∙ c.loop-done.invariant.state,
      λ m b told at.
          block-found b (strings_of b t) c.args.wanted.now t.at t.count c.loop-done.done c.min-count.result c.in-Some.value _ within
          (c.loop-done.invariant.left m b told at) (read.1 m b (ap (λ (s : FileState). s.kept) c.loop-done.invariant.state ∙ told) at),
    )
