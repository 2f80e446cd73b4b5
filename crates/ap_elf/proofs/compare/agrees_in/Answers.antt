use Rattle.std.proofs.Common.{◌≡◌, ◌≤◌, ◌+◌, ◌-◌, ◌∙◌, arith, ap, length, take, drop, length-drop}
use Rattle.std.specs.Str.{bytes_eq}
use Rattle.std.proofs.lemmas.List.{length-take-le}
use Rattle.ap_files.specs.Files.{FileState}
use Rattle.ap_elf.proofs.Comparing.{agree-next, agree-not}
use Rattle.ap_elf.proofs.compare.agrees_in.Goals as goal

pub loop-done-preserved : goal.loop-done-preserved
loop-done-preserved g c =
    let text = c.args.text.now in
    let done = c.loop-done.done in
    let n = c.min-count.result in
    let within : done + n ≤ length text = grind arith in
    let piece : done + n - done ≡ n = omega arith in
    let long : length (take n (drop done text)) ≡ n = length-take-le n (drop done text) (omega (arith, length-drop done text)) in
    let read = rw c.if-not-branch.false at c.in_ok-piece_agrees_in.ensures in
    record {
      state = read.0 ∙ c.loop-done.invariant.state;
      below = within;
      left = λ m b told at.
          agree-next b text c.args.at done n _ within (c.loop-done.invariant.left m b told at)
          (read.1 m b (ap (λ (s : FileState). s.kept) c.loop-done.invariant.state ∙ told) at
          ∙ ap (λ k. bytes_eq (take (length (take k (drop done text))) (drop (c.args.at + done) b)) (take k (drop done text))) piece
          ∙ ap (λ k. bytes_eq (take k (drop (c.args.at + done) b)) (take n (drop done text))) long);
    }

pub returns-then-not-branch : goal.returns-then-not-branch
returns-then-not-branch g c =
    let text = c.args.text.now in
    let done = c.loop-done.done in
    let n = c.min-count.result in
    let within : done + n ≤ length text = grind arith in
    let piece : done + n - done ≡ n = omega arith in
    let long : length (take n (drop done text)) ≡ n = length-take-le n (drop done text) (omega (arith, length-drop done text)) in
    let read = rw c.if-not-branch.true at c.in_ok-piece_agrees_in.ensures in (
      read.0 ∙ c.loop-done.invariant.state,
      λ m b told at.
          agree-not b text c.args.at done n _ within (c.loop-done.invariant.left m b told at)
          (read.1 m b (ap (λ (s : FileState). s.kept) c.loop-done.invariant.state ∙ told) at
          ∙ ap (λ k. bytes_eq (take (length (take k (drop done text))) (drop (c.args.at + done) b)) (take k (drop done text))) piece
          ∙ ap (λ k. bytes_eq (take k (drop (c.args.at + done) b)) (take n (drop done text))) long),
    )
