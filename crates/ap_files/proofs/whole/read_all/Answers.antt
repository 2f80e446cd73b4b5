use Rattle.std.proofs.Common.{◌≡◌, ◌∙◌, ◌+◌, ◌≤◌, arith, ap, length, take, drop, length-append, length-drop}
use Rattle.std.proofs.lemmas.List.{length-take-le}
use Rattle.ap_files.proofs.Wholes.{more-read, still-read, whole-read}
use Rattle.ap_files.proofs.whole.read_all.Goals as goal

pub loop-done-preserved : goal.loop-done-preserved
loop-done-preserved g c =
    let old = g.F.Files.state c.args.files.now in
    let now = g.F.Files.state c.loop-done.files in
    let new = g.F.Files.state c.read_at.new.self in
    let done = c.loop-done.done in
    let n = c.min-count.result in
    let l = c.loop-done.invariant in
    let within : done + n ≤ c.args.size = grind arith in
    let part : length (take n c.loop-done.buffer) ≡ n = length-take-le n c.loop-done.buffer (grind arith) in
    let long : length c.read_at.new.buf ≡ n = c.read_at.auto.buf ∙ part in
    let items = c.in_default-extend_from_slice.ensures.items in
    record {
      state = still-read old now new c.args.name.now (take n c.loop-done.buffer) c.read_at.new.buf done l.state c.in_default-read_at.ensures;
      below = within;
      long = ap length items ∙ length-append c.loop-done.bytes.items c.read_at.new.buf ∙ (let so = l.long in omega arith);
      room =
          let whole = length-append c.read_at.new.buf (drop n c.loop-done.buffer) in
          let rest = length-drop n c.loop-done.buffer in
          let before = l.room in
          omega arith;
      read = λ m b told at. items ∙ more-read old now new c.args.name.now c.loop-done.bytes.items (take n c.loop-done.buffer) c.read_at.new.buf done n l.state part c.in_default-read_at.ensures l.read m b told at;
    }

pub returns-clause-bytes : goal.returns-clause-bytes
returns-clause-bytes g c = (
  c.loop-done.invariant.state,
  whole-read (g.F.Files.state c.args.files.now) c.args.name.now c.loop-done.bytes.items c.args.size c.loop-done.done
      c.requires.size (let past = c.loop-done-test.false in omega arith) c.loop-done.invariant.read,
)
