use Rattle.std.proofs.Common.{◌≡◌, ◌≤◌, ◌+◌, refl, arith, length, take, drop, length-append, length-drop, None}
use Rattle.std.proofs.lemmas.List.{length-take-le}
use Rattle.ap_files.specs.declared.failure.FileFault.TheVariants.{Write}
use Rattle.ap_files.proofs.Appending.{nothing}
use Rattle.ap_link.proofs.Copying.{copy-range, copy-unread, copy-unwritten, copy-turn, copy-open}
use Rattle.ap_link.proofs.copy.copy.Goals as goal

pub loop-done-init : goal.loop-done-init
loop-done-init g c = record {
  below = omega arith;
  copied = nothing (g.F.Files.state c.args.files.now) c.args.out.now c.requires.out;
  room = refl;
}

pub read_at-requires : goal.read_at-requires
read_at-requires g c =
    let size = c.min-size.result in
    let within : c.loop-done.done + size ≤ c.args.count = grind arith in
    let long : length (take size c.loop-done.buffer) ≡ size = length-take-le size c.loop-done.buffer (grind arith) in
    copy-range (g.F.Files.state c.args.files.now) (g.F.Files.state c.loop-done.files) c.args.input.now c.args.out.now c.args.from c.args.count c.loop-done.done (length (take size c.loop-done.buffer))
    c.requires.apart c.requires.range (omega arith) c.loop-done.invariant.copied

pub returns-in-Err : goal.returns-in-Err
returns-in-Err g c =
    copy-unread (g.F.Files.state c.args.files.now) (g.F.Files.state c.loop-done.files) (g.F.Files.state c.read_at.new.self) c.args.input.now c.args.out.now c.args.from c.args.count c.loop-done.done
    (c.args.from + c.loop-done.done) (take c.min-size.result c.loop-done.buffer) c.read_at.new.buf c.in-Err.field-0 c.requires.out c.loop-done.invariant.below c.loop-done.invariant.copied c.in-Err.ensures

pub append-requires : goal.append-requires
append-requires g c =
    copy-open (g.F.Files.state c.args.files.now) (g.F.Files.state c.loop-done.files) (g.F.Files.state c.read_at.new.self) c.args.input.now c.args.out.now c.args.from c.loop-done.done
    (c.args.from + c.loop-done.done) (take c.min-size.result c.loop-done.buffer) c.read_at.new.buf c.requires.out c.loop-done.invariant.copied c.in_default.ensures

pub returns-in-Err-append : goal.returns-in-Err-append
returns-in-Err-append g c =
    let size = c.min-size.result in
    let within : c.loop-done.done + size ≤ c.args.count = grind arith in
    let long : length (take size c.loop-done.buffer) ≡ size = length-take-le size c.loop-done.buffer (grind arith) in
    copy-unwritten (g.F.Files.state c.args.files.now) (g.F.Files.state c.loop-done.files) (g.F.Files.state c.read_at.new.self) (g.F.Files.state c.append.new.files)
    c.args.input.now c.args.out.now c.args.from c.args.count c.loop-done.done size (take size c.loop-done.buffer) c.read_at.new.buf Write
    c.requires.apart c.requires.range within long c.loop-done.invariant.copied c.in_default.ensures c.in-Err-append.ensures

pub loop-done-preserved : goal.loop-done-preserved
loop-done-preserved g c =
    let size = c.min-size.result in
    let within : c.loop-done.done + size ≤ c.args.count = grind arith in
    let long : length (take size c.loop-done.buffer) ≡ size = length-take-le size c.loop-done.buffer (grind arith) in
    record {
      below = within;
      copied = copy-turn (g.F.Files.state c.args.files.now) (g.F.Files.state c.loop-done.files) (g.F.Files.state c.read_at.new.self) (g.F.Files.state c.append.new.files)
          c.args.input.now c.args.out.now c.args.from c.args.count c.loop-done.done size (take size c.loop-done.buffer) c.read_at.new.buf None
          c.requires.apart c.requires.range within long c.loop-done.invariant.copied c.in_default.ensures c.in_default-append.ensures;
      room =
          let whole = length-append c.read_at.new.buf (drop size c.loop-done.buffer) in
          let rest = length-drop size c.loop-done.buffer in
          let same = c.read_at.auto.buf in
          let before = c.loop-done.invariant.room in
          omega arith;
    }
