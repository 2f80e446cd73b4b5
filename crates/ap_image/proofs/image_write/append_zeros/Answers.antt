use Rattle.std.proofs.Common.{arith}
use Rattle.ap_fields.specs.Bytes.{zeros}
use Rattle.ap_files.specs.Appends.{Appends}
use Rattle.ap_files.specs.declared.failure.FileFault.TheVariants.{Write}
use Rattle.ap_files.proofs.Appending.{write-failed, still-unfinished}
use Rattle.ap_image.proofs.ImageWriting.{zeros-start, zeros-more, zeros-stop}
use Rattle.ap_image.proofs.image_write.append_zeros.Goals as goal

pub loop-at-init : goal.loop-at-init
loop-at-init g c = record {
  below = omega arith;
  done = zeros-start (g.F.Files.state c.args.files.now) c.args.name.now c.requires;
}

pub append-requires : goal.append-requires
append-requires g c =
    still-unfinished (g.F.Files.state c.args.files.now) (g.F.Files.state c.loop-at.files) c.args.name.now (zeros c.loop-at.at) c.loop-at.invariant.done c.requires

pub returns-in_err-append : goal.returns-in_err-append
returns-in_err-append g c =
    let old = g.F.Files.state c.args.files.now in
    let new = g.F.Files.state c.append.new.files in
    let below = c.loop-at.invariant.below in
    let size = c.min-size.ensures in
    write-failed (Appends old new c.args.name.now (zeros c.args.count)) c.from_residual.result c.from_residual.ensures.0
    (zeros-stop old (g.F.Files.state c.loop-at.files) new c.args.name.now c.loop-at.at c.min-size.result c.args.count 32768 Write (omega arith) (omega arith) c.loop-at.invariant.done c.in_err-append.ensures)

pub loop-at-preserved : goal.loop-at-preserved
loop-at-preserved g c =
    let below = c.loop-at.invariant.below in
    let size = c.min-size.ensures in
    record {
      below = omega arith;
      done = zeros-more (g.F.Files.state c.args.files.now) (g.F.Files.state c.loop-at.files) (g.F.Files.state c.append.new.files) c.args.name.now c.loop-at.at c.min-size.result 32768 (omega arith)
          c.loop-at.invariant.done c.in_ok-append.ensures;
    }
