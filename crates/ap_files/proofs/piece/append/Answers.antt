use Rattle.std.proofs.Common.{arith}
use Rattle.ap_files.specs.Appends.{Appends}
use Rattle.ap_files.proofs.Growing.{added_below}
use Rattle.ap_files.proofs.Appending.{nothing, added, add-failed, write-failed, still-unfinished}
use Rattle.ap_files.proofs.piece.append.Goals as goal

pub loop-at-init : goal.loop-at-init
loop-at-init g c = record {
  below = omega arith;
  done = nothing (g.F.Files.state c.args.files.now) c.args.name.now c.requires;
}

pub add-requires : goal.add-requires
add-requires g c =
    still-unfinished (g.F.Files.state c.args.files.now) (g.F.Files.state c.loop-at.files) c.args.name.now _ c.loop-at.invariant.done c.requires

pub returns-in_err-at : goal.returns-in_err-at
returns-in_err-at g c =
    let old = g.F.Files.state c.args.files.now in
    let mid = g.F.Files.state c.loop-at.files in
    let new = g.F.Files.state c.add.new.self in
    write-failed (Appends old new c.args.name.now c.args.piece.now) c.from_residual.result c.from_residual.ensures.0
    (add-failed old mid new c.args.name.now c.args.piece.now _ c.loop-at.at c.in_err-at.field-0.0 c.requires c.loop-at.invariant.done c.in_err-at.ensures)

pub loop-at-preserved : goal.loop-at-preserved
loop-at-preserved g c =
    let old = g.F.Files.state c.args.files.now in
    let mid = g.F.Files.state c.loop-at.files in
    let new = g.F.Files.state c.add.new.self in
    let before = c.loop-at.invariant in
    let wrote = c.in_ok-at.ensures in
    record {
      below = added_below mid new c.args.name.now c.args.piece.now c.loop-at.at c.in_ok-at.field-0 before.below wrote;
      done = added old mid new c.args.name.now c.args.piece.now c.loop-at.at c.in_ok-at.field-0 before.below before.done wrote;
    }
