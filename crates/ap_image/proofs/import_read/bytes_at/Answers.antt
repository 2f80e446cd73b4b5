use Rattle.std.proofs.Common.{replicate, ◌+◌, ◌<◌, ◌≤◌, ◌∙◌, length, ap, arith, refl, length-set}
use Rattle.std.proofs.lemmas.List.{length-replicate}
use Rattle.ap_image.specs.Cells.{CellsState}
use Rattle.ap_image.specs.ImportWalk.{byte_at, bytes_from}
use Rattle.ap_image.proofs.Fetching.{fetch-out}
use Rattle.ap_image.proofs.ImportReads.{filled-start, filled-more, filled-none, filled-end}
use Rattle.ap_image.proofs.import_read.bytes_at.Goals as goal

pub loop-i-init : goal.loop-i-init
loop-i-init g c = record {
  state = refl;
  long = length-replicate g.row.N 0;
  left = λ m told. filled-start m c.args.at g.row.N (replicate g.row.N 0);
}

pub loop-i-preserved : goal.loop-i-preserved
loop-i-preserved g c =
    let read = c.in_ok-bytes.ensures in
    let within : c.loop-i.i < g.row.N = omega arith in
    let long : c.loop-i.i < length c.loop-i.bytes = omega arith in
    record {
      state = read.0 ∙ c.loop-i.invariant.state;
      long = length-set c.loop-i.bytes c.loop-i.i c.in_ok-bytes.field-0 ∙ c.loop-i.invariant.long;
      left = λ m told.
          filled-more m c.args.at g.row.N c.loop-i.i c.in_ok-bytes.field-0 c.loop-i.bytes _ within long (c.loop-i.invariant.left m told)
          (read.1 m (ap (λ (s : CellsState). s.told) c.loop-i.invariant.state ∙ told));
    }

pub returns-in_err-bytes : goal.returns-in_err-bytes
returns-in_err-bytes g c =
    let within : c.loop-i.i < g.row.N = omega arith in
    fetch-out (g.C.Cells.state c.args.cells.now) (g.C.Cells.state c.loop-i.cells) (g.C.Cells.state c.byte_at.new.cells)
    (λ m. byte_at m (c.args.at + c.loop-i.i)) (λ m. bytes_from m c.args.at g.row.N) c.from_residual.result c.in_err-bytes.field-0.0 c.loop-i.invariant.state
    (λ m f told none. filled-none m c.args.at g.row.N c.loop-i.i c.loop-i.bytes f _ within (c.loop-i.invariant.left m told) none)
    c.in_err-bytes.ensures c.from_residual.ensures.1

pub returns : goal.returns
returns g c =
    let end : g.row.N ≤ c.loop-i.i = omega arith in (
      c.loop-i.invariant.state,
      λ m told. filled-end m c.args.at g.row.N c.loop-i.i c.loop-i.bytes _ end c.loop-i.invariant.long (c.loop-i.invariant.left m told),
    )
