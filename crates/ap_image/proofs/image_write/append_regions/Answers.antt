use Rattle.std.proofs.Common.{flat_map, length}
use Rattle.ap_fields.specs.Readings.{bytes_in}
use Rattle.ap_files.specs.Appends.{Appends}
use Rattle.ap_files.specs.declared.failure.FileFault.TheVariants.{Write}
use Rattle.ap_files.proofs.Appending.{nothing, write-failed, still-unfinished}
use Rattle.ap_image.specs.ImageFiles.{region_bytes}
use Rattle.ap_image.proofs.ImageWriting.{region-more, region-stop, ascending-next, backed-next}
use Rattle.ap_image.proofs.image_write.append_regions.Goals as goal

pub loop-r-init : goal.loop-r-init
loop-r-init g c = record {
  regions = (0, c.requires.regions);
  backed = c.requires.backed;
  done = nothing (g.F.Files.state c.args.files.now) c.args.name.now c.requires.name;
}

pub append_region-requires-clause-name : goal.append_region-requires-clause-name
append_region-requires-clause-name g c =
    still-unfinished (g.F.Files.state c.args.files.now) (g.F.Files.state c.loop-r.files) c.args.name.now _ c.loop-r.invariant.done c.requires.name

pub returns-in_err-append_region : goal.returns-in_err-append_region
returns-in_err-append_region g c =
    let old = g.F.Files.state c.args.files.now in
    let new = g.F.Files.state c.append_region.new.files in
    let f = region_bytes (bytes_in c.args.file.now) in
    write-failed (Appends old new c.args.name.now (flat_map f c.args.regions.now)) c.from_residual.result c.from_residual.ensures.0
    (region-stop old (g.F.Files.state c.loop-r.files) new c.args.name.now f c.args.regions.now c.loop-r.r-index _ Write c.loop-r-test.true c.loop-r.invariant.done c.in_err-append_region.ensures)

pub loop-r-preserved : goal.loop-r-preserved
loop-r-preserved g c = record {
  regions = ascending-next c.args.regions.now c.loop-r.r-index c.loop-r-test.true c.loop-r.invariant.regions;
  backed = backed-next c.args.regions.now c.loop-r.r-index (length c.args.file.now) c.loop-r-test.true c.loop-r.invariant.backed;
  done = region-more (g.F.Files.state c.args.files.now) (g.F.Files.state c.loop-r.files) (g.F.Files.state c.append_region.new.files) c.args.name.now (region_bytes (bytes_in c.args.file.now)) c.args.regions.now c.loop-r.r-index _
      c.loop-r-test.true c.loop-r.invariant.done c.in_ok-append_region.ensures;
}
