use Rattle.std.proofs.Common.{ℕ, None, length, take, drop, flat_map}
use Rattle.ap_fields.specs.Readings.{bytes_in}
use Rattle.ap_files.specs.Appends.{Appends}
use Rattle.ap_image.specs.Plans.{AreAscendingFrom, AreBacked}
use Rattle.ap_image.specs.ImageFiles.{region_bytes}
use Rattle.ap_image.proofs.image_write.append_regions.Given as goal

abbrev pub invariant-loop-r : goal.invariant-loop-r
invariant-loop-r g l = record {
  regions : (low : ℕ) × AreAscendingFrom low (drop l.r-index l.regions);
  backed : AreBacked (drop l.r-index l.regions) (length l.file);
  done : Appends (g.F.Files.state l.fn.files) (g.F.Files.state l.files) l.name (flat_map (region_bytes (bytes_in l.file)) (take l.r-index l.regions)) None;
}
