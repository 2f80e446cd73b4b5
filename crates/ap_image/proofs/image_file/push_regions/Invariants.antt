use Rattle.std.proofs.Common.{◌≡◌, ◌++◌, ℕ, length, take, drop, flat_map}
use Rattle.ap_fields.specs.Readings.{bytes_in}
use Rattle.ap_image.specs.Plans.{AreAscendingFrom, AreBacked}
use Rattle.ap_image.specs.ImageFiles.{region_bytes}
use Rattle.ap_image.proofs.image_file.push_regions.Given as goal

abbrev pub invariant-loop-r : goal.invariant-loop-r
invariant-loop-r l = record {
  items : l.out.items ≡ l.fn.out.items ++ flat_map (region_bytes (bytes_in l.file)) (take l.r-index l.regions);
  regions : (low : ℕ) × AreAscendingFrom low (drop l.r-index l.regions);
  backed : AreBacked (drop l.r-index l.regions) (length l.file);
}
