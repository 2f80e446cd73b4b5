use Rattle.std.proofs.Common.{◌≡◌, ◌≤◌, ◌+◌, ◌^◌, drop}
use Rattle.ap_image.specs.ImageFiles.{total_of}
use Rattle.ap_image.proofs.image_file.total.Given as goal

abbrev pub invariant-loop-r : goal.invariant-loop-r
invariant-loop-r l = record {
  left : total_of l.regions ≡ l.total + total_of (drop l.r-index l.regions);
  top : total_of l.regions ≤ 2 ^ 47;
}
