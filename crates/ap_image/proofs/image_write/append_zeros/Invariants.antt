use Rattle.std.proofs.Common.{◌≤◌, ◌-◌, None}
use Rattle.ap_fields.specs.Bytes.{zeros}
use Rattle.ap_files.specs.Appends.{Appends}
use Rattle.ap_image.proofs.image_write.append_zeros.Given as goal

abbrev pub invariant-loop-at : goal.invariant-loop-at
invariant-loop-at g l = record {
  below : l.at ≤ l.count;
  done : Appends (g.F.Files.state l.fn.files) (g.F.Files.state l.files) l.name (zeros l.at) None;
}

abbrev pub decreases-loop-at : goal.decreases-loop-at
decreases-loop-at g l = l.count - l.at
