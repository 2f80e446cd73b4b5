use Rattle.std.proofs.Common.{◌≡◌, ◌≤◌, ◌<◌, ◌-◌, ◌^◌, length, drop, Some}
use Rattle.ap_files.specs.Files.{FileMap}
use Rattle.ap_layout.specs.Twins.{mask_of}
use Rattle.ap_link.specs.Compared.{byte_told}
use Rattle.ap_link.proofs.twins.find_mask.Given as goal

-- the mask of the loads behind those that are left
abbrev pub invariant-loop-left : goal.invariant-loop-left
invariant-loop-left g l = record {
  below : l.left ≤ length l.one.loads.now;
  state : g.F.Files.state l.files ≡ g.F.Files.state l.fn.files;
  bits : l.mask < 2 ^ (length l.one.loads.now - l.left);
  told : (m : FileMap) → (g.F.Files.state l.fn.files).kept ≡ Some m
      → l.mask ≡ mask_of l.one.granule (byte_told (g.F.Files.state l.fn.files).kept l.one.name.now) (drop l.left l.one.loads.now) l.granule (byte_told (g.F.Files.state l.fn.files).kept l.name) l.load;
}

abbrev pub decreases-loop-left : goal.decreases-loop-left
decreases-loop-left g l = l.left
