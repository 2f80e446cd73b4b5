use Rattle.std.proofs.Common.{◌≡◌, ◌++◌, length, map, drop, Some}
use Rattle.ap_files.specs.Files.{FileMap}
use Rattle.ap_layout.specs.Twins.{mask_of}
use Rattle.ap_link.specs.Compared.{byte_told}
use Rattle.ap_link.proofs.twins.find_masks.Given as goal

-- the masks so far, and those of the loads that are left
abbrev pub invariant-loop-load : goal.invariant-loop-load
invariant-loop-load g l = record {
  state : g.F.Files.state l.files ≡ g.F.Files.state l.fn.files;
  count : length l.masks.items ≡ l.load-index;
  told : (m : FileMap) → (g.F.Files.state l.fn.files).kept ≡ Some m
      → l.masks.items
      ++ map (λ q. mask_of l.one.granule (byte_told (g.F.Files.state l.fn.files).kept l.one.name.now) l.one.loads.now l.other.granule (byte_told (g.F.Files.state l.fn.files).kept l.other.name.now) q) (drop l.load-index l.other.loads.now)
      ≡ map (λ q. mask_of l.one.granule (byte_told (g.F.Files.state l.fn.files).kept l.one.name.now) l.one.loads.now l.other.granule (byte_told (g.F.Files.state l.fn.files).kept l.other.name.now) q) l.other.loads.now;
}
