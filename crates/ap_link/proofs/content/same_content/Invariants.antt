use Rattle.std.proofs.Common.{◌≡◌, ◌≤◌, ℕ, ◌-◌, length, take, Some}
use Rattle.ap_files.specs.Files.{FileMap}
use Rattle.ap_layout.specs.Areas.{content_of}
use Rattle.ap_link.specs.Compared.{byte_told}
use Rattle.ap_link.proofs.content.same_content.Given as goal

-- so far the contents are the same
abbrev pub invariant-loop-at : goal.invariant-loop-at
invariant-loop-at g l = record {
  below : l.at ≤ l.length;
  state : g.F.Files.state l.files ≡ g.F.Files.state l.fn.files;
  same : (m : FileMap) → (g.F.Files.state l.fn.files).kept ≡ Some m
      → take l.at (content_of l.one.granule (byte_told (g.F.Files.state l.fn.files).kept l.one.name.now) l.load) ≡ take l.at (content_of l.granule (byte_told (g.F.Files.state l.fn.files).kept l.name) l.other);
  room : (let size : ℕ = 32768 in length l.ours ≡ size);
  others : (let size : ℕ = 32768 in length l.theirs ≡ size);
}

abbrev pub decreases-loop-at : goal.decreases-loop-at
decreases-loop-at g l = l.length - l.at
