-- The parts of an input that are copied one behind the other.
use Rattle.std.proofs.Common.{◌≡◌, ℕ, ◌+◌, ◌-◌, ◌≤◌, List, ◌++◌, sym, ap, ◌∙◌, arith}
use Rattle.ap_fields.specs.Readings.{bytes_in}
use Rattle.ap_link.specs.Sources.{part_of}
use Rattle.ap_image.proofs.RegionBytes.{listed-append}

-- a part, and the bytes behind it
pub part-more : (b : List ℕ) (from done size : ℕ) → part_of from done b ++ part_of (from + done) size b ≡ part_of from (done + size) b
part-more b from done size = sym (listed-append (bytes_in b) from done size)

pub part-rest : (b : List ℕ) (from count done : ℕ) → done ≤ count → part_of from done b ++ part_of (from + done) (count - done) b ≡ part_of from count b
part-rest b from count done h = part-more b from done (count - done) ∙ ap (λ n. part_of from n b) (let e : done + (count - done) ≡ count = omega arith in e)
