use Rattle.std.proofs.Common.{◌-◌, ◌≡◌, ◌≤◌, ◌<◌, ◌∷◌, ℕ, List, length, drop}
use Rattle.ap_image.specs.Plans.{end_of, region_at, cell_in}
use Rattle.ap_image.specs.declared.plan.Region.{Region}
use Rattle.ap_image.proofs.cells.ended.Given as goal

abbrev pub invariant-loop-low : goal.invariant-loop-low
invariant-loop-low l = record {
  low : l.low ≤ l.high;
  high : l.high ≤ length l.regions;
  before : (byte : ℕ → ℕ) → cell_in byte (drop l.low l.regions) l.a ≡ cell_in byte l.regions l.a;
  region : region_at (drop l.low l.regions) l.a ≡ region_at l.regions l.a;
  behind : (r : Region) (rest : List Region) → drop l.high l.regions ≡ r ∷ rest → l.a < end_of r;
}

abbrev pub decreases-loop-low : goal.decreases-loop-low
decreases-loop-low l = l.high - l.low
