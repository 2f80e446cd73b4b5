use Rattle.std.proofs.Common.{◌≡◌, ℕ, ◌+◌, ◌*◌, ◌≤◌, drop}
use Rattle.ap_check.specs.Inputs.{AreLoads}
use Rattle.ap_layout.specs.Headers.{section_count}
use Rattle.ap_layout.proofs.headers.section_count.Given as goal

abbrev pub invariant-loop-p : goal.invariant-loop-p
invariant-loop-p l = record {
  left : l.count + section_count l.granule l.end (drop l.p-index l.loads) ≡ section_count l.granule l.front l.loads;
  few : l.count ≤ 2 * l.p-index;
  loads : (size : ℕ) × (low : ℕ) × AreLoads l.granule size low (drop l.p-index l.loads);
}
