use Rattle.std.proofs.Common.{◌≡◌, ℕ, drop}
use Rattle.ap_check.specs.Inputs.{AreLoads, last_stop}
use Rattle.ap_check.proofs.windows.stop_of.Given as goal

abbrev pub invariant-loop-p : goal.invariant-loop-p
invariant-loop-p l = ((size : ℕ) × AreLoads l.granule size l.stop (drop l.p-index l.loads))
    × (last_stop l.granule 0 l.loads ≡ last_stop l.granule l.stop (drop l.p-index l.loads))
