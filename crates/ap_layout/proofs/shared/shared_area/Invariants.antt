use Rattle.std.proofs.Common.{◌≡◌, drop}
use Rattle.ap_layout.specs.Twins.{shared_area}
use Rattle.ap_layout.proofs.shared.shared_area.Given as goal

-- the area is one of those that are left
abbrev pub invariant-loop-area : goal.invariant-loop-area
invariant-loop-area l = shared_area l.granule l.len l.mask l.areas ≡ shared_area l.granule l.len l.bits (drop l.area-index l.areas)
