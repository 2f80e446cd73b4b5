use Rattle.std.proofs.Common.{◌≡◌, drop}
use Rattle.ap_script.specs.Tables.{place_of}
use Rattle.ap_script.proofs.place.place_of.Given as goal

abbrev pub invariant-loop-i : goal.invariant-loop-i
invariant-loop-i l = place_of l.granule l.loads l.areas l.address ≡ place_of l.granule (drop l.i l.loads) (drop l.i l.areas) l.address
