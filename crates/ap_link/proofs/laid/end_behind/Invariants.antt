use Rattle.std.proofs.Common.{◌≡◌, drop}
use Rattle.ap_layout.specs.Areas.{end_from}
use Rattle.ap_link.proofs.laid.end_behind.Given as goal

-- what is left ends where all end
abbrev pub invariant-loop-area : goal.invariant-loop-area
invariant-loop-area l = end_from l.end (drop l.area-index l.areas) ≡ end_from l.from l.areas
