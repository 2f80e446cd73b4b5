use Rattle.std.proofs.Common.{◌≡◌, ◌++◌, take, flat_map}
use Rattle.ap_inspect.specs.Owners.{area_owner}
use Rattle.ap_inspect.proofs.owners.push_regions.Given as goal

abbrev pub invariant-loop-region : goal.invariant-loop-region
invariant-loop-region l = l.text.items ≡ l.initial.text.items ++ flat_map area_owner (take l.region-index l.regions)
