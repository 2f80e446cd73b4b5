use Rattle.std.proofs.Common.{◌≡◌, ◌++◌, take, flat_map}
use Rattle.ap_texts.specs.PlanTexts.{region_line}
use Rattle.ap_texts.proofs.text.push_regions.Given as goal

abbrev pub invariant-loop-region : goal.invariant-loop-region
invariant-loop-region l = l.text.items ≡ l.initial.text.items ++ flat_map region_line (take l.region-index l.regions)
