-- Where the areas of the first input end.
use Rattle.std.proofs.Common.{◌≤◌}
use Rattle.ap_fields.specs.declared.sizes.TheConstants.{BLOCK}
use Rattle.ap_check.specs.Inputs.{Taken}
use Rattle.ap_layout.specs.Positions.{areas_one, end_one}
use Rattle.ap_layout.proofs.NewAreas.{end-least}

pub first-past : (e : Taken) → BLOCK ≤ end_one e
first-past e = end-least BLOCK (areas_one e)
