use Rattle.std.proofs.Common.{refl}
use Rattle.ap_check.proofs.windows.image_base.Goals as goal

-- 2 to the power 16
pub floor_to-requires : goal.floor_to-requires
floor_to-requires c = (16, refl)
