use Rattle.std.proofs.Common.{refl}
use Rattle.ap_layout.proofs.stack.stack_size.Goals as goal

-- 2 to the power 16
pub ceil_to-requires-clause-power : goal.ceil_to-requires-clause-power
ceil_to-requires-clause-power c = (16, refl)
