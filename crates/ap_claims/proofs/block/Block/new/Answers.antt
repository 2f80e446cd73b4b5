use Rattle.std.proofs.Common.{refl}
use Rattle.ap_claims.proofs.Free.{fields-free, block-free}
use Rattle.ap_claims.proofs.block.Block.new.Goals as goal

pub invariant_of-result : goal.invariant_of-result
invariant_of-result c = block-free 16384 c.from_bits_retain.result c.from_bits_retain.ensures refl

pub returns : goal.returns
returns c = fields-free c.from_bits_retain.result c.from_bits_retain.ensures
