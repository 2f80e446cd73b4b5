use Rattle.std.proofs.Common.{◌≡◌, ◌+◌, drop}
use Rattle.ap_claims.specs.Blocks.{claimed}
use Rattle.ap_claims.proofs.block.Block.claim.Given as goal

abbrev pub invariant-loop-i : goal.invariant-loop-i
invariant-loop-i l = claimed l.o l.self (l.at + l.i) (drop l.i l.bytes) ≡ claimed l.o l.fn.self l.at l.bytes
