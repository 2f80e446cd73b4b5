use Rattle.std.proofs.Common.{◌≡◌, ◌+◌, drop}
use Rattle.ap_claims.specs.Blocks.{clash_of}
use Rattle.ap_claims.proofs.block.Block.clash_in.Given as goal

abbrev pub invariant-loop-i : goal.invariant-loop-i
invariant-loop-i l = clash_of l.self (l.at + l.i) (drop l.i l.bytes) ≡ clash_of l.self l.at l.bytes
