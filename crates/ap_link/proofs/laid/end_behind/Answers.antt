use Rattle.std.proofs.Common.{arith}
use Rattle.ap_link.proofs.EndsBehind.{end-most}
use Rattle.ap_link.proofs.laid.end_behind.Goals as goal

pub overflow_add-area : goal.overflow_add-area
overflow_add-area c =
    let most = end-most c.loop-area.end c.args.from c.loop-area.area-index c.args.areas.now (record { file = 0; len = 0 }) c.loop-area-test.true c.loop-area.invariant in
    omega (arith, c.requires)
