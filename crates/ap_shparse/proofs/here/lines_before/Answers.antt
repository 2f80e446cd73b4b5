use Rattle.std.proofs.Common.{rules, arith}
use Rattle.std.proofs.lemmas.Grind.{common_steps}
use Rattle.ap_shparse.specs.Places.{body_from}
use Rattle.ap_shparse.proofs.Turns.{one_more}
use Rattle.ap_shparse.proofs.here.lines_before.Goals as goal

pub loop-turn-preserved : goal.loop-turn-preserved
unfolding body_from
loop-turn-preserved c =
    let e = one_more (λ n. body_from c.args.delimiter.now n c.loop-turn.found c.loop-turn.text) _ c.loop-turn._turn c.loop-turn-test.true c.loop-turn.invariant in
    first_of (search rules, grind (arith, common_steps))
