use Rattle.std.proofs.Common.{rules, arith}
use Rattle.std.proofs.lemmas.Grind.{common_steps}
use Rattle.ap_shparse.specs.Places.{newlines_from}
use Rattle.ap_shparse.proofs.Turns.{one_more}
use Rattle.ap_shparse.proofs.lines.Lines.newlines.Goals as goal

pub loop-turn-preserved : goal.loop-turn-preserved
unfolding newlines_from
loop-turn-preserved c =
    let e = one_more (λ n. newlines_from n c.loop-turn.self) _ c.loop-turn._turn c.loop-turn-test.true c.loop-turn.invariant in
    first_of (search rules, grind (arith, common_steps))
