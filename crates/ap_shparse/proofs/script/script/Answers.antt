use Rattle.std.proofs.Common.{rules, arith}
use Rattle.std.proofs.lemmas.Grind.{common_steps}
use Rattle.ap_shparse.specs.Scripts.{script_from}
use Rattle.ap_shparse.specs.Lists.{chain, list}
use Rattle.ap_shparse.proofs.Turns.{one_more}
use Rattle.ap_shparse.proofs.script.script.Goals as goal

pub loop-turn-preserved : goal.loop-turn-preserved
unfolding script_from
loop-turn-preserved c =
    let e = one_more (λ n. script_from (chain (list 64)) n c.loop-turn.left c.loop-turn.found c.loop-turn.lines) _ c.loop-turn._turn c.loop-turn-test.true c.loop-turn.invariant in
    first_of (search rules, grind (arith, common_steps))
