use Rattle.std.proofs.Common.{rules, arith}
use Rattle.std.proofs.lemmas.Grind.{common_steps}
use Rattle.ap_shparse.specs.Lists.{others, list}
use Rattle.ap_shparse.proofs.Turns.{one_more}
use Rattle.ap_shparse.proofs.lists.Lists.others.Goals as goal

pub loop-turn-preserved : goal.loop-turn-preserved
unfolding others
loop-turn-preserved g c =
    let e = one_more (λ n. others (list c.args.self.now.depth) n c.loop-turn.found c.loop-turn.lines) _ c.loop-turn._turn c.loop-turn-test.true c.loop-turn.invariant in
    first_of (search rules, grind (arith, common_steps))

pub returns-in_default : goal.returns-in_default
unfolding others
returns-in_default g c =
    let e = one_more (λ n. others (list c.args.self.now.depth) n c.loop-turn.found c.loop-turn.lines) _ c.loop-turn._turn c.loop-turn-test.true c.loop-turn.invariant in
    first_of (search rules, grind (arith, common_steps))
