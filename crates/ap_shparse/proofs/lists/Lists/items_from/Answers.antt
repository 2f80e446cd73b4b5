use Rattle.std.proofs.Common.{rules, arith}
use Rattle.std.proofs.lemmas.Grind.{common_steps}
use Rattle.ap_shparse.specs.Lists.{items_from, list}
use Rattle.ap_shparse.proofs.Turns.{one_more}
use Rattle.ap_shparse.proofs.lists.Lists.items_from.Goals as goal

pub loop-turn-preserved : goal.loop-turn-preserved
unfolding items_from
loop-turn-preserved g c =
    let e = one_more (λ n. items_from (list c.args.self.now.depth) n c.loop-turn.found c.loop-turn.lines) _ c.loop-turn._turn c.loop-turn-test.true c.loop-turn.invariant in
    first_of (search rules, grind (arith, common_steps))

pub returns-in_err-next_item : goal.returns-in_err-next_item
unfolding items_from
returns-in_err-next_item g c =
    let e = one_more (λ n. items_from (list c.args.self.now.depth) n c.loop-turn.found c.loop-turn.lines) _ c.loop-turn._turn c.loop-turn-test.true c.loop-turn.invariant in
    first_of (search rules, grind (arith, common_steps))
