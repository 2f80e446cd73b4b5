use Rattle.std.proofs.Common.{rules, arith}
use Rattle.std.proofs.lemmas.Grind.{common_steps}
use Rattle.ap_shparse.specs.Pieces.{units}
use Rattle.ap_shparse.proofs.Turns.{one_more}
use Rattle.ap_shparse.proofs.pieces.Words.pieces.Goals as goal

pub loop-turn-preserved : goal.loop-turn-preserved
unfolding units
loop-turn-preserved g c =
    let e = one_more (λ n. units (g.S.Substitution.reads c.args.self.now.sub) n c.loop-turn.found c.loop-turn.text) _ c.loop-turn._turn c.loop-turn-test.true c.loop-turn.invariant in
    first_of (search rules, grind (arith, common_steps))
