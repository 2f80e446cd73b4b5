use Rattle.std.proofs.Common.{rules, arith}
use Rattle.std.proofs.lemmas.Grind.{common_steps}
use Rattle.ap_shparse.specs.Places.{line_from}
use Rattle.ap_shparse.proofs.Turns.{one_more}
use Rattle.ap_shparse.proofs.pieces.Words.line.Goals as goal

pub loop-turn-preserved : goal.loop-turn-preserved
unfolding line_from
loop-turn-preserved g c =
    let e = one_more (λ n. line_from (g.S.Substitution.reads c.args.self.now.sub) n c.loop-turn.text) _ c.loop-turn._turn c.loop-turn-test.true c.loop-turn.invariant in
    first_of (search rules, grind (arith, common_steps))
