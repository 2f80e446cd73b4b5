use Rattle.std.proofs.Common.{rules, arith}
use Rattle.std.proofs.lemmas.Grind.{common_steps}
use Rattle.ap_shparse.specs.Commands.{elements}
use Rattle.ap_shparse.proofs.Turns.{one_more}
use Rattle.ap_shparse.proofs.pieces.Words.elements.Goals as goal

pub loop-turn-preserved : goal.loop-turn-preserved
unfolding elements
loop-turn-preserved g c =
    let e = one_more (λ n. elements (g.S.Substitution.reads c.args.self.now.sub) n c.loop-turn.found c.loop-turn.lines) _ c.loop-turn._turn c.loop-turn-test.true c.loop-turn.invariant in
    first_of (search rules, grind (arith, common_steps))

pub returns-then-ends_command : goal.returns-then-ends_command
unfolding elements
returns-then-ends_command g c =
    let e = one_more (λ n. elements (g.S.Substitution.reads c.args.self.now.sub) n c.loop-turn.found c.loop-turn.lines) _ c.loop-turn._turn c.loop-turn-test.true c.loop-turn.invariant in
    first_of (search rules, grind (arith, common_steps))

pub returns-in_err-element : goal.returns-in_err-element
unfolding elements
returns-in_err-element g c =
    let e = one_more (λ n. elements (g.S.Substitution.reads c.args.self.now.sub) n c.loop-turn.found c.loop-turn.lines) _ c.loop-turn._turn c.loop-turn-test.true c.loop-turn.invariant in
    first_of (search rules, grind (arith, common_steps))
