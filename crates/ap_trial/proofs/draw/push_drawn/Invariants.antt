use Rattle.std.proofs.Common.{◌≡◌, ◌++◌}
use Rattle.ap_trial.specs.Draws.{stepped, drawn}
use Rattle.ap_trial.proofs.draw.push_drawn.Given as goal

abbrev pub invariant-loop : goal.invariant-loop
invariant-loop l = (l.out.items ≡ l.fn.out.items ++ drawn l.fn.x l.counter) × (l.x ≡ stepped l.fn.x l.counter)
