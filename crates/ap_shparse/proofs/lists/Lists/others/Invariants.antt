use Rattle.std.proofs.Common.{◌≡◌, ◌-◌, []}
use Rattle.ap_shparse.specs.Lists.{list, others}
use Rattle.ap_shparse.proofs.lists.Lists.others.Given as goal

abbrev pub invariant-loop-turn : goal.invariant-loop-turn
invariant-loop-turn g l = others (list l.self.depth) l.turns [] l.fn.lines ≡ others (list l.self.depth) (l.turns - l._turn) l.found l.lines
