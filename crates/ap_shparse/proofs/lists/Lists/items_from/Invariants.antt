use Rattle.std.proofs.Common.{◌≡◌, ◌-◌, []}
use Rattle.ap_shparse.specs.Lists.{list, items_from}
use Rattle.ap_shparse.proofs.lists.Lists.items_from.Given as goal

abbrev pub invariant-loop-turn : goal.invariant-loop-turn
invariant-loop-turn g l = items_from (list l.self.depth) l.turns [] l.fn.lines ≡ items_from (list l.self.depth) (l.turns - l._turn) l.found l.lines
