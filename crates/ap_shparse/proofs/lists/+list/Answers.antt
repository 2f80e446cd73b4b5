use Rattle.std.proofs.Common.{◌≡◌, ap, arith}
use Rattle.ap_shparse.specs.Lists.{list}
use Rattle.ap_shparse.proofs.Turns.{deeper}
use Rattle.ap_shparse.proofs.lists.+list.Goals as goal

pub returns-then-depth-eq0 : goal.returns-then-depth-eq0
unfolding list
returns-then-depth-eq0 t c = let none : c.args.depth ≡ 0 = omega arith in ap (λ n. list n c.args.lines.now) none

pub returns : goal.returns
unfolding list
returns t c = rw (deeper (λ n. list n c.args.lines.now) c.args.depth (omega arith)) c.items.ensures
