use Rattle.std.proofs.Common.{◌≡◌, ◌-◌, []}
use Rattle.ap_shparse.specs.Places.{body_from}
use Rattle.ap_shparse.proofs.here.lines_before.Given as goal

abbrev pub invariant-loop-turn : goal.invariant-loop-turn
invariant-loop-turn l = body_from l.delimiter l.turns [] l.fn.text ≡ body_from l.delimiter (l.turns - l._turn) l.found l.text
