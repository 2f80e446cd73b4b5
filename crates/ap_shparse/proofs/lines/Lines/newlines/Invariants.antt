use Rattle.std.proofs.Common.{◌≡◌, ◌-◌}
use Rattle.ap_shparse.specs.Places.{newlines, newlines_from}
use Rattle.ap_shparse.proofs.lines.Lines.newlines.Given as goal

abbrev pub invariant-loop-turn : goal.invariant-loop-turn
invariant-loop-turn l = newlines l.fn.self ≡ newlines_from (l.turns - l._turn) l.self
