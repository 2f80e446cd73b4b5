use Rattle.std.proofs.Common.{◌≡◌, ◌-◌}
use Rattle.ap_shparse.specs.Places.{line, line_from}
use Rattle.ap_shparse.proofs.pieces.Words.line.Given as goal

abbrev pub invariant-loop-turn : goal.invariant-loop-turn
invariant-loop-turn g l = line (g.S.Substitution.reads l.self.sub) l.fn.text ≡ line_from (g.S.Substitution.reads l.self.sub) (l.turns - l._turn) l.text
