use Rattle.std.proofs.Common.{◌≡◌, ◌-◌}
use Rattle.ap_shparse.specs.Pieces.{pieces, units}
use Rattle.ap_shparse.proofs.pieces.Words.pieces.Given as goal

abbrev pub invariant-loop-turn : goal.invariant-loop-turn
invariant-loop-turn g l =
    pieces (g.S.Substitution.reads l.self.sub) l.fn.text ≡ units (g.S.Substitution.reads l.self.sub) (l.turns - l._turn) l.found l.text
