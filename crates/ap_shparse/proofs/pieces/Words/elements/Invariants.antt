use Rattle.std.proofs.Common.{◌≡◌, ◌-◌, length}
use Rattle.ap_shparse.specs.Commands.{elements, no_elements}
use Rattle.ap_shparse.proofs.pieces.Words.elements.Given as goal

abbrev pub invariant-loop-turn : goal.invariant-loop-turn
invariant-loop-turn g l =
    elements (g.S.Substitution.reads l.self.sub) (length l.fn.lines.text) no_elements l.fn.lines
    ≡ elements (g.S.Substitution.reads l.self.sub) (l.turns - l._turn) l.found l.lines
