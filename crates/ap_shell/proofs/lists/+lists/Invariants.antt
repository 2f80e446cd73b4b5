use Rattle.std.proofs.Common.{◌≡◌, map, drop}
use Rattle.ap_shell.specs.Meaning as means
use Rattle.ap_shell.proofs.lists.+lists.Given as goal

abbrev pub invariant-in_turn-loop-one : goal.invariant-in_turn-loop-one
invariant-in_turn-loop-one l = means.in_turn (map (means.chain_meaning l.env) l.all) l.fn.state ≡ means.in_turn (map (means.chain_meaning l.env) (drop l.one-index l.all)) l.state

abbrev pub invariant-joined-loop-one : goal.invariant-joined-loop-one
invariant-joined-loop-one l = means.joined_on (map (means.joined_meaning l.env) l.all) l.fn.state ≡ means.joined_on (map (means.joined_meaning l.env) (drop l.one-index l.all)) l.state
