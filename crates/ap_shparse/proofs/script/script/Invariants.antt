use Rattle.std.proofs.Common.{◌≡◌, ◌-◌}
use Rattle.ap_shparse.specs.Lists.{chain, list}
use Rattle.ap_shparse.specs.Scripts.{script, script_from}
use Rattle.ap_shparse.proofs.script.script.Given as goal

abbrev pub invariant-loop-turn : goal.invariant-loop-turn
invariant-loop-turn l = script l.text ≡ script_from (chain (list 64)) (l.turns - l._turn) l.left l.found l.lines
