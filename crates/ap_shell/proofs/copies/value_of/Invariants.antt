use Rattle.std.proofs.Common.{◌≡◌, ◌≤◌, length, take}
use Rattle.ap_shell.specs.Words.{value_of}
use Rattle.ap_shell.proofs.copies.value_of.Given as goal

abbrev pub invariant-loop-end : goal.invariant-loop-end
invariant-loop-end l = record {
  within : l.end ≤ length l.vars;
  same : value_of l.name l.vars ≡ value_of l.name (take l.end l.vars);
}

abbrev pub decreases-loop-end : goal.decreases-loop-end
decreases-loop-end l = l.end
