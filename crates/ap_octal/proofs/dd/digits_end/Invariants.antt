use Rattle.std.proofs.Common.{◌≡◌, ℕ, ◌<◌, ◌≤◌, ◌-◌, get_or, true, length}
use Rattle.ap_octal.specs.DdPlace.{is_digit}
use Rattle.ap_octal.proofs.dd.digits_end.Given as goal

abbrev pub invariant-loop-end : goal.invariant-loop-end
invariant-loop-end l = record {
  low : l.fn.from ≤ l.end;
  high : l.end ≤ length l.text;
  digits : (k : ℕ) → l.fn.from ≤ k → k < l.end → is_digit (get_or l.text k 0) ≡ true;
}

abbrev pub decreases-loop-end : goal.decreases-loop-end
decreases-loop-end l = length l.text - l.end
