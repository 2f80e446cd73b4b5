use Rattle.std.proofs.Common.{◌-◌, ◌≡◌, ◌≤◌, ◌++◌, length, take, drop}
use Rattle.std.specs.Prelude.{codes}
use Rattle.ap_script.specs.Delimiter.{digits_of}
use Rattle.ap_script.proofs.delimiter.delimiter.Given as goal

abbrev pub invariant-loop-at : goal.invariant-loop-at
invariant-loop-at l = record {
  long : length l.word ≡ 15;
  within : l.at ≤ 15;
  front : 7 ≤ l.at;
  name : take 7 l.word ≡ codes "apelink";
  digits : digits_of (l.at - 7) l.rest ++ drop l.at l.word ≡ digits_of 8 l.fn.number;
}

abbrev pub decreases-loop-at : goal.decreases-loop-at
decreases-loop-at l = l.at
