use Rattle.std.proofs.Common.{◌≡◌, ℕ, ◌+◌, ◌≤◌, List, take, length}
use Rattle.ap_octal.specs.OctalSteps.{Splits}
use Rattle.ap_octal.proofs.octal.octal_bytes.Given as goal

abbrev pub invariant-loop-rest : goal.invariant-loop-rest
invariant-loop-rest l = record {
  front : List ℕ;
  splits : Splits l.text front l.rest;
  count : l.count ≡ length front;
  most : l.count + length l.rest ≤ length l.text;
  size : length l.first ≡ 64;
  kept : take l.count l.first ≡ take 64 front;
}

abbrev pub decreases-loop-rest : goal.decreases-loop-rest
decreases-loop-rest l = length l.rest
