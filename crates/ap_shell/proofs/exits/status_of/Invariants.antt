use Rattle.std.proofs.Common.{◌≡◌, ◌≤◌, drop}
use Rattle.ap_octal.specs.DdPlace.{with_digits}
use Rattle.ap_shell.proofs.exits.status_of.Given as goal

abbrev pub invariant-loop-digit : goal.invariant-loop-digit
invariant-loop-digit l = record {
  rest : with_digits 0 l.text ≡ with_digits l.status (drop l.digit-index l.text);
  small : l.status ≤ 255;
}
