use Rattle.std.proofs.Common.{◌≡◌, ◌<◌, ◌^◌, drop}
use Rattle.ap_octal.specs.DdPlace.{with_digits}
use Rattle.ap_octal.proofs.dd.short_number.Given as goal

abbrev pub invariant-loop-digit : goal.invariant-loop-digit
invariant-loop-digit l = record {
  rest : with_digits 0 l.text ≡ with_digits l.value (drop l.digit-index l.text);
  small : l.value < 10 ^ l.digit-index;
}
