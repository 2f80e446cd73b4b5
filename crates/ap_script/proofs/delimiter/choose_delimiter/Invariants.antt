use Rattle.std.proofs.Common.{◌≡◌, ◌≤◌, ◌-◌}
use Rattle.std.specs.Prelude.{not}
use Rattle.ap_script.specs.Delimiter.{delimiter, stands_in, without_nul, least_from}
use Rattle.ap_script.proofs.delimiter.choose_delimiter.Given as goal

abbrev pub invariant-loop-number : goal.invariant-loop-number
invariant-loop-number l = record {
  within : l.number ≤ 8192;
  whole : least_from 8192 (λ k. not (stands_in (delimiter k) (without_nul l.body))) 0 ≡ least_from (8192 - l.number) (λ k. not (stands_in (delimiter k) (without_nul l.body))) l.number;
}

abbrev pub decreases-loop-number : goal.decreases-loop-number
decreases-loop-number l = 8192 - l.number
