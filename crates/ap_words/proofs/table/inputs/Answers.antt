use Rattle.std.proofs.Common.{max, ◌≡◌, rules, refl}
use Rattle.std.specs.Prelude.{Some}
use Rattle.clap.specs.declared.builder.range.ValueRange.{ValueRange}
use Rattle.ap_words.proofs.Ranges.{some-is}
use Rattle.ap_words.proofs.table.inputs.Goals as goal

abbrev one_or_two : ValueRange
one_or_two = record { start_inclusive = 1; end_inclusive = 2 }

pub returns-clause-rule : goal.returns-clause-rule
returns-clause-rule c =
    let n = some-is c.num_args.result.num_vals (record { start_inclusive = c.new-2.result.start; end_inclusive = max c.new-2.result.end c.new-2.result.start }) c.num_args.ensures.1 in
    let e : c.num_args.result.num_vals ≡ Some one_or_two = rw (n, c.new-2.ensures.start, c.new-2.ensures.end) refl in
    search rules
