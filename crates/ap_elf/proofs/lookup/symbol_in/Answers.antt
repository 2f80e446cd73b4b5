use Rattle.std.proofs.Common.{◌∙◌, ap, sym}
use Rattle.ap_files.specs.Files.{FileState}
use Rattle.ap_elf.proofs.Values.{value_of-nowhere}
use Rattle.ap_elf.proofs.lookup.symbol_in.Goals as goal

pub value_in-requires-clause-seen : goal.value_in-requires-clause-seen
value_in-requires-clause-seen g c =
    let read = rw c.in-Some.is at c.in_ok-seen.ensures in
    λ m b told at. read.1 m b (ap (λ (s : FileState). s.kept) (sym read.0) ∙ told) at

pub marked_value_in-requires-clause-seen : goal.marked_value_in-requires-clause-seen
marked_value_in-requires-clause-seen g c =
    let read = rw c.in-Some.is at c.in_ok-seen.ensures in
    λ m b told at. read.1 m b (ap (λ (s : FileState). s.kept) (sym read.0) ∙ told) at

pub returns-in-None : goal.returns-in-None
returns-in-None g c =
    let read = rw c.in-None.is at c.in_ok-seen.ensures in
    (read.0, λ m b told at. sym (value_of-nowhere b c.args.wanted.now c.args.t.now (read.1 m b told at)))
