use Rattle.std.proofs.Common.{◌≡◌, ◌+◌, ◌*◌, ◌++◌, length, drop}
use Rattle.ap_pe.specs.Sections.{section_table}
use Rattle.ap_pe.proofs.headers.push_table.Given as goal

abbrev pub invariant-loop-letter : goal.invariant-loop-letter
invariant-loop-letter l = record {
  count : l.k ≡ l.letter-index + 1;
  long : length l.out.items ≡ length l.fn.out.items + 40 * l.letter-index;
  made : l.fn.out.items ++ section_table 1 l.sections ≡ l.out.items ++ section_table l.k (drop l.letter-index l.sections);
}
