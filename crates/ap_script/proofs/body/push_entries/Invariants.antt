use Rattle.std.proofs.Common.{◌≡◌, ◌+◌, ◌*◌, ◌++◌, length, take}
use Rattle.ap_elf.specs.Written.{table_bytes}
use Rattle.ap_script.proofs.body.push_entries.Given as goal

abbrev pub invariant-loop-entry : goal.invariant-loop-entry
invariant-loop-entry l = record {
  items : l.out.items ≡ l.fn.out.items ++ table_bytes (take l.entry-index l.entries);
  long : length l.out.items ≡ length l.fn.out.items + 56 * l.entry-index;
}
