use Rattle.std.proofs.Common.{◌≡◌, ◌+◌, ◌++◌, take, length, map}
use Rattle.ap_script.specs.Tables.{note_entry}
use Rattle.ap_script.proofs.table.push_notes.Given as goal

abbrev pub invariant-loop-p : goal.invariant-loop-p
invariant-loop-p l = record {
  entries : l.table.items ≡ l.fn.table.items ++ map (note_entry l.granule l.loads l.areas) (take l.p-index l.notes);
  few : length l.table.items ≡ length l.fn.table.items + l.p-index;
}
