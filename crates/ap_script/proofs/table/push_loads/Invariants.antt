use Rattle.std.proofs.Common.{◌≡◌, take, length}
use Rattle.ap_script.specs.Tables.{load_entries}
use Rattle.ap_script.proofs.table.push_loads.Given as goal

abbrev pub invariant-loop-i : goal.invariant-loop-i
invariant-loop-i l = record {
  entries : l.table.items ≡ load_entries l.granule (take l.i l.loads) (take l.i l.areas);
  few : length l.table.items ≡ l.i;
}
