use Rattle.std.proofs.Common.{◌≡◌, ◌≤◌, length, take}
use Rattle.ap_script.specs.Delimiter.{without_nul}
use Rattle.ap_script.proofs.delimiter.without_nul.Given as goal

abbrev pub invariant-loop-byte : goal.invariant-loop-byte
invariant-loop-byte l = record {
  text : l.text.items ≡ without_nul (take l.byte-index l.body);
  few : length l.text.items ≤ l.byte-index;
}
