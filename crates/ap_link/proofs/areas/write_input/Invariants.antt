use Rattle.std.proofs.Common.{◌≡◌, drop, length}
use Rattle.ap_fields.specs.Readings.{bytes_in}
use Rattle.ap_files.specs.Files.{told_bytes}
use Rattle.ap_link.specs.Linked.{input_text}
use Rattle.ap_link.proofs.Writing.{Writing}
use Rattle.ap_link.proofs.areas.write_input.Given as goal

abbrev pub invariant-loop-i : goal.invariant-loop-i
invariant-loop-i g l = record {
  count : length l.loads ≡ length l.areas;
  written : Writing (g.F.Files.state l.fn.files) (g.F.Files.state l.files) l.out (input_text l.from l.input (told_bytes (g.F.Files.state l.fn.files).kept l.name) l.areas)
      l.granule (bytes_in (told_bytes (g.F.Files.state l.fn.files).kept l.name)) l.input.size l.end (drop l.i l.loads) (drop l.i l.areas);
}
