use Rattle.std.proofs.Common.{◌≡◌, ◌-◌, ◌≤◌, ◌<◌, length}
use Rattle.ap_files.specs.Files.{ForFile}
use Rattle.ap_elf.specs.Symbols.{symbols_from}
use Rattle.ap_elf.specs.Seen.{AreNamed}
use Rattle.ap_elf.proofs.named.mark_named_in.Given as goal

abbrev pub invariant-loop-done : goal.invariant-loop-done
invariant-loop-done g l = record {
  state : g.F.Files.state l.files ≡ g.F.Files.state l.fn.files;
  some : 0 < length l.marks;
  below : l.done ≤ l.t.count;
  marked : ForFile (g.F.Files.state l.fn.files).kept l.name (λ b. AreNamed l.marks (symbols_from b l.t.at l.done));
}

abbrev pub decreases-loop-done : goal.decreases-loop-done
decreases-loop-done g l = l.t.count - l.done
