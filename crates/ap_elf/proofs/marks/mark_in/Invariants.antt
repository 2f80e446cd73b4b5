use Rattle.std.proofs.Common.{◌≡◌, ◌≤◌, ◌<◌, ◌+◌, ◌-◌, length}
use Rattle.ap_files.specs.Files.{ForFile}
use Rattle.ap_elf.specs.Symbols.{strings_of}
use Rattle.ap_elf.specs.Seen.{IsMarkedBelow}
use Rattle.ap_elf.proofs.marks.mark_in.Given as goal

abbrev pub invariant-loop-at : goal.invariant-loop-at
invariant-loop-at g l = record {
  state : g.F.Files.state l.files ≡ g.F.Files.state l.fn.files;
  some : 0 < length l.marks;
  high : l.at ≤ l.t.length + 1;
  marked : ForFile (g.F.Files.state l.fn.files).kept l.name (λ b. IsMarkedBelow (strings_of b l.t) l.text l.marks l.at);
}

abbrev pub decreases-loop-at : goal.decreases-loop-at
decreases-loop-at g l = l.t.length + 1 - l.at
