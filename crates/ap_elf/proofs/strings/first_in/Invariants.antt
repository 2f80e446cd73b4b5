use Rattle.std.proofs.Common.{◌≡◌, ◌≤◌, ◌+◌, ◌-◌}
use Rattle.ap_files.specs.Files.{ForFile}
use Rattle.memchr.specs.Find.{Nowhere, OccursAt}
use Rattle.ap_elf.specs.Symbols.{strings_of}
use Rattle.ap_elf.proofs.strings.first_in.Given as goal

abbrev pub invariant-loop-at : goal.invariant-loop-at
invariant-loop-at g l = record {
  state : g.F.Files.state l.files ≡ g.F.Files.state l.fn.files;
  low : l.from ≤ l.at;
  high : l.at ≤ l.t.length + 1;
  before : ForFile (g.F.Files.state l.fn.files).kept l.name (λ b. Nowhere (OccursAt (strings_of b l.t) l.text) l.from l.at);
}

abbrev pub decreases-loop-at : goal.decreases-loop-at
decreases-loop-at g l = l.t.length + 1 - l.at
