use Rattle.std.proofs.Common.{◌≡◌, ◌+◌, ◌-◌, ◌≤◌, take}
use Rattle.ap_files.specs.Files.{ForFile}
use Rattle.ap_mach.specs.Format.{parts_from}
use Rattle.ap_machmap.specs.Steps.{header_plan, left_plan, AreMapped}
use Rattle.ap_machmap.proofs.file.plan_in.Given as goal

abbrev pub invariant-loop-k : goal.invariant-loop-k
invariant-loop-k g l = record {
  state : g.F.Files.state l.files ≡ g.F.Files.state l.fn.files;
  place : l.at ≤ l.end;
  mapped : AreMapped l.size l.mapped.low l.mapped.regions.items;
  left : ForFile (g.F.Files.state l.fn.files).kept l.name (λ b. header_plan b l.h ≡ left_plan l.size l.end (l.k + 1) l.mapped.low l.mapped.regions.items l.mapped.start (parts_from (take l.end b) l.at (l.h.count - l.k)));
}
