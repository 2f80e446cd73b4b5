use Rattle.std.proofs.Common.{◌≡◌, ◌+◌, ◌*◌, ◌≤◌, ◌++◌, length, drop}
use Rattle.ap_pe.specs.Sections.{Fit, sections_behind}
use Rattle.ap_pe.specs.Written.{sections_of, end_of}
use Rattle.ap_check.specs.Inputs.{last_stop}
use Rattle.ap_pe.proofs.sections.push_sections.Given as goal

abbrev pub invariant-loop-i : goal.invariant-loop-i
invariant-loop-i l = record {
  made : sections_of l.base l.loads l.areas ≡ l.sections.items ++ sections_behind l.base l.end (drop l.i l.loads) (drop l.i l.areas);
  fit : Fit l.base l.end (drop l.i l.loads);
  last : end_of l.base l.loads ≡ last_stop 4096 l.end (drop l.i l.loads);
  from : l.base + 8192 ≤ l.end;
  few : length l.sections.items ≤ 2 * l.i;
}
