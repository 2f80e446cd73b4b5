use Rattle.std.proofs.Common.{◌≡◌, ◌+◌, ◌++◌, drop}
use Rattle.ap_image.specs.Plans.{AreAscendingFrom}
use Rattle.ap_image.specs.Runs.{runs_from, runs_of}
use Rattle.ap_image.proofs.run.joined.Given as goal

abbrev pub invariant-loop-r : goal.invariant-loop-r
invariant-loop-r l = record {
  runs : l.runs.items ++ runs_from l.run (drop l.r-index l.rest) ≡ runs_of l.regions;
  left : AreAscendingFrom (l.run.start + l.run.length) (drop l.r-index l.rest);
}
