use Rattle.std.proofs.Common.{◌≡◌, ◌++◌, Some}
use Rattle.ap_image.specs.Cells.{Memory}
use Rattle.ap_image.specs.WalkSteps.{left_of}
use Rattle.ap_image.specs.Imports.{imports_of, imports_in}
use Rattle.ap_image.proofs.import_list.list_imports.Given as goal

abbrev pub invariant-loop-imports : goal.invariant-loop-imports
invariant-loop-imports g l = record {
  state : g.C.Cells.state l.cells ≡ g.C.Cells.state l.fn.cells;
  ending : (m : Memory) → (g.C.Cells.state l.fn.cells).told ≡ Some m → (left_of m l.walk).ending ≡ (left_of m l.fn.walk).ending;
  imports : (m : Memory) → (g.C.Cells.state l.fn.cells).told ≡ Some m → imports_of m (left_of m l.fn.walk) ≡ l.imports.items ++ imports_in m l.dll (left_of m l.walk).items;
}

abbrev pub decreases-loop-imports : goal.decreases-loop-imports
decreases-loop-imports g l = l.walk.left
