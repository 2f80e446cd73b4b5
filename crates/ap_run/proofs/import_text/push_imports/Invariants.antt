use Rattle.std.proofs.Common.{◌≡◌, ◌++◌, take, flat_map}
use Rattle.ap_run.specs.ImportTexts.{import_line}
use Rattle.ap_run.proofs.import_text.push_imports.Given as goal

abbrev pub invariant-loop-import : goal.invariant-loop-import
invariant-loop-import l = l.text.items ≡ l.initial.text.items ++ flat_map import_line (take l.import-index l.imports)
