use Rattle.std.proofs.Common.{◌≡◌, ◌++◌, length, take, flat_map}
use Rattle.ap_image.specs.ImageFiles.{run_line, image_head}
use Rattle.ap_image.proofs.front.push_table.Given as goal

abbrev pub invariant-loop-run : goal.invariant-loop-run
invariant-loop-run l = l.out.items ≡ (l.fn.out.items ++ image_head l.entry (length l.runs)) ++ flat_map run_line (take l.run-index l.runs)
