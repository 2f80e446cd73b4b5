use Rattle.std.proofs.Common.{◌/◌}
use Rattle.ap_elf.specs.declared.machine.Machine.TheVariants.{X64, A64}
use Rattle.ap_layout.specs.Positions.{placed_inputs}
use Rattle.ap_script.specs.Script.{header_for}
use Rattle.ap_dispatch.proofs.OtherFiles.{others_kept}
use Rattle.ap_dispatch.proofs.law.dispatch_leaves_other_files.Goals as goal

pub returns : goal.returns
returns c = λ options inputs l.
    others_kept options.systems (header_for X64 (placed_inputs inputs l)) (header_for A64 (placed_inputs inputs l)) (l.mach_at / 8) (l.mach_len / 8)
