use Rattle.std.proofs.Common.{refl}
use Rattle.ap_fields.proofs.RowFilling.{rows-put}
use Rattle.ap_mach.specs.Segments.{segment_rows}
use Rattle.ap_mach.proofs.headers.segment_command.Goals as goal

pub returns : goal.returns
unfolding Rattle.ap_mach.specs.Segments.segment_command
returns c =
    rows-put 72 _ (segment_rows c.args.name c.args.most c.args.s.now) refl
    (_, c.put32.ensures, (_, c.put32-2.ensures, (_, c.put64.ensures, (_, c.put64-2.ensures, (_, c.put64-3.ensures, (_, c.put64-4.ensures, (_, c.put64-5.ensures, (_, c.put32-3.ensures, (_, c.put32-4.ensures, refl)))))))))
