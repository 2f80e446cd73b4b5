use Rattle.std.proofs.Common.{refl}
use Rattle.ap_fields.proofs.RowFilling.{rows-put}
use Rattle.ap_mach.specs.Written.{thread_rows}
use Rattle.ap_mach.proofs.headers.thread_command.Goals as goal

pub returns : goal.returns
unfolding Rattle.ap_mach.specs.Written.thread_command
returns c =
    rows-put 184 _ (thread_rows c.args.start) refl
    (_, c.put32.ensures, (_, c.put32-2.ensures, (_, c.put32-3.ensures, (_, c.put32-4.ensures, (_, c.put64.ensures, refl)))))
