use Rattle.std.proofs.Common.{refl}
use Rattle.ap_fields.proofs.RowFilling.{rows-put, put-as}
use Rattle.ap_mach.specs.Written.{header_rows}
use Rattle.ap_mach.proofs.headers.header.Goals as goal

pub returns : goal.returns
unfolding Rattle.ap_mach.specs.Written.header
returns c =
    rows-put 32 _ (header_rows c.args.loads) refl
    (_, c.put32.ensures, (_, c.put32-2.ensures, (_, c.put32-3.ensures, (_, c.put32-4.ensures, (_, c.put32-5.ensures, (_, put-as 4 20 _ _ _ _ c.written_size.ensures c.put32-6.ensures, (_, c.put32-7.ensures, refl)))))))
