use Rattle.std.proofs.Common.{refl}
use Rattle.ap_fields.proofs.RowFilling.{rows-put, put-as}
use Rattle.ap_pe.specs.Written.{optional_rows}
use Rattle.ap_pe.proofs.headers.optional_header.Goals as goal

pub returns : goal.returns
unfolding Rattle.ap_pe.specs.Written.optional_header
returns c =
    rows-put 240 _ (optional_rows c.args.p.now c.args.end c.args.sections.now) refl
    (_, c.put16.ensures, (_, put-as 4 4 _ _ _ _ c.code_bytes.ensures c.put32.ensures, (_, put-as 4 8 _ _ _ _ c.data_bytes.ensures c.put32-2.ensures, (_, c.put32-3.ensures, (_, put-as 4 20 _ _ _ _ c.first_code.ensures c.put32-4.ensures, (_, c.put64.ensures, (_, c.put32-5.ensures, (_, c.put32-6.ensures, (_, c.put16-2.ensures, (_, c.put16-3.ensures, (_, c.put32-7.ensures, (_, c.put32-8.ensures, (_, c.put16-4.ensures, (_, c.put16-5.ensures, (_, put-as 8 72 _ _ _ _ c.stack_reserve.ensures c.put64-2.ensures, (_, c.put64-3.ensures, (_, c.put64-4.ensures, (_, c.put64-5.ensures, (_, c.put32-9.ensures, (_, c.put32-10.ensures, (_, c.put32-11.ensures, (_, c.put32-12.ensures, (_, c.put32-13.ensures, refl)))))))))))))))))))))))
