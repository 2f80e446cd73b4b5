use Rattle.std.proofs.Common.{refl}
use Rattle.ap_fields.proofs.RowFilling.{rows-put}
use Rattle.ap_pe.specs.Written.{file_rows}
use Rattle.ap_pe.proofs.headers.file_header.Goals as goal

pub returns : goal.returns
unfolding Rattle.ap_pe.specs.Written.file_header
returns c = rows-put 24 _ (file_rows c.args.count) refl (_, c.put32.ensures, (_, c.put16.ensures, (_, c.put16-2.ensures, (_, c.put16-3.ensures, (_, c.put16-4.ensures, refl)))))
