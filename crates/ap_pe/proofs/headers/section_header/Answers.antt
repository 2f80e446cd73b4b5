use Rattle.std.proofs.Common.{refl}
use Rattle.ap_fields.proofs.RowFilling.{rows-put, put-as}
use Rattle.ap_pe.specs.Sections.{section_rows}
use Rattle.ap_pe.proofs.headers.section_header.Goals as goal

pub returns : goal.returns
unfolding Rattle.ap_pe.specs.Sections.section_header
returns c =
    rows-put 40 _ (section_rows c.args.k (c.args.letter, c.args.s.now)) refl
    (_, put-as 8 0 _ _ _ _ c.name.ensures c.put64.ensures, (_, c.put32.ensures, (_, c.put32-2.ensures, (_, c.put32-3.ensures, (_, c.put32-4.ensures, (_, c.put32-5.ensures, refl))))))
