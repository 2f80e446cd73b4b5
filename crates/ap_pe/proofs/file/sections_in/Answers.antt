use Rattle.std.proofs.Common.{◌∙◌, ◌+◌, ◌*◌, ap, take, drop, arith}
use Rattle.std.proofs.lemmas.List.{length-take-le}
use Rattle.ap_files.proofs.ReadLemmas.{same_state}
use Rattle.ap_pe.proofs.SectionTables.{table-read}
use Rattle.ap_pe.proofs.file.sections_in.Goals as goal

pub returns : goal.returns
returns g c =
    let h = c.args.h.now in
    let place = h.at + 24 + h.optional in (
      same_state (g.F.Files.state c.args.files.now) (g.F.Files.state c.read_at.new.self) c.in_ok-read_at.ensures.files c.in_ok-read_at.ensures.ok,
      λ m b told at. c.sections.ensures ∙ table-read h.count place b c.read_at.new.buf
          (c.in_ok-read_at.ensures.bytes m b told at ∙ ap (λ k. take k (drop place b)) (length-take-le (40 * h.count) _ (omega arith))),
    )
