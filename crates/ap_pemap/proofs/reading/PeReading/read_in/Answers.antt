use Rattle.std.proofs.Common.{◌≡◌, Ok, Err, ap, ◌∙◌}
use Rattle.ap_files.specs.Files.{FileState}
use Rattle.ap_files.proofs.ReadLemmas.{told_of}
use Rattle.ap_pe.specs.PeReading.{headers_result}
use Rattle.ap_pemap.proofs.Planned.{refused-named, planned-named}
use Rattle.ap_pemap.proofs.reading.PeReading.read_in.Goals as goal

pub returns-in-Err-clause-read : goal.returns-in-Err-clause-read
returns-in-Err-clause-read g c = (
  c.in_ok-h.ensures.read.0,
  λ m b told at.
      let known : Err c.in-Err.fault ≡ headers_result b = cc (c.in-Err.is, c.in_ok-h.ensures.read.1 m b told at) in
      refused-named b c.in-Err.fault known,
)

pub returns-clause-read : goal.returns-clause-read
returns-clause-read g c =
    let kept = ap (λ (s : FileState). s.kept) c.in_ok-h.ensures.read.0 in (
      c.in_ok-sections.ensures.0 ∙ c.in_ok-h.ensures.read.0,
      λ m b told at.
          let known : Ok c.in-Ok.h ≡ headers_result b = cc (c.in-Ok.is, c.in_ok-h.ensures.read.1 m b told at) in
          planned-named c.args.size b c.in-Ok.h c.deref.result.now c.plan_by.result (told_of (g.F.Files.state c.args.files.now).kept c.args.name.now m b c.requires told at) known
          (c.deref.ensures.0 ∙ c.in_ok-sections.ensures.1 m b (kept ∙ told) at) c.plan_by.ensures.plan,
    )
