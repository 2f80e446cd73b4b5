use Rattle.std.proofs.Common.{◌≡◌, Ok, Err, ◌∙◌}
use Rattle.ap_files.proofs.ReadLemmas.{reads-after}
use Rattle.ap_mach.specs.Stages.{header_result}
use Rattle.ap_machmap.proofs.Planned.{refused-named, planned-named}
use Rattle.ap_machmap.proofs.reading.MachReading.read_in.Goals as goal

pub returns-in-Err-clause-read : goal.returns-in-Err-clause-read
returns-in-Err-clause-read g c = (
  c.in_ok-h.ensures.read.0,
  λ m b told at.
      let known : Err c.in-Err.fault ≡ header_result b = cc (c.in-Err.is, c.in_ok-h.ensures.read.1 m b told at) in
      refused-named b c.in-Err.fault known,
)

pub returns-in-Ok-clause-read : goal.returns-in-Ok-clause-read
returns-in-Ok-clause-read g c =
    let old = g.F.Files.state c.args.files.now in
    let mid = g.F.Files.state c.header_in.new.files in
    reads-after old mid (g.F.Files.state c.plan_in.new.files) c.args.name.now _ _ c.plan_in.result c.in_ok-h.ensures.read.0
    (λ m b told at plan is.
    let known : Ok c.in-Ok.h ≡ header_result b = cc (c.in-Ok.is, c.in_ok-h.ensures.read.1 m b told at) in
    is ∙ planned-named b c.in-Ok.h known) c.plan_in.ensures.read
