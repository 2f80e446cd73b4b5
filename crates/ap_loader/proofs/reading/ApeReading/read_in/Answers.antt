use Rattle.std.proofs.Common.{◌≡◌, sym, ap, ◌∙◌, arith}
use Rattle.std.proofs.lemmas.Grind.{common_steps}
use Rattle.ap_files.specs.Files.{FileState}
use Rattle.ap_elf.specs.Machines.{number_of}
use Rattle.ap_loader.specs.ApeReading.{as_ape}
use Rattle.ap_loader.proofs.HeaderPlans.{plan-refused, plan-headed}
use Rattle.ap_loader.proofs.reading.ApeReading.read_in.Goals as goal

pub returns-in-Err-clause-read : goal.returns-in-Err-clause-read
returns-in-Err-clause-read g c =
    let first = c.in_ok-header.ensures in
    let r = c.args.self.now in (
      first.0,
      λ m b told at. plan-refused (number_of r.machine) r.page b c.in-Err.fault (sym (first.1 m b told at) ∙ c.in-Err.is),
    )

pub returns-clause-read : goal.returns-clause-read
returns-clause-read g c =
    let first = c.in_ok-header.ensures in
    let second = c.in_ok-plan.ensures.read in
    let r = c.args.self.now in
    let mapped : c.map_err.result ≡ as_ape c.in_ok-plan.plan = grind (arith, common_steps) in (
      second.0 ∙ first.0,
      λ m b told at.
          mapped ∙ ap as_ape (second.1 m b (ap (λ (s : FileState). s.kept) first.0 ∙ told) at)
          ∙ plan-headed (number_of r.machine) r.page b c.in-Ok.header (sym (first.1 m b told at) ∙ c.in-Ok.is),
    )
