use Rattle.std.proofs.Common.{◌∙◌, ap, take, arith}
use Rattle.std.proofs.lemmas.List.{length-take-le}
use Rattle.ap_elf.specs.Machines.{number_of}
use Rattle.ap_files.proofs.ReadLemmas.{same_state, told_of}
use Rattle.ap_loader.proofs.HeaderPlans.{header_for-window}
use Rattle.ap_loader.proofs.file.header_in.Goals as goal

pub returns : goal.returns
returns g c = (
  same_state (g.F.Files.state c.args.files.now) (g.F.Files.state c.read_at.new.self) c.in_ok-read_at.ensures.files c.in_ok-read_at.ensures.ok,
  λ m b told at.
      let size = told_of (g.F.Files.state c.args.files.now).kept c.args.name.now m b c.requires told at in
      let read = c.in_ok-read_at.ensures.bytes m b told at ∙ ap (λ k. take k b) (length-take-le c.min.result _ (omega arith)) in
      c.header_for.ensures ∙ header_for-window (number_of c.args.machine) c.min.result b c.read_at.new.buf (omega arith) read,
)
