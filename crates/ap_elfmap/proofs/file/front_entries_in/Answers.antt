use Rattle.std.proofs.Common.{◌∙◌, ap, take, arith}
use Rattle.std.proofs.lemmas.List.{length-take-le}
use Rattle.ap_files.proofs.ReadLemmas.{same_state, told_of}
use Rattle.ap_elfmap.proofs.Named.{front-named}
use Rattle.ap_elfmap.proofs.file.front_entries_in.Goals as goal

pub returns : goal.returns
returns g c = (
  same_state (g.F.Files.state c.args.files.now) (g.F.Files.state c.read_at.new.self) c.in_ok-read_at.ensures.files c.in_ok-read_at.ensures.ok,
  λ m b told at.
      let size = told_of (g.F.Files.state c.args.files.now).kept c.args.name.now m b c.requires.size told at in
      let read = c.in_ok-read_at.ensures.bytes m b told at ∙ ap (λ k. take k b) (length-take-le c.min.result _ (omega arith)) in
      c.entries.ensures ∙ front-named b c.read_at.new.buf c.replace.new.front c.args.header.now c.args.h.now.e_phoff c.args.h.now.e_phnum c.min.result (omega arith) read c.replace.ensures
      c.requires.front c.requires.few (omega arith),
)
