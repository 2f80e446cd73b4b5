use Rattle.ap_files.proofs.ReadLemmas.{same_state, told_of}
use Rattle.ap_mach.proofs.PartReads.{header-none, header-some}
use Rattle.ap_mach.proofs.file.header_in.Goals as goal

pub returns-in-Err-clause-read : goal.returns-in-Err-clause-read
returns-in-Err-clause-read g c = (
  same_state (g.F.Files.state c.args.files.now) (g.F.Files.state c.read_at.new.self) c.in_ok-read_at.ensures.files c.in_ok-read_at.ensures.ok,
  λ m b told at.
      header-some b c.read_at.new.buf c.args.size c.header-h.result c.in-Err.fault (c.in_ok-read_at.ensures.bytes m b told at) c.header-h.ensures
      (told_of (g.F.Files.state c.args.files.now).kept c.args.name.now m b c.requires told at) c.in-Err.ensures.rules,
)

pub returns-clause-read : goal.returns-clause-read
returns-clause-read g c = (
  same_state (g.F.Files.state c.args.files.now) (g.F.Files.state c.read_at.new.self) c.in_ok-read_at.ensures.files c.in_ok-read_at.ensures.ok,
  λ m b told at.
      header-none b c.read_at.new.buf c.args.size c.header-h.result (c.in_ok-read_at.ensures.bytes m b told at) c.header-h.ensures
      (told_of (g.F.Files.state c.args.files.now).kept c.args.name.now m b c.requires told at) c.in_default.ensures.rules,
)
