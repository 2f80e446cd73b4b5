use Rattle.std.proofs.Common.{◌∙◌}
use Rattle.ap_files.proofs.ReadLemmas.{same_state}
use Rattle.ap_elf.proofs.EntryTables.{header-read}
use Rattle.ap_elf.proofs.file.header_in.Goals as goal

pub returns : goal.returns
returns g c = (
  same_state (g.F.Files.state c.args.files.now) (g.F.Files.state c.read_at.new.self) c.in_ok-read_at.ensures.files c.in_ok-read_at.ensures.ok,
  λ m b told at. c.header.ensures ∙ header-read b c.read_at.new.buf (c.in_ok-read_at.ensures.bytes m b told at),
)
