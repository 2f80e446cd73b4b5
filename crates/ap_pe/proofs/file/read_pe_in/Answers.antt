use Rattle.std.proofs.Common.{◌∙◌}
use Rattle.ap_files.proofs.ReadLemmas.{same_state, told_of, reads-after}
use Rattle.ap_pe.proofs.Staged.{dos-none, dos-some}
use Rattle.ap_pe.proofs.file.read_pe_in.Goals as goal

pub returns-in-Err-clause-read : goal.returns-in-Err-clause-read
returns-in-Err-clause-read g c = (
  same_state (g.F.Files.state c.args.files.now) (g.F.Files.state c.read_at.new.self) c.in_ok-read_at.ensures.files c.in_ok-read_at.ensures.ok,
  λ m b told at.
      dos-some b c.read_at.new.buf c.args.size c.le16.result c.in-Err.fault (c.in_ok-read_at.ensures.bytes m b told at) c.le16.ensures
      (told_of (g.F.Files.state c.args.files.now).kept c.args.name.now m b c.requires told at) c.in-Err.ensures,
)

pub returns-clause-read : goal.returns-clause-read
returns-clause-read g c =
    let old = g.F.Files.state c.args.files.now in
    let mid = g.F.Files.state c.read_at.new.self in
    reads-after old mid (g.F.Files.state c.headers_at_in.new.files) c.args.name.now _ _ c.headers_at_in.result (same_state old mid c.in_ok-read_at.ensures.files c.in_ok-read_at.ensures.ok)
    (λ m b told at h is. is ∙ dos-none b c.read_at.new.buf c.args.size c.le16.result c.le32.result (c.in_ok-read_at.ensures.bytes m b told at) c.le16.ensures c.le32.ensures
    (told_of old.kept c.args.name.now m b c.requires told at) c.in_default.ensures) c.headers_at_in.ensures.read
