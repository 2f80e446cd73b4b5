use Rattle.std.proofs.Common.{ap, arith}
use Rattle.ap_files.proofs.ReadLemmas.{same_state, told_of}
use Rattle.ap_pe.specs.declared.types.PeHeaders.{PeHeaders}
use Rattle.ap_pe.proofs.Staged.{optional-none, optional-some}
use Rattle.ap_pe.proofs.file.optional_in.Goals as goal

pub check_optional-requires-clause-place : goal.check_optional-requires-clause-place
unfolding Rattle.ap_pe.specs.Format.headers_by
check_optional-requires-clause-place g c = let e = ap (λ (h : PeHeaders). h.at) c.headers-h.ensures in omega arith

pub check_optional-requires-clause-few : goal.check_optional-requires-clause-few
unfolding Rattle.ap_pe.specs.Format.headers_by
check_optional-requires-clause-few g c = let e = ap (λ (h : PeHeaders). h.count) c.headers-h.ensures in omega arith

pub returns-in-Err-clause-read : goal.returns-in-Err-clause-read
returns-in-Err-clause-read g c = (
  same_state (g.F.Files.state c.args.files.now) (g.F.Files.state c.read_at.new.self) c.in_ok-read_at.ensures.files c.in_ok-read_at.ensures.ok,
  λ m b told at.
      optional-some b c.read_at.new.buf c.args.at c.args.size c.le16.result c.args.f.now c.headers-h.result c.in-Err.fault (c.in_ok-read_at.ensures.bytes m b told at) c.headers-h.ensures c.le16.ensures
      (told_of (g.F.Files.state c.args.files.now).kept c.args.name.now m b c.requires.size told at) c.in-Err.ensures.rules,
)

pub returns-clause-read : goal.returns-clause-read
returns-clause-read g c = (
  same_state (g.F.Files.state c.args.files.now) (g.F.Files.state c.read_at.new.self) c.in_ok-read_at.ensures.files c.in_ok-read_at.ensures.ok,
  λ m b told at.
      optional-none b c.read_at.new.buf c.args.at c.args.size c.le16.result c.args.f.now c.headers-h.result (c.in_ok-read_at.ensures.bytes m b told at) c.headers-h.ensures c.le16.ensures
      (told_of (g.F.Files.state c.args.files.now).kept c.args.name.now m b c.requires.size told at) c.in_default.ensures.rules,
)
