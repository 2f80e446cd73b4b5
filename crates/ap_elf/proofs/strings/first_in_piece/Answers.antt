use Rattle.std.proofs.Common.{◌+◌, ◌∙◌, arith, ap, take, drop, subst}
use Rattle.std.proofs.lemmas.List.{length-take-le}
use Rattle.memchr.specs.Find.{FindsNeedle}
use Rattle.ap_files.proofs.ReadLemmas.{same_state}
use Rattle.ap_elf.proofs.Searches.{piece-read, found-within}
use Rattle.ap_elf.proofs.strings.first_in_piece.Goals as goal

pub returns-clause-first : goal.returns-clause-first
returns-clause-first g c = (
  same_state (g.F.Files.state c.args.files.now) (g.F.Files.state c.read_at.new.self) c.in_ok-read_at.ensures.files c.in_ok-read_at.ensures.ok,
  λ m b told at.
      subst (λ part. FindsNeedle part c.args.text.now 0 c.find.result)
      (piece-read b c.read_at.new.buf c.args.t.now c.args.at c.args.count c.requires.inside
      (c.in_ok-read_at.ensures.bytes m b told at ∙ ap (λ k. take k (drop (c.args.t.now.strings + c.args.at) b)) (length-take-le c.args.count _ (omega arith))))
      c.find.ensures,
)

pub returns-clause-within : goal.returns-clause-within
returns-clause-within g c = found-within c.read_at.new.buf c.args.text.now c.args.count c.find.result (c.read_at.auto.buf ∙ length-take-le c.args.count _ (omega arith)) c.find.ensures
