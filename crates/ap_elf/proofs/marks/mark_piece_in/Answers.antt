use Rattle.std.proofs.Common.{◌≡◌, ◌+◌, ◌∙◌, arith, ap, take, drop, subst, true}
use Rattle.std.proofs.lemmas.List.{length-take-le}
use Rattle.ap_files.proofs.ReadLemmas.{same_state}
use Rattle.ap_elf.specs.Symbols.{stands_at}
use Rattle.ap_elf.specs.Seen.{may_stand}
use Rattle.ap_elf.proofs.Searches.{piece-read}
use Rattle.ap_elf.proofs.marks.mark_piece_in.Goals as goal

pub returns-clause-marked : goal.returns-clause-marked
returns-clause-marked g c = (
  same_state (g.F.Files.state c.args.files.now) (g.F.Files.state c.read_at.new.self) c.in_ok-read_at.ensures.files c.in_ok-read_at.ensures.ok,
  λ m b told at k.
      subst (λ part. stands_at part c.args.text.now k ≡ true → may_stand c.mark_part.new.marks (c.args.at + k) ≡ true)
      (piece-read b c.read_at.new.buf c.args.t.now c.args.at c.args.count c.requires.inside
      (c.in_ok-read_at.ensures.bytes m b told at ∙ ap (λ k. take k (drop (c.args.t.now.strings + c.args.at) b)) (length-take-le c.args.count _ (omega arith))))
      (c.mark_part.ensures.marked k),
)
