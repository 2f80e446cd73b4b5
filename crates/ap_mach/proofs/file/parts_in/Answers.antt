use Rattle.std.proofs.Common.{◌∙◌, ◌≤◌, ap, take, drop, subst, arith}
use Rattle.std.proofs.lemmas.List.{length-take-le}
use Rattle.ap_files.proofs.ReadLemmas.{same_state, told_of}
use Rattle.ap_mach.proofs.PartReads.{parts-read}
use Rattle.ap_mach.proofs.file.parts_in.Goals as goal

pub returns-clause-read : goal.returns-clause-read
returns-clause-read g c = (
  same_state (g.F.Files.state c.args.files.now) (g.F.Files.state c.read_at.new.self) c.in_ok-read_at.ensures.files c.in_ok-read_at.ensures.ok,
  λ m b told at.
      let sized = told_of (g.F.Files.state c.args.files.now).kept c.args.name.now m b c.requires.size told at in
      let few = c.min-count.ensures in
      let place = c.args.at in
      c.parts.ensures.is
      ∙ parts-read b c.read_at.new.buf place c.args.end c.min-count.result
      (c.in_ok-read_at.ensures.bytes m b told at ∙ ap (λ k. take k (drop place b)) (length-take-le c.min-count.result _ (omega arith)))
      few c.requires.from (subst (λ n. c.args.end ≤ n) sized c.requires.end),
)
