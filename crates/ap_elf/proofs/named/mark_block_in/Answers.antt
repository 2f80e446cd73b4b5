use Rattle.std.proofs.Common.{◌*◌, ◌∙◌, arith, ap, take, drop, subst}
use Rattle.std.proofs.lemmas.List.{length-take-le}
use Rattle.ap_files.proofs.ReadLemmas.{same_state}
use Rattle.ap_elf.specs.Seen.{AreNamed}
use Rattle.ap_elf.proofs.SymbolReads.{symbols-read}
use Rattle.ap_elf.proofs.named.mark_block_in.Goals as goal

pub returns-clause-marked : goal.returns-clause-marked
returns-clause-marked g c = (
  same_state (g.F.Files.state c.args.files.now) (g.F.Files.state c.read_at.new.self) c.in_ok-read_at.ensures.files c.in_ok-read_at.ensures.ok,
  λ m b told at.
      subst (AreNamed c.mark_symbols.new.marks)
      (symbols-read b c.read_at.new.buf c.args.at c.args.count
      (c.in_ok-read_at.ensures.bytes m b told at ∙ ap (λ k. take k (drop c.args.at b)) (length-take-le (24 * c.args.count) _ (omega arith))))
      c.mark_symbols.ensures.marked,
)
