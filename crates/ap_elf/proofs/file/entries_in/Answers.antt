use Rattle.std.proofs.Common.{◌∙◌, ap, take, drop, arith, length, ◌*◌}
use Rattle.std.proofs.lemmas.List.{length-take-le}
use Rattle.ap_files.proofs.ReadLemmas.{same_state}
use Rattle.ap_elf.proofs.EntryTables.{table-read, length-entries_from}
use Rattle.ap_elf.proofs.file.entries_in.Goals as goal

pub returns-clause-read : goal.returns-clause-read
returns-clause-read g c = (
  same_state (g.F.Files.state c.args.files.now) (g.F.Files.state c.read_at.new.self) c.in_ok-read_at.ensures.files c.in_ok-read_at.ensures.ok,
  λ m b told at. c.entries.ensures ∙ table-read c.args.h.now.e_phnum c.args.h.now.e_phoff b c.read_at.new.buf
      (c.in_ok-read_at.ensures.bytes m b told at ∙ ap (λ k. take k (drop c.args.h.now.e_phoff b)) (length-take-le (56 * c.args.h.now.e_phnum) _ (omega arith))),
)

pub returns-clause-count : goal.returns-clause-count
returns-clause-count g c = ap length c.entries.ensures ∙ length-entries_from c.read_at.new.buf 0 c.args.h.now.e_phnum
