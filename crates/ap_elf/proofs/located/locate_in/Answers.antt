use Rattle.std.proofs.Common.{◌≡◌, ◌∙◌, Some, sym}
use Rattle.ap_fields.specs.FirstFault.{first_fault}
use Rattle.ap_elf.specs.Symbols.{located, found_unless, tables_rules, tables_of}
use Rattle.ap_elf.proofs.SymbolSteps.{located-found}
use Rattle.ap_files.proofs.ReadLemmas.{reads-after}
use Rattle.ap_elf.proofs.located.locate_in.Goals as goal

pub returns-in-Some-2-clause-read : goal.returns-in-Some-2-clause-read
returns-in-Some-2-clause-read g c =
    let h = c.args.h.now in
    let t = c.in-Some-2.t in
    let first = rw c.in-Some-2.is at c.in_ok-t.ensures in
    reads-after (g.F.Files.state c.args.files.now) (g.F.Files.state c.first_table_in.new.files) (g.F.Files.state c.tables_in.new.files) c.args.name.now
    (λ b l. l ≡ found_unless (first_fault (tables_rules c.args.size b h (Some t))) (tables_of b h (Some t)))
    (λ b l. l ≡ located c.args.size b h) c.tables_in.result first.0
    (λ m b told at l is. is ∙ located-found c.args.size b h t c.if-h-eq0.false c.if-h-eq0-2.false c.in_default.ensures.first (sym (first.1 m b told at)))
    c.tables_in.ensures.read
