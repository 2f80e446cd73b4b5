use Rattle.std.proofs.Common.{◌+◌, ◌*◌, ◌∙◌, Some, sym, ap}
use Rattle.ap_files.specs.Files.{FileState}
use Rattle.ap_elf.specs.declared.types.Section.{Section}
use Rattle.ap_elf.specs.Symbols.{section_at, is_symbol_table, symbol_table}
use Rattle.ap_elf.proofs.SymbolSteps.{section-step, find-here, find-next}
use Rattle.ap_elf.proofs.located.first_table_in.Goals as goal

pub returns-then-is_symbol_table : goal.returns-then-is_symbol_table
returns-then-is_symbol_table g c = (
  c.in_ok-s.ensures.0 ∙ c.loop-i.invariant.state,
  λ m b told at.
      let h = c.args.h.now in
      let read = c.in_ok-s.ensures.1 m b (ap (λ (s : FileState). s.kept) c.loop-i.invariant.state ∙ told) at in
      ap (λ (s : Section). Some s) read
      ∙ sym (find-here is_symbol_table (section_at b (h.e_shoff + 64 * c.loop-i.i)) _ _ (symbol_table b h) (c.loop-i.invariant.left m b told at)
      (section-step b h.e_shoff h.e_shnum c.loop-i.i c.loop-i-test.true) (ap is_symbol_table (sym read) ∙ sym c.is_symbol_table.ensures ∙ c.if-is_symbol_table.true)),
)

pub loop-i-preserved : goal.loop-i-preserved
loop-i-preserved g c = record {
  state = c.in_ok-s.ensures.0 ∙ c.loop-i.invariant.state;
  left = λ m b told at.
      let h = c.args.h.now in
      let read = c.in_ok-s.ensures.1 m b (ap (λ (s : FileState). s.kept) c.loop-i.invariant.state ∙ told) at in
      find-next is_symbol_table (section_at b (h.e_shoff + 64 * c.loop-i.i)) _ _ (symbol_table b h) (c.loop-i.invariant.left m b told at)
      (section-step b h.e_shoff h.e_shnum c.loop-i.i c.loop-i-test.true) (ap is_symbol_table (sym read) ∙ sym c.is_symbol_table.ensures ∙ c.if-is_symbol_table.false);
}
