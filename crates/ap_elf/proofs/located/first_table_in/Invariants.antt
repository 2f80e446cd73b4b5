use Rattle.std.proofs.Common.{◌≡◌, ◌+◌, ◌*◌, ◌-◌}
use Rattle.std.specs.Prelude.{find}
use Rattle.ap_files.specs.Files.{ForFile}
use Rattle.ap_elf.specs.Symbols.{symbol_table, sections_from, is_symbol_table}
use Rattle.ap_elf.proofs.located.first_table_in.Given as goal

abbrev pub invariant-loop-i : goal.invariant-loop-i
invariant-loop-i g l = record {
  state : g.F.Files.state l.files ≡ g.F.Files.state l.fn.files;
  left : ForFile (g.F.Files.state l.fn.files).kept l.name (λ b. symbol_table b l.h ≡ find is_symbol_table (sections_from b (l.h.e_shoff + 64 * l.i) (l.h.e_shnum - l.i)));
}
