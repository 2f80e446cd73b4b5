use Rattle.std.proofs.Common.{◌≡◌}
use Rattle.ap_files.specs.Files.{ForFile}
use Rattle.ap_elf.specs.Symbols.{strings_of, symbols_from}
use Rattle.ap_elf.specs.Begun.{NoneBegins}
use Rattle.ap_elf.proofs.begun.part_begins_in.Given as goal

abbrev pub invariant-loop-i : goal.invariant-loop-i
invariant-loop-i g l = record {
  state : g.F.Files.state l.files ≡ g.F.Files.state l.fn.files;
  none : ForFile (g.F.Files.state l.fn.files).kept l.name (λ b. NoneBegins (strings_of b l.t) l.text (symbols_from l.part 0 l.i));
}
