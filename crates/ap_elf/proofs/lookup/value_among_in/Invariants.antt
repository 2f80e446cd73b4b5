use Rattle.std.proofs.Common.{◌≡◌, ◌*◌, ◌-◌}
use Rattle.ap_files.specs.Files.{ForFile}
use Rattle.ap_elf.specs.Symbols.{value_among, strings_of, symbols_from}
use Rattle.ap_elf.proofs.lookup.value_among_in.Given as goal

abbrev pub invariant-loop-i : goal.invariant-loop-i
invariant-loop-i g l = record {
  state : g.F.Files.state l.files ≡ g.F.Files.state l.fn.files;
  left : ForFile (g.F.Files.state l.fn.files).kept l.name (λ b. value_among (strings_of b l.t) l.wanted (symbols_from l.part 0 l.count) ≡ value_among (strings_of b l.t) l.wanted (symbols_from l.part (24 * l.i) (l.count - l.i)));
}
