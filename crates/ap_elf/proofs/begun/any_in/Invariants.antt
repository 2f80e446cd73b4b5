use Rattle.std.proofs.Common.{◌≡◌, ◌-◌, ◌≤◌}
use Rattle.ap_files.specs.Files.{ForFile}
use Rattle.ap_elf.specs.Symbols.{strings_of, symbols_from}
use Rattle.ap_elf.specs.Begun.{NoneBegins}
use Rattle.ap_elf.proofs.begun.any_in.Given as goal

abbrev pub invariant-loop-done : goal.invariant-loop-done
invariant-loop-done g l = record {
  state : g.F.Files.state l.files ≡ g.F.Files.state l.fn.files;
  below : l.done ≤ l.t.count;
  none : ForFile (g.F.Files.state l.fn.files).kept l.name (λ b. NoneBegins (strings_of b l.t) l.text (symbols_from b l.t.at l.done));
}

abbrev pub decreases-loop-done : goal.decreases-loop-done
decreases-loop-done g l = l.t.count - l.done
