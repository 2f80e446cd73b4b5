use Rattle.std.proofs.Common.{◌≡◌, ◌≤◌, ◌+◌, ◌-◌, length, take, drop}
use Rattle.std.specs.Str.{bytes_eq}
use Rattle.ap_files.specs.Files.{ForFile}
use Rattle.ap_elf.proofs.compare.agrees_in.Given as goal

abbrev pub invariant-loop-done : goal.invariant-loop-done
invariant-loop-done g l = record {
  state : g.F.Files.state l.files ≡ g.F.Files.state l.fn.files;
  below : l.done ≤ length l.text;
  left : ForFile (g.F.Files.state l.fn.files).kept l.name (λ b. bytes_eq (take (length l.text) (drop l.at b)) l.text ≡ bytes_eq (take (length l.text - l.done) (drop (l.at + l.done) b)) (drop l.done l.text));
}

abbrev pub decreases-loop-done : goal.decreases-loop-done
decreases-loop-done g l = length l.text - l.done
