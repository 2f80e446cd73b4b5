use Rattle.std.proofs.Common.{◌≡◌, ◌≤◌, ◌-◌, ℕ, length, take}
use Rattle.ap_files.specs.Files.{ForFile}
use Rattle.ap_files.proofs.whole.read_all.Given as goal

abbrev pub invariant-loop-done : goal.invariant-loop-done
invariant-loop-done g l = record {
  state : g.F.Files.state l.files ≡ g.F.Files.state l.fn.files;
  below : l.done ≤ l.size;
  long : length l.bytes.items ≡ l.done;
  room : (let size : ℕ = 65536 in length l.buffer ≡ size);
  read : ForFile (g.F.Files.state l.fn.files).kept l.name (λ b. l.bytes.items ≡ take l.done b);
}

abbrev pub decreases-loop-done : goal.decreases-loop-done
decreases-loop-done g l = l.size - l.done
