use Rattle.std.proofs.Common.{◌≡◌, ◌≤◌, ℕ, ◌-◌, length, None}
use Rattle.ap_link.proofs.Copying.{HasCopied}
use Rattle.ap_link.proofs.copy.copy.Given as goal

abbrev pub invariant-loop-done : goal.invariant-loop-done
invariant-loop-done g l = record {
  below : l.done ≤ l.count;
  copied : HasCopied (g.F.Files.state l.fn.files) (g.F.Files.state l.files) l.input l.out l.from l.done None;
  room : (let size : ℕ = 262144 in length l.buffer ≡ size);
}

abbrev pub decreases-loop-done : goal.decreases-loop-done
decreases-loop-done g l = l.count - l.done
