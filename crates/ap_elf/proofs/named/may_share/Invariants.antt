use Rattle.std.proofs.Common.{◌≡◌, ◌<◌, ◌&&◌, ℕ, false}
use Rattle.std.specs.Prelude.{get_or}
use Rattle.ap_elf.proofs.named.may_share.Given as goal

abbrev pub invariant-loop-i : goal.invariant-loop-i
invariant-loop-i l = record {
  apart : (k : ℕ) → k < l.i → (get_or l.a k false && get_or l.b k false) ≡ false;
}
