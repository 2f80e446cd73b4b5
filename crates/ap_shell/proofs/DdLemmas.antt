-- One block of a `dd`, and the operands' names.
use Rattle.std.proofs.Common.{◌≡◌, ◌∙◌, ap, sym, refl, ℕ, suc, ◌+◌, ◌-◌, ◌*◌, ◌<◌, List, [], ◌∷◌, length, take, drop, Bool, cond, arith}
use Rattle.ap_fields.specs.Fields.{patched}
use Rattle.ap_octal.specs.DdEffect.{blocks_copied, unless_empty}

goes_on : (bytes output : List ℕ) (next : List ℕ → List ℕ) → 0 < length bytes → unless_empty bytes output next ≡ next bytes
goes_on [] output next some = absurd (omega (arith, some))
goes_on (b ∷ bytes) output next some = refl

stops : (bytes output : List ℕ) (next : List ℕ → List ℕ) → length bytes ≡ 0 → unless_empty bytes output next ≡ output
stops [] output next none = refl
stops (b ∷ bytes) output next none = absurd (omega (arith, none))

-- n blocks are left, and one more is copied
pub block_more : (itself : Bool) (size skip n i from : ℕ) (input output block : List ℕ) → i < n → from ≡ (skip + i) * size → block ≡ take size (drop from (cond itself output input)) → 0 < length block
    → blocks_copied itself size skip (n - i) i input output ≡ blocks_copied itself size skip (n - (i + 1)) (i + 1) input (patched output (i * size) block)
block_more itself size skip n i from input output block below at is some =
    let left : n - i ≡ suc (n - (i + 1)) = omega arith in
    let read : take size (drop ((skip + i) * size) (cond itself output input)) ≡ block = ap (λ k. take size (drop k (cond itself output input))) (sym at) ∙ sym is in
    let next : List ℕ → List ℕ = λ b. blocks_copied itself size skip (n - (i + 1)) (i + 1) input (patched output (i * size) b) in
    ap (λ k. blocks_copied itself size skip k i input output) left
    ∙ ap (λ b. unless_empty b output next) read
    ∙ goes_on block output next some

-- or none is there any more
pub block_none : (itself : Bool) (size skip n i from : ℕ) (input output block : List ℕ) → i < n → from ≡ (skip + i) * size → block ≡ take size (drop from (cond itself output input)) → length block ≡ 0
    → blocks_copied itself size skip (n - i) i input output ≡ output
block_none itself size skip n i from input output block below at is none =
    let left : n - i ≡ suc (n - (i + 1)) = omega arith in
    let read : take size (drop ((skip + i) * size) (cond itself output input)) ≡ block = ap (λ k. take size (drop k (cond itself output input))) (sym at) ∙ sym is in
    let next : List ℕ → List ℕ = λ b. blocks_copied itself size skip (n - (i + 1)) (i + 1) input (patched output (i * size) b) in
    ap (λ k. blocks_copied itself size skip k i input output) left
    ∙ ap (λ b. unless_empty b output next) read
    ∙ stops block output next none
