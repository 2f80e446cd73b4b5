-- Rounding to a granule.
use Rattle.std.proofs.Common.{inl, inr, ◌≡◌, ℕ, ◌+◌, ◌*◌, ◌<◌, ◌≤◌, ◌-◌, ◌/◌, ◌%◌, refl, ap, ◌∙◌, arith}
use Rattle.std.proofs.lemmas.Nat.{div-add-mod', div-mul-add, pow_pos}
use Rattle.ap_fields.specs.Granules.{IsPowerOfTwo, IsGranule, ceil_of}

-- the granules of the two machines
pub power-4096 : IsPowerOfTwo 4096
power-4096 = (12, refl)

pub power-16384 : IsPowerOfTwo 16384
power-16384 = (14, refl)

pub granule_power : (g : ℕ) → IsGranule g → IsPowerOfTwo g
granule_power g (inl is) = (12, is)
granule_power g (inr is) = (14, is)

pub ruleset powers = (power-4096, power-16384, granule_power)

pub power_pos : (g : ℕ) → IsPowerOfTwo g → 0 < g
power_pos g (k, e) = rw e (pow_pos k)

pub granule_pos : (g : ℕ) → IsGranule g → 0 < g
granule_pos g is = power_pos g (granule_power g is)

-- rounded up, a number is no less
pub ceil_of-least : (a g : ℕ) → IsGranule g → a ≤ ceil_of a g
ceil_of-least a g is =
    let pos = granule_pos g is in
    let whole = div-add-mod' (a + g - 1) g in
    omega arith

-- a multiple is rounded up to itself
pub ceil_of-multiple : (a g : ℕ) → 0 < g → a % g ≡ 0 → ceil_of a g ≡ a
ceil_of-multiple a g pos even =
    let whole = div-add-mod' a g in
    let split : a + g - 1 ≡ a / g * g + (g - 1) = omega arith in
    let row : (a + g - 1) / g ≡ a / g = ap (λ x. x / g) split ∙ div-mul-add (a / g) g (g - 1) (omega arith) in
    ap (λ x. x * g) row ∙ omega arith

-- any other number is rounded up to the next multiple
pub ceil_of-over : (a g : ℕ) → 0 < g → (a % g ≡ 0 → ⊥) → ceil_of a g ≡ a - a % g + g
ceil_of-over a g pos over =
    let whole = div-add-mod' a g in
    let below : a % g < g = omega arith in
    let next : (a / g + 1) * g ≡ a / g * g + g = omega arith in
    let split : a + g - 1 ≡ (a / g + 1) * g + (a % g - 1) = omega arith in
    let row : (a + g - 1) / g ≡ a / g + 1 = ap (λ x. x / g) split ∙ div-mul-add (a / g + 1) g (a % g - 1) (omega arith) in
    ap (λ x. x * g) row ∙ omega arith
