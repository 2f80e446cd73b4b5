-- Rounding to a granule.
use Rattle.std.specs.Prelude.{◌≡◌, ◌⊎◌, ℕ, ◌+◌, ◌-◌, ◌*◌, ◌/◌, ◌^◌}

abbrev pub IsPowerOfTwo : ℕ → Type 0
IsPowerOfTwo g = (k : ℕ) × (g ≡ 2 ^ k)

-- the greatest multiple of g that is at most a
abbrev pub floor_of : ℕ → ℕ → ℕ
floor_of a g = a / g * g

-- the least multiple of g that is at least a
abbrev pub ceil_of : ℕ → ℕ → ℕ
ceil_of a g = floor_of (a + g - 1) g

-- the granules of x86-64 and of AArch64
abbrev pub IsGranule : ℕ → Type 0
IsGranule g = (g ≡ 4096) ⊎ (g ≡ 16384)
