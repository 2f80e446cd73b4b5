-- Pages that divide a granule, and rounding to both.
use Rattle.std.proofs.Common.{◌≡◌, inl, inr, ℕ, ◌+◌, ◌%◌, ◌<◌, ◌≤◌, refl, sym, subst, arith}
use Rattle.std.proofs.lemmas.Bool.Decides.{nat_tests}
use Rattle.ap_fields.specs.Granules.{IsGranule, floor_of, ceil_of}
use Rattle.ap_elf.specs.declared.machine.Machine.{Machine}
use Rattle.ap_elf.specs.declared.machine.Machine.TheVariants.{X64, A64}
use Rattle.ap_elf.specs.Machines.{granule_of}
use Rattle.ap_elf.specs.Machines.{IsPage}

pub granule-positive : (g : ℕ) → IsGranule g → 1 ≤ g
granule-positive g is = grind arith

pub granule-fits : (g : ℕ) → IsGranule g → g ≤ 16384
granule-fits g is = grind arith

-- an address by its granule and its place there
pub floor-sum : (a g : ℕ) → IsGranule g → (floor_of a g + a % g ≡ a) × (a % g < 16384)
floor-sum a g is =
    let positive : 1 ≤ g = granule-positive g is in
    let fits : g ≤ 16384 = granule-fits g is in
    let small : a % g < g = omega arith in
    (omega arith, omega arith)

-- rounding up goes past a multiple
pub ceil-apart : (v n g : ℕ) → IsGranule g → ceil_of (v + n) g ≡ floor_of v g + ceil_of (v % g + n) g
ceil-apart v n g is = elim is [
  | inl e ↦ (let P : ℕ → Type 0 = λ p. ceil_of (v + n) p ≡ floor_of v p + ceil_of (v % p + n) p in let here : P 4096 = grind (arith, nat_tests) in subst P (sym e) here)
  | inr e ↦ (let P : ℕ → Type 0 = λ p. ceil_of (v + n) p ≡ floor_of v p + ceil_of (v % p + n) p in let here : P 16384 = grind (arith, nat_tests) in subst P (sym e) here)
]

-- a multiple more leaves the place in the granule
pub mod-on : (x v g : ℕ) → IsGranule g → x % g ≡ 0 → (x + v % g) % g ≡ v % g
mod-on x v g is even =
    elim is [
      | inl e ↦ (let P : ℕ → Type 0 = λ q. x % q ≡ 0 → (x + v % q) % q ≡ v % q in let here : P 4096 = λ h. omega arith in subst P (sym e) here even)
      | inr e ↦ (let P : ℕ → Type 0 = λ q. x % q ≡ 0 → (x + v % q) % q ≡ v % q in let here : P 16384 = λ h. omega arith in subst P (sym e) here even)
    ]

-- what is known of a page of a granule
pub record IsPaged (page g : ℕ) : Type 0 where
  pub size : IsGranule page
  pub floors : (a : ℕ) → floor_of a g ≤ floor_of a page
  pub ceils : (a : ℕ) → ceil_of a page ≤ ceil_of a g
  pub even : (a b : ℕ) → a % g ≡ b % g → a % page ≡ b % page

paged-4 : IsPaged 4096 4096
paged-4 = record { size = inl refl; floors = λ a. omega arith; ceils = λ a. omega arith; even = λ a b e. e }

paged-16 : IsPaged 16384 16384
paged-16 = record { size = inr refl; floors = λ a. omega arith; ceils = λ a. omega arith; even = λ a b e. e }

paged-mixed : IsPaged 4096 16384
paged-mixed = record { size = inl refl; floors = λ a. omega arith; ceils = λ a. grind (arith, nat_tests); even = λ a b e. omega arith }

-- a page of a machine
pub paged : (m : Machine) (page : ℕ) → IsPage m page → IsPaged page (granule_of m)
paged X64 page is = rw is paged-4
paged A64 page (inl is) = rw is paged-mixed
paged A64 page (inr is) = rw is paged-16
