-- What is rounded to a granule, and how long and how far areas are.
use Rattle.std.proofs.Common.{◌≡◌, inl, inr, ℕ, ◌+◌, ◌%◌, ◌^◌, ◌<◌, ◌≤◌, eqb, refl, sym, subst, arith, None}
use Rattle.std.proofs.lemmas.Bool.{cases_Bool}
use Rattle.std.proofs.lemmas.Bool.Decides.{nat_tests}
use Rattle.ap_fields.specs.Granules.{IsGranule, ceil_of}
use Rattle.ap_fields.proofs.Granules.{granule_power}
use Rattle.ap_elf.specs.declared.machine.Machine.{Machine}
use Rattle.ap_elf.specs.declared.machine.Machine.TheVariants.{X64, A64}
use Rattle.ap_check.specs.declared.load.Load.{Load}
use Rattle.ap_elf.specs.Machines.{granule_of}
use Rattle.ap_layout.specs.declared.sizes.TheConstants.{MOST_BESIDE}
use Rattle.ap_layout.specs.Areas.{content_length, end_of, area_of}

pub granule_of-is : (m : Machine) → IsGranule (granule_of m)
granule_of-is X64 = inl refl
granule_of-is A64 = inr refl

pub granule-positive : (g : ℕ) → IsGranule g → 1 ≤ g
granule-positive g is = grind arith

pub ceil-least : (a g : ℕ) → IsGranule g → a ≤ ceil_of a g
ceil-least a g is = grind (arith, nat_tests)

pub ceil-below : (a g : ℕ) → IsGranule g → ceil_of a g < a + 16384
ceil-below a g is = elim is [
  | inl e ↦ (let P : ℕ → Type 0 = λ p. ceil_of a p < a + 16384 in let here : ceil_of a 4096 < a + 16384 = grind (arith, nat_tests) in subst P (sym e) here)
  | inr e ↦ (let P : ℕ → Type 0 = λ p. ceil_of a p < a + 16384 in let here : ceil_of a 16384 < a + 16384 = grind (arith, nat_tests) in subst P (sym e) here)
]

pub ceil-even : (a g : ℕ) → IsGranule g → ceil_of a g % g ≡ 0
ceil-even a g is = elim is [
  | inl e ↦ (let P : ℕ → Type 0 = λ p. ceil_of a p % p ≡ 0 in let here : ceil_of a 4096 % 4096 ≡ 0 = grind (arith, nat_tests) in subst P (sym e) here)
  | inr e ↦ (let P : ℕ → Type 0 = λ p. ceil_of a p % p ≡ 0 in let here : ceil_of a 16384 % 16384 ≡ 0 = grind (arith, nat_tests) in subst P (sym e) here)
]

pub ceil-fits : (a g : ℕ) → IsGranule g → a < 2 ^ 63 → ceil_of a g < 2 ^ 64
ceil-fits a g is h = let high = ceil-below a g is in omega arith

-- the content holds the load's bytes, and is at most two granules longer
pub content-bounds : (g : ℕ) (p : Load) → IsGranule g → (p.vaddr % g + p.filesz ≤ content_length g p) × (content_length g p < p.filesz + 32768)
unfolding content_length
content-bounds g p is =
    let low : p.vaddr % g + p.filesz ≤ ceil_of (p.vaddr % g + p.filesz) g = ceil-least _ g is in
    let high : ceil_of (p.vaddr % g + p.filesz) g < p.vaddr % g + p.filesz + 16384 = ceil-below (p.vaddr % g + p.filesz) g is in
    let small : p.vaddr % g < 16384 = grind arith in
    (low, omega arith)

-- where a new area ends
pub made-end : (g : ℕ) (p : Load) (c : ℕ) → IsGranule g → ceil_of c g + content_length g p ≤ c + p.filesz + MOST_BESIDE
made-end g p c is = let h = ceil-below c g is in let k = content-bounds g p is in omega arith

-- how far the cursor moves
pub area-end : (g : ℕ) (p : Load) (c : ℕ) → IsGranule g → end_of (area_of None g p c) ≤ c + p.filesz + MOST_BESIDE
area-end g p c is =
    elim (cases_Bool (eqb p.filesz 0)) [
      | inl z ↦ rw z (omega arith)
      | inr some ↦ rw some (made-end g p c is)
    ]

pub ruleset area_steps = (granule-positive, ceil-fits, granule_power, made-end, area-end)
