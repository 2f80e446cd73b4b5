-- Loads that fit behind headers, and how much of the file their sections show.
use Rattle.std.proofs.Common.{ℕ, ◌+◌, ◌^◌, ◌<◌, ◌≤◌, List, [], ◌∷◌, length, drop, get_or, refl, subst, arith}
use Rattle.std.proofs.lemmas.List.{drop_more}
use Rattle.ap_fields.specs.Granules.{IsPowerOfTwo, floor_of, ceil_of}
use Rattle.ap_check.specs.declared.load.Load.{Load}
use Rattle.ap_check.specs.Inputs.{last_stop}
use Rattle.ap_pe.specs.Sections.{Fit}

pub power-512 : IsPowerOfTwo 512
power-512 = (9, refl)

pub ruleset powers = (power-512)

-- loads end where they fit
pub fit-end : (base end : ℕ) (loads : List Load) → Fit base end loads → end ≤ base + 2 ^ 31
fit-end base end [] fit = fit
fit-end base end (p ∷ loads) fit =
    let first = fit.0 in
    let sum : floor_of p.vaddr 4096 ≤ p.vaddr = omega arith in
    let above : p.vaddr + p.memsz ≤ ceil_of (p.vaddr + p.memsz) 4096 = omega arith in
    let rest = fit-end base (ceil_of (p.vaddr + p.memsz) 4096) loads fit.2 in
    omega arith

pub fit-last : (base end : ℕ) (loads : List Load) → Fit base end loads → last_stop 4096 end loads ≤ base + 2 ^ 31
fit-last base end [] fit = fit
fit-last base end (p ∷ loads) fit = fit-last base (ceil_of (p.vaddr + p.memsz) 4096) loads fit.2

-- what is known of the load of a number
pub record FitsAt (base end : ℕ) (p : Load) : Type 0 where
  pub order : end ≤ floor_of p.vaddr 4096
  pub sizes : p.filesz ≤ p.memsz
  pub top : p.vaddr + p.memsz ≤ base + 2 ^ 31
  pub stop : ceil_of (p.vaddr + p.memsz) 4096 ≤ base + 2 ^ 31

pub fit-at : (base end i : ℕ) (loads : List Load) (d : Load) → i < length loads → Fit base end (drop i loads) → FitsAt base end (get_or loads i d)
fit-at base end i loads d within fit =
    let p : Load = get_or loads i d in
    let h : Fit base end (p ∷ drop (i + 1) loads) = subst (λ (l : List Load). Fit base end l) (drop_more loads i d within) fit in
    let stop = fit-end base (ceil_of (p.vaddr + p.memsz) 4096) (drop (i + 1) loads) h.2 in
    let above : p.vaddr + p.memsz ≤ ceil_of (p.vaddr + p.memsz) 4096 = omega arith in
    record { order = h.0; sizes = h.1; top = omega arith; stop = stop }

pub fit-next : (base end i : ℕ) (loads : List Load) (d : Load) → i < length loads → Fit base end (drop i loads) → Fit base (ceil_of ((get_or loads i d).vaddr + (get_or loads i d).memsz) 4096) (drop (i + 1) loads)
fit-next base end i loads d within fit =
    let p : Load = get_or loads i d in
    let h : Fit base end (p ∷ drop (i + 1) loads) = subst (λ (l : List Load). Fit base end l) (drop_more loads i d within) fit in
    h.2

pub ruleset fit_steps = (fit-at, fit-next)
