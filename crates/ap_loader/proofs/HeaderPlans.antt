-- The plan of a file by the header that takes the place of its first bytes, and that header by the file's window.
use Rattle.std.proofs.Common.{◌≡◌, ℕ, Bool, true, false, if◌then◌else◌, min, List, length, take, Option, Some, None, Result, Ok, Err, refl, sym, ap, ◌∙◌, subst, arith, inl, inr}
use Rattle.std.proofs.lemmas.Bool.{cases_lt}
use Rattle.std.proofs.lemmas.List.{take_all, take-take}
use Rattle.ap_fields.specs.declared.sizes.TheConstants.{WINDOW}
use Rattle.ap_fields.specs.Granules.{IsGranule}
use Rattle.ap_image.specs.Plans.{Mapping}
use Rattle.ap_image.specs.Reading.{IsPlanOf}
use Rattle.ap_loader.specs.declared.fault.ApeFault.{ApeFault}
use Rattle.ap_loader.specs.declared.fault.ApeFault.TheVariants.{NoMagic}
use Rattle.ap_loader.specs.Embedded.{has_magic, taken}
use Rattle.ap_loader.specs.ApeReading.{as_ape, plan_over, plan_by, ape_plan, ape_reading, header_by, header_for}
use Rattle.ap_loader.specs.Laws.{magic-same, taken-same, cells-ape}

abbrev plan_with : ℕ → ℕ → List ℕ → Result (List ℕ) ApeFault → Result Mapping ApeFault
plan_with machine page file (Ok header) = as_ape (plan_over machine page file header)
plan_with machine page file (Err fault) = Err fault

by-taken : (machine page : ℕ) (file : List ℕ) (statement : Option (ℕ × List ℕ)) → plan_with machine page file (header_by statement) ≡ plan_by machine page file statement
by-taken machine page file None = refl
by-taken machine page file (Some (at, header)) = refl

by-magic : (b : Bool) (machine page : ℕ) (file : List ℕ)
    → plan_with machine page file (if b then header_by (taken machine file) else Err NoMagic) ≡ (if b then plan_by machine page file (taken machine file) else Err NoMagic)
by-magic true machine page file = by-taken machine page file (taken machine file)
by-magic false machine page file = refl

-- where there is no such header
pub plan-refused : (machine page : ℕ) (file : List ℕ) (fault : ApeFault) → header_for machine file ≡ Err fault → Err fault ≡ ape_plan machine page file
plan-refused machine page file fault is = ap (plan_with machine page file) (sym is) ∙ by-magic (has_magic file) machine page file

-- and where there is one
pub plan-headed : (machine page : ℕ) (file header : List ℕ) → header_for machine file ≡ Ok header → as_ape (plan_over machine page file header) ≡ ape_plan machine page file
plan-headed machine page file header is = ap (plan_with machine page file) (sym is) ∙ by-magic (has_magic file) machine page file

-- a plan that is the definition's shows what the definition says
pub plan-image : (machine page : ℕ) (file : List ℕ) (plan : Result Mapping ApeFault) → IsGranule page → plan ≡ ape_plan machine page file → IsPlanOf plan file (ape_reading machine page file)
plan-image machine page file plan page_is is = subst (λ p. IsPlanOf p file (ape_reading machine page file)) (sym is) (cells-ape machine page file page_is)

-- the first bytes, of which there are as many as a window has
fronts-same : (n : ℕ) (file window : List ℕ) → n ≡ min (length file) WINDOW → window ≡ take n file → (take 8 window ≡ take 8 file) × (take WINDOW window ≡ take WINDOW file)
fronts-same n file window count is =
    elim (cases_lt WINDOW (length file)) [
      | inl long ↦ (
          let all : n ≡ WINDOW = omega arith in
          let same : window ≡ take WINDOW file = is ∙ ap (λ k. take k file) all in
          (ap (take 8) same ∙ take-take 8 WINDOW file (omega arith), ap (take WINDOW) same ∙ take-take WINDOW WINDOW file (omega arith)))
      | inr short ↦ (let same : window ≡ file = is ∙ take_all n file (omega arith) in (ap (take 8) same, ap (take WINDOW) same))
    ]

-- the header that a file's window gives is the file's
pub header_for-window : (machine n : ℕ) (file window : List ℕ) → n ≡ min (length file) WINDOW → window ≡ take n file → header_for machine window ≡ header_for machine file
header_for-window machine n file window count is =
    let same = fronts-same n file window count is in
    let magic = magic-same window file same.0 in
    ap (λ b. if b then header_by (taken machine window) else Err NoMagic) magic
    ∙ ap (λ t. if has_magic file then header_by t else Err NoMagic) (taken-same machine window file magic same.1)
