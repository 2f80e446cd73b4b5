-- What the writers of program headers may suppose of loads and their areas.
use Rattle.std.specs.Prelude.{◌≡◌, ℕ, ◌+◌, ◌^◌, ◌<◌, ◌≤◌, List, All, length}
use Rattle.ap_fields.specs.Granules.{IsGranule}
use Rattle.ap_check.specs.declared.load.Load.{Load}
use Rattle.ap_layout.specs.declared.layout.Area.{Area}
use Rattle.ap_layout.specs.declared.sizes.TheConstants.{FILE_TOP}

-- each load has an area, and no sum of places passes 64 bits
pub record Placed (g : ℕ) (loads : List Load) (areas : List Area) : Type 0 where
  pub granule : IsGranule g
  pub same : length areas ≡ length loads
  pub tops : All (λ p. p.vaddr + p.filesz ≤ 2 ^ 47) loads
  pub places : All (λ x. x.file < FILE_TOP) areas
