-- A file whose size is told.
use Rattle.std.proofs.Common.{◌≡◌, ℕ, true, List, length, Option, Some, None, refl, arith}
use Rattle.std.proofs.lemmas.Bool.Decides.{nat_tests}
use Rattle.std.specs.FinMap as map
use Rattle.ap_files.specs.Files.{FileMap}
use Rattle.ap_files.specs.Reads.{HasSize}
use Rattle.ap_image.specs.PlanCells.{IsSized, has_size}

sized : (o : Option (List ℕ)) (size : ℕ) → has_size o size ≡ true → (b : List ℕ) × (o ≡ Some b) × (size ≡ length b)
sized None size e = absurd (cc)
sized (Some b) size e = (b, refl, grind (arith, nat_tests))

pub has-size : (kept : Option FileMap) (name : List ℕ) (size : ℕ) → IsSized kept name size → HasSize kept name size
has-size kept name size is m told = sized (map.get m name) size (is m told)
