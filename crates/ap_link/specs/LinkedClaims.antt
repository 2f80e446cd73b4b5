-- The linked file of one or two inputs is the file of its claims: those of its block, and each area that has bytes.
use Rattle.std.specs.Prelude.{ℕ, ◌==◌, if◌then◌else◌, List, [], ◌∷◌, ◌++◌, Option, Some, None}
use Rattle.ap_fields.specs.Readings.{bytes_in}
use Rattle.ap_claims.specs.declared.owner.Owner.TheVariants as owner
use Rattle.ap_claims.specs.Lists.{Claim, claim}
use Rattle.ap_claims.specs.Files.{file_of}
use Rattle.ap_check.specs.declared.load.Load.{Load}
use Rattle.ap_check.specs.declared.options.Options.{Options}
use Rattle.ap_elf.specs.Machines.{granule_of}
use Rattle.ap_check.specs.Inputs.{Taken, input_of, inputs_of}
use Rattle.ap_layout.specs.declared.layout.Area.{Area}
use Rattle.ap_layout.specs.Areas.{content_of}
use Rattle.ap_layout.specs.Positions.{Positions, areas_one, areas_two, positions_of}
use Rattle.ap_script.specs.Claims.{block_claims}
use Rattle.ap_link.specs.Linked.{masks_in, second_of, taken_second}

-- the content of each load whose area isn't empty
abbrev pub area_claims : ℕ → (ℕ → ℕ) → List Load → List Area → List Claim
area_claims g byte [] areas = []
area_claims g byte (p ∷ loads) [] = []
area_claims g byte (p ∷ loads) (a ∷ areas) =
    if a.len == 0 then area_claims g byte loads areas
    else claim owner.Area a.file (content_of g byte p) ∷ area_claims g byte loads areas

-- the areas of an input of these bytes
abbrev pub input_claims : Taken → List ℕ → List Area → List Claim
input_claims e bytes areas = area_claims (granule_of e.machine) (bytes_in bytes) e.loads areas

-- the areas of one or two inputs, each with its bytes; an area that serves loads of both is claimed for each
abbrev pub tail_claims : List ℕ → Taken → List ℕ → Option (Taken × List ℕ) → List Claim
tail_claims masks e a None = input_claims e a (areas_one e)
tail_claims masks e a (Some (f, b)) = input_claims e a (areas_one e) ++ input_claims f b (areas_two masks e f)

-- the inputs that are taken, and the positions of their linked file
abbrev pub inputs_in : List ℕ → Option (List ℕ) → List Taken
inputs_in a b = inputs_of (input_of 1 a) (taken_second b)

abbrev pub positions_in : Options → List ℕ → Option (List ℕ) → Positions
positions_in options a b = positions_of options (input_of 1 a) (taken_second b) (masks_in a b)

abbrev pub linked_claims : Options → List ℕ → Option (List ℕ) → List Claim
linked_claims options a b = block_claims options (inputs_in a b) (positions_in options a b) ++ tail_claims (masks_in a b) (input_of 1 a) a (second_of b)

-- the linked file of one or two inputs, by the options and their bytes
unfoldable pub linked_of : Options → List ℕ → Option (List ℕ) → List ℕ
linked_of options a b = file_of (positions_in options a b).total (linked_claims options a b)
