-- The linked file of one or two inputs as it is written, a word of proofs: the block, and behind it the areas of the inputs'
-- loads. What the file is say its claims (LinkedClaims).
use Rattle.std.specs.Prelude.{ℕ, ◌-◌, if◌then◌else◌, List, [], ◌∷◌, ◌++◌, Option, Some, None}
use Rattle.ap_fields.specs.Bytes.{zeros}
use Rattle.ap_fields.specs.Readings.{bytes_in}
use Rattle.ap_fields.specs.declared.sizes.TheConstants.{BLOCK}
use Rattle.ap_check.specs.declared.load.Load.{Load}
use Rattle.ap_check.specs.declared.options.Options.{Options}
use Rattle.ap_elf.specs.Machines.{granule_of}
use Rattle.ap_check.specs.Inputs.{Taken, input_of, inputs_of}
use Rattle.ap_layout.specs.declared.layout.Area.{Area}
use Rattle.ap_layout.specs.Areas.{content_of, end_of, is_new}
use Rattle.ap_layout.specs.Positions.{areas_one, areas_two, end_one, positions_of}
use Rattle.ap_layout.specs.Twins.{masks_of}
use Rattle.ap_script.specs.Blocks.{block_of}

-- what stands for areas behind the first c bytes: zeros up to each area that is new, and its content
abbrev pub areas_text : ℕ → ℕ → (ℕ → ℕ) → List Load → List Area → List ℕ
areas_text c g byte [] areas = []
areas_text c g byte (p ∷ loads) [] = []
areas_text c g byte (p ∷ loads) (a ∷ areas) =
    if is_new c a then zeros (a.file - c) ++ (content_of g byte p ++ areas_text (end_of a) g byte loads areas)
    else areas_text c g byte loads areas

-- what stands for an input of these bytes and areas behind the first c bytes
abbrev pub input_text : ℕ → Taken → List ℕ → List Area → List ℕ
input_text c e bytes areas = areas_text c (granule_of e.machine) (bytes_in bytes) e.loads areas

-- what stands for the first input, and for the second behind it
abbrev pub text_one : Taken → List ℕ → List ℕ
text_one e a = input_text BLOCK e a (areas_one e)

abbrev pub text_two : List ℕ → Taken → Taken → List ℕ → List ℕ
text_two masks e f b = input_text (end_one e) f b (areas_two masks e f)

-- what stands behind the block for one or two inputs, each with its bytes
abbrev pub tail_of : List ℕ → Taken → List ℕ → Option (Taken × List ℕ) → List ℕ
tail_of masks e a None = text_one e a
tail_of masks e a (Some (f, b)) = text_one e a ++ text_two masks e f b

-- the block of one or two inputs
abbrev pub block_for : Options → Taken → Option Taken → List ℕ → List ℕ
block_for options e o masks = block_of options (inputs_of e o) (positions_of options e o masks)

-- the masks that are true of one or two inputs
abbrev pub true_masks : Taken → List ℕ → Option (Taken × List ℕ) → List ℕ
true_masks e a None = []
true_masks e a (Some (f, b)) = masks_of e (bytes_in a) f (bytes_in b)

-- the second input, as it is taken, with its bytes
abbrev pub second_of : Option (List ℕ) → Option (Taken × List ℕ)
second_of None = None
second_of (Some b) = Some (input_of 2 b, b)

abbrev pub taken_second : Option (List ℕ) → Option Taken
taken_second None = None
taken_second (Some b) = Some (input_of 2 b)

-- the masks that are true of the bytes of one or two inputs
abbrev pub masks_in : List ℕ → Option (List ℕ) → List ℕ
masks_in a b = true_masks (input_of 1 a) a (second_of b)

-- the block, and what stands behind it
unfoldable pub linked_text : Options → List ℕ → Option (List ℕ) → List ℕ
linked_text options a b = block_for options (input_of 1 a) (taken_second b) (masks_in a b) ++ tail_of (masks_in a b) (input_of 1 a) a (second_of b)
