-- What the block of a linked file is claimed for, and by whom.
use Rattle.std.specs.Prelude.{ℕ, List, [], ◌∷◌, ◌++◌, map, Option, Some, None}
use Rattle.ap_fields.specs.declared.sizes.TheConstants.{BLOCK}
use Rattle.ap_claims.specs.declared.owner.Owner.TheVariants.{Shell, Ape, Elf}
use Rattle.ap_claims.specs.Lists.{Claim, claim}
use Rattle.ap_claims.specs.Files.{IsFile}
use Rattle.ap_octal.specs.Statement.{statement_of}
use Rattle.ap_elf.specs.declared.machine.Machine.TheVariants.{X64, A64}
use Rattle.ap_check.specs.declared.options.Options.{Options}
use Rattle.ap_check.specs.Inputs.{Taken}
use Rattle.ap_layout.specs.Positions.{Positions, PlacedInput, placed_inputs, Fits}
use Rattle.ap_pe.specs.Linked.{windows_claims}
use Rattle.ap_mach.specs.Linked.{mac_claims}
use Rattle.ap_script.specs.Tables.{table_text}
use Rattle.ap_script.specs.Script.{header_for}
use Rattle.ap_script.specs.Delimiter.{delimiter_number}
use Rattle.ap_script.specs.Blocks.{magic, magic_line, opening_line, body_of, ending_of, block_of}
use Rattle.ap_script.specs.Stands.{statement_place}

-- each input's program header table
abbrev pub table_claims : List PlacedInput → List Claim
table_claims ps = map (λ p. claim Elf p.table (table_text p.input p.areas)) ps

-- the statement of a header, where there is one
abbrev pub statement_claims : Option (List ℕ) → ℕ → List Claim
statement_claims None place = []
statement_claims (Some header) place = claim Ape place (statement_of header) ∷ []

-- what an APE loader looks for
abbrev pub ape_claims : Options → List Taken → Positions → List Claim
ape_claims options inputs l =
    claim Ape 0 (magic options)
    ∷ (statement_claims (header_for X64 (placed_inputs inputs l)) (statement_place options inputs l X64)
    ++ statement_claims (header_for A64 (placed_inputs inputs l)) (statement_place options inputs l A64))

-- the script, and what makes a shell skip the body
abbrev pub shell_claims : Options → List Taken → Positions → List Claim
shell_claims options inputs l =
    claim Shell 0 (magic_line options)
    ∷ claim Shell 64 (opening_line (delimiter_number (body_of options inputs l)))
    ∷ claim Shell l.body_end (ending_of options inputs l)
    ∷ []

abbrev pub script_claims : Options → List Taken → Positions → List Claim
script_claims options inputs l = ape_claims options inputs l ++ shell_claims options inputs l

abbrev pub block_claims : Options → List Taken → Positions → List Claim
block_claims options inputs l = windows_claims options inputs l ++ (table_claims (placed_inputs inputs l) ++ (mac_claims options inputs l ++ script_claims options inputs l))

-- the block is the file of its claims
abbrev pub BlockIsClaimed : Type 0
BlockIsClaimed = (options : Options) (inputs : List Taken) (l : Positions) → Fits options inputs l → IsFile BLOCK (block_claims options inputs l) (block_of options inputs l)
