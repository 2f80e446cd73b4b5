-- The script of a linked file ends as the dispatch table says.
use Rattle.std.proofs.Common.{◌≢◌, ℕ, ◌/◌, List, [], ◌∷◌, ◌++◌}
use Rattle.ap_check.specs.declared.options.Options.{Options}
use Rattle.ap_check.specs.Inputs.{Taken}
use Rattle.ap_elf.specs.declared.machine.Machine.TheVariants.{X64, A64}
use Rattle.ap_layout.specs.Positions.{Positions, Fits, placed_inputs}
use Rattle.ap_script.specs.Blocks.{block_of}
use Rattle.ap_script.specs.Script.{header_for}
use Rattle.ap_dispatch.proofs.LinkedDispatch.{linked_ends}
use Rattle.ap_dispatch.proofs.OtherFiles.{others_kept}
use Rattle.ap_link.specs.Dispatched.{Dispatches}

some-inputs : (e : Taken) (more : List Taken) → e ∷ more ≢ []
some-inputs e more none = cc

pub script-dispatches : (options : Options) (e : Taken) (more : List Taken) (l : Positions) (rest : List ℕ) → Fits options (e ∷ more) l
    → Dispatches options (e ∷ more) l (block_of options (e ∷ more) l ++ rest)
script-dispatches options e more l rest fits =
    let inputs = e ∷ more in
    let placed = placed_inputs inputs l in
    record {
      ends = λ nul env host ready. linked_ends nul options inputs l rest env host fits (some-inputs e more) ready;
      others = others_kept options.systems (header_for X64 placed) (header_for A64 placed) (l.mach_at / 8) (l.mach_len / 8) (block_of options inputs l ++ rest);
    }
