-- The inputs of a job, with their places.
use Rattle.std.specs.Prelude.{◌≡◌, ◌+◌, ◌<◌, ◌≤◌, if◌then◌else◌, List, [], ◌∷◌, All, length, Option, Some, None}
use Rattle.std.specs.Option.{option_copied}
use Rattle.ap_elf.specs.declared.machine.Machine.{Machine}
use Rattle.ap_elf.specs.Machines.{is_machine}
use Rattle.ap_check.specs.declared.job.Job.{Job}
use Rattle.ap_check.specs.Inputs.{Taken, inputs_of}
use Rattle.ap_layout.specs.declared.sizes.TheConstants.{MOST_BODY, FILE_TOP}
use Rattle.ap_layout.specs.Positions.{PlacedInput, table_length}
use Rattle.ap_layout.specs.declared.placement.Placement.{Placement}

abbrev pub job_inputs : Job → List Taken
job_inputs j = inputs_of j.first.now (option_copied j.second)

-- an input with its places, as the writers hold it
abbrev pub placed_of : Placement → PlacedInput
placed_of p = record { input = p.input.now; areas = p.areas.now; table = p.table }

-- the first input for a machine, with its places
abbrev pub placed_for : Machine → List PlacedInput → Option PlacedInput
placed_for m [] = None
placed_for m (p ∷ ps) = if is_machine m p.input.machine then Some p else placed_for m ps

-- what is known of an input with its places: it has as many areas as loads, and no place passes the block's first half or 31 bits
pub record IsKnown (p : PlacedInput) : Type 0 where
  pub same : length p.areas ≡ length p.input.loads
  pub places : All (λ x. x.file < FILE_TOP) p.areas
  pub table : p.table + table_length p.input ≤ MOST_BODY
