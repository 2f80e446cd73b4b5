-- What of a linked file is for macOS: the Mach-O header of its input for x86-64.
use Rattle.std.specs.Prelude.{ℕ, if◌then◌else◌, List, [], Option, Some, None}
use Rattle.ap_claims.specs.Lists.{Claim}
use Rattle.ap_elf.specs.declared.machine.Machine.TheVariants.{X64}
use Rattle.ap_check.specs.declared.options.Options.{Options}
use Rattle.ap_check.specs.Options.{for_mac}
use Rattle.ap_check.specs.Inputs.{Taken}
use Rattle.ap_check.specs.Mac.{mach_entry_of}
use Rattle.ap_layout.specs.Positions.{Positions, PlacedInput, placed_inputs}
use Rattle.ap_layout.specs.Jobs.{placed_for}
use Rattle.ap_mach.specs.Written.{mach_headers, mach_claims}

-- the input that has a Mach-O header, with its places: where macOS was chosen that for x86-64, if there is one
abbrev pub mach_place : Options → List Taken → Positions → Option PlacedInput
mach_place options inputs l = if for_mac options then placed_for X64 (placed_inputs inputs l) else None

abbrev pub header_text : Option PlacedInput → List ℕ
header_text None = []
header_text (Some p) = mach_headers (mach_entry_of p.input) p.input.loads p.areas

-- the Mach-O header, where there is one
abbrev pub mach_text : Options → List Taken → Positions → List ℕ
mach_text options inputs l = header_text (mach_place options inputs l)

abbrev pub header_claims : ℕ → Option PlacedInput → List Claim
header_claims at None = []
header_claims at (Some p) = mach_claims at (mach_entry_of p.input) p.input.loads p.areas

-- and its claim
abbrev pub mac_claims : Options → List Taken → Positions → List Claim
mac_claims options inputs l = header_claims l.mach_at (mach_place options inputs l)
