-- What of a linked file is for Windows: the DOS fields and the PE headers of its input for x86-64 (PE/COFF, "MS-DOS Stub" and
-- "Signature").
use Rattle.std.specs.Prelude.{ℕ, ◌+◌, ◌-◌, ◌≤◌, if◌then◌else◌, List, [], Option, Some, None}
use Rattle.ap_fields.specs.Bytes.{zeros}
use Rattle.ap_claims.specs.Lists.{Claim}
use Rattle.ap_elf.specs.declared.machine.Machine.TheVariants.{X64}
use Rattle.ap_check.specs.declared.options.Options.{Options}
use Rattle.ap_check.specs.declared.imports.ImportTable.{ImportTable}
use Rattle.ap_check.specs.declared.windows.TheConstants.{MOST_IMAGE}
use Rattle.ap_check.specs.Options.{for_windows}
use Rattle.ap_check.specs.Inputs.{Taken}
use Rattle.ap_check.specs.ImportRule.{table_of}
use Rattle.ap_check.specs.Windows.{base_of, pe_entry_of}
use Rattle.ap_layout.specs.Positions.{Positions, PlacedInput, placed_inputs}
use Rattle.ap_layout.specs.Jobs.{placed_for}
use Rattle.ap_layout.specs.Stacks.{stack_size}
use Rattle.ap_pe.specs.declared.program.Directory.{Directory}
use Rattle.ap_pe.specs.declared.program.Program.{Program}
use Rattle.ap_pe.specs.Written.{pe_headers}
use Rattle.ap_pe.specs.Claims.{place_bytes, pe_claims}

-- the directory of the addresses from one to another, by an image base
abbrev pub directory_of : ℕ → ℕ → ℕ → Directory
directory_of base from to = record { rva = from - base; length = to - from }

-- addresses that an image with this base may have
pub record IsRange (base from to : ℕ) : Type 0 where
  pub low : base ≤ from
  pub order : from ≤ to
  pub top : to ≤ base + MOST_IMAGE

-- the directories of the import table and of the import address tables
abbrev pub table_directory : ℕ → Option ImportTable → Directory
table_directory base None = record { rva = 0; length = 0 }
table_directory base (Some t) = directory_of base t.idata t.idata_end

abbrev pub slots_directory : ℕ → Option ImportTable → Directory
slots_directory base None = record { rva = 0; length = 0 }
slots_directory base (Some t) = directory_of base t.iat t.iat_end

-- what the headers say of an input beside its loads
abbrev pub program_of : Taken → Program
program_of e = record {
  base = base_of e;
  entry = pe_entry_of e;
  stack = stack_size e.stack;
  imports = table_directory (base_of e) (table_of e.symbols);
  slots = slots_directory (base_of e) (table_of e.symbols);
}

abbrev pub headers_of : Option PlacedInput → List ℕ
headers_of None = []
headers_of (Some p) = pe_headers (program_of p.input) p.input.loads p.areas

-- the PE headers, where Windows was chosen
abbrev pub pe_text : Options → List Taken → Positions → List ℕ
pe_text options inputs l = if for_windows options then headers_of (placed_for X64 (placed_inputs inputs l)) else []

-- where the PE headers stand, as bytes 60 to 63 tell it; zeros without Windows
abbrev pub headers_place : Options → List ℕ
headers_place options = if for_windows options then place_bytes else zeros 4

abbrev pub claims_of : Option PlacedInput → List Claim
claims_of None = []
claims_of (Some p) = pe_claims (program_of p.input) p.input.loads p.areas

-- the DOS fields and the PE headers, where Windows was chosen
abbrev pub windows_claims : Options → List Taken → Positions → List Claim
windows_claims options inputs l = if for_windows options then claims_of (placed_for X64 (placed_inputs inputs l)) else []
