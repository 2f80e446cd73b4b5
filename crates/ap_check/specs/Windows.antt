-- What a linked file for Windows asks of its input for x86-64 (PE/COFF): rules 24 to 28.
use Rattle.std.specs.Prelude.{◌≡◌, ℕ, ◌+◌, ◌-◌, ◌%◌, ◌≤◌, ◌==◌, ◌&&◌, ◌||◌, nat_le, if◌then◌else◌, Bool, true, false, List, [], ◌∷◌, ◌++◌, IfSome, IsSomeAnd, Option, Some, None, unwrap_or}
use Rattle.std.specs.Option.{is_some}
use Rattle.ap_fields.specs.Granules.{floor_of}
use Rattle.ap_fields.specs.FirstFault.{Rules}
use Rattle.ap_fields.specs.declared.sizes.TheConstants.{PE_SPAN}
use Rattle.ap_elf.specs.declared.machine.Machine.TheVariants.{X64}
use Rattle.ap_elf.specs.Machines.{granule_of, is_machine}
use Rattle.ap_check.specs.declared.fault.Fault.{Fault}
use Rattle.ap_check.specs.declared.symbols.Symbols.{Symbols}
use Rattle.ap_check.specs.declared.windows.TheConstants.{BASE_GRANULE, MOST_IMAGE}
use Rattle.ap_check.specs.declared.options.Options.{Options}
use Rattle.ap_check.specs.Options.{for_windows}
use Rattle.ap_check.specs.Rules.{fault_of}
use Rattle.ap_check.specs.ImportRule.{table_of, AreStanding, import_rules}
use Rattle.ap_check.specs.Inputs.{Taken, can_start, first_start, last_stop}

-- the first input for x86-64
abbrev pub x64_of : List Taken → Option Taken
x64_of [] = None
x64_of (e ∷ inputs) = if is_machine X64 e.machine then Some e else x64_of inputs

-- where the program starts on Windows, or 0 where no symbol tells it
abbrev pub pe_entry_of : Taken → ℕ
pe_entry_of e = unwrap_or e.symbols.pe_entry 0

-- the address below which the headers and everything in front of the loads end
abbrev pub loads_start : Taken → ℕ
loads_start e = first_start (granule_of e.machine) e.loads

-- the address at which the granules of the last load end
abbrev pub loads_stop : Taken → ℕ
loads_stop e = last_stop (granule_of e.machine) 0 e.loads

-- the image base: the one that a symbol tells, else the greatest on its granule that leaves the headers room below the loads
abbrev pub base_of : Taken → ℕ
base_of e = unwrap_or e.symbols.image_base (floor_of (loads_start e - PE_SPAN) BASE_GRANULE)

-- one, where there is a value
abbrev pub one_if_some : Option ℕ → ℕ
one_if_some None = 0
one_if_some (Some value) = 1

-- how many of the four symbols of the import table there are
abbrev pub import_count : Symbols → ℕ
import_count s = one_if_some s.idata + (one_if_some s.idata_end + (one_if_some s.iat + one_if_some s.iat_end))

-- rule 25: the program starts in a load that may be executed
abbrev pub pe_entry_rules : Taken → Rules Fault
pe_entry_rules e =
    (is_some e.symbols.pe_entry && can_start (pe_entry_of e) e.loads, fault_of e.number 25 (one_if_some e.symbols.pe_entry) (pe_entry_of e)) ∷ []

-- whether a base leaves the headers room below the loads, and an image that isn't too large
abbrev pub has_room : Taken → ℕ → Bool
has_room e base = nat_le (base + PE_SPAN) (loads_start e) && nat_le (loads_stop e) (base + MOST_IMAGE)

-- rule 26: the base is on its granule and not 0, and has room
abbrev pub base_holds : Taken → Bool
base_holds e = base_of e % BASE_GRANULE == 0 && (nat_le BASE_GRANULE (base_of e) && has_room e (base_of e))

abbrev pub base_rules : Taken → Rules Fault
base_rules e = (base_holds e, fault_of e.number 26 0 (base_of e)) ∷ []

-- rule 27: there is no symbol of an import table, or all four and that of the image base
abbrev pub import_symbols_rules : Taken → Rules Fault
import_symbols_rules e =
    (import_count e.symbols == 0 || (import_count e.symbols == 4 && is_some e.symbols.image_base), fault_of e.number 27 0 (import_count e.symbols)) ∷ []

-- rules 25 to 27
unfoldable pub image_rules : Taken → Rules Fault
image_rules e = pe_entry_rules e ++ (base_rules e ++ import_symbols_rules e)

-- rules 24 to 28 of the input for x86-64, if there is one, by its file's bytes
abbrev pub x64_rules : Option Taken → List ℕ → Rules Fault
x64_rules None bytes = (false, fault_of 0 24 0 0) ∷ []
x64_rules (Some e) bytes = image_rules e ++ import_rules e (base_of e) bytes

-- rules 24 to 28, where Windows was chosen, by the bytes of the file of the input for x86-64
unfoldable pub windows_rules : Options → List Taken → List ℕ → Rules Fault
windows_rules options inputs bytes = if for_windows options then x64_rules (x64_of inputs) bytes else []

-- what an input for x86-64 meets that is linked for Windows
pub record MeetsWindows (e : Taken) : Type 0 where
  pub machine : e.machine ≡ X64
  pub entry : can_start (pe_entry_of e) e.loads ≡ true
  pub granule : base_of e % BASE_GRANULE ≡ 0
  pub least : BASE_GRANULE ≤ base_of e
  pub room : base_of e + PE_SPAN ≤ loads_start e
  pub span : loads_stop e ≤ base_of e + MOST_IMAGE
  pub imports : IfSome (table_of e.symbols) (AreStanding e.loads)

-- it meets that, and has this base
pub record IsReady (at : ℕ) (e : Taken) : Type 0 where
  pub meets : MeetsWindows e
  pub base : at ≡ base_of e

-- where Windows was chosen, there is an input for x86-64 that meets what it asks
abbrev pub AreReady : Options → List Taken → Type 0
AreReady options inputs = for_windows options ≡ true → IsSomeAnd (x64_of inputs) MeetsWindows
