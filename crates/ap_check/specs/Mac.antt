-- What a linked file for macOS asks of its input for x86-64: rule 29.
use Rattle.std.specs.Prelude.{◌≡◌, ℕ, ◌++◌, if◌then◌else◌, true, List, [], ◌∷◌, IfSome, Option, Some, None, unwrap_or}
use Rattle.ap_fields.specs.FirstFault.{Rules}
use Rattle.ap_check.specs.declared.fault.Fault.{Fault}
use Rattle.ap_check.specs.declared.options.Options.{Options}
use Rattle.ap_check.specs.Options.{for_mac}
use Rattle.ap_check.specs.Rules.{fault_of}
use Rattle.ap_check.specs.Inputs.{Taken, can_start}
use Rattle.ap_check.specs.Windows.{x64_of, windows_rules}

-- where the program starts on macOS: the address that a symbol tells, else the one of the ELF header
abbrev pub mach_entry_of : Taken → ℕ
mach_entry_of e = unwrap_or e.symbols.mach_entry e.entry

-- rule 29 of the input for x86-64, if there is one: the program starts in a load that may be executed
abbrev pub mach_entry_rules : Option Taken → Rules Fault
mach_entry_rules None = []
mach_entry_rules (Some e) = (can_start (mach_entry_of e) e.loads, fault_of e.number 29 0 (mach_entry_of e)) ∷ []

-- rule 29, where macOS was chosen
unfoldable pub mac_rules : Options → List Taken → Rules Fault
mac_rules options inputs = if for_mac options then mach_entry_rules (x64_of inputs) else []

-- rules 24 to 29, by the bytes of the file of the input for x86-64
abbrev pub system_rules : Options → List Taken → List ℕ → Rules Fault
system_rules options inputs bytes = windows_rules options inputs bytes ++ mac_rules options inputs

-- what an input for x86-64 meets that is linked for macOS
abbrev pub MeetsMac : Taken → Type 0
MeetsMac e = can_start (mach_entry_of e) e.loads ≡ true

-- where macOS was chosen, an input for x86-64 meets what it asks, if there is one
abbrev pub AreForMac : Options → List Taken → Type 0
AreForMac options inputs = for_mac options ≡ true → IfSome (x64_of inputs) MeetsMac
