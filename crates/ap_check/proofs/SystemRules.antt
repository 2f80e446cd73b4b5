-- What stands where the rules of the systems that were chosen hold.
use Rattle.std.proofs.Common.{◌≡◌, ℕ, cond, List, [], Option, Some, None, sym, ap, ◌∙◌}
use Rattle.std.specs.Prelude.{IfSome}
use Rattle.ap_fields.specs.FirstFault.{first_fault}
use Rattle.ap_fields.proofs.FirstFaults.{append-none}
use Rattle.ap_check.specs.declared.options.Options.{Options}
use Rattle.ap_check.specs.Rules.{fault_of}
use Rattle.ap_check.specs.Inputs.{Taken, can_start}
use Rattle.ap_check.specs.Windows.{x64_of, windows_rules, AreReady}
use Rattle.ap_check.specs.Mac.{mach_entry_of, mach_entry_rules, mac_rules, system_rules, MeetsMac, AreForMac}
use Rattle.ap_check.proofs.Held.{held}
use Rattle.ap_check.proofs.WindowsLemmas.{windows-ready}

input-meets : (o : Option Taken) → first_fault (mach_entry_rules o) ≡ None → IfSome o MeetsMac
input-meets None none = tt
input-meets (Some e) none = (held (can_start (mach_entry_of e) e.loads) (fault_of e.number 29 0 (mach_entry_of e)) [] none).0

-- where macOS was chosen, the input for x86-64 starts there
mac-meets : (options : Options) (inputs : List Taken) → first_fault (mac_rules options inputs) ≡ None → AreForMac options inputs
unfolding mac_rules
mac-meets options inputs none = λ on. input-meets (x64_of inputs) (ap (λ b. first_fault (cond b (mach_entry_rules (x64_of inputs)) [])) (sym on) ∙ none)

pub systems-ready : (options : Options) (inputs : List Taken) (bytes : List ℕ) → first_fault (system_rules options inputs bytes) ≡ None → AreReady options inputs × AreForMac options inputs
systems-ready options inputs bytes none =
    let two = append-none (windows_rules options inputs bytes) (mac_rules options inputs) none in
    (windows-ready options inputs bytes two.0, mac-meets options inputs two.1)
