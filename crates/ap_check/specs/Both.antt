-- One or two inputs together.
use Rattle.std.specs.Prelude.{◌≡◌, ℕ, ◌==◌, not, if◌then◌else◌, List, [], ◌∷◌, ◌++◌, Option, Some, None}
use Rattle.ap_fields.specs.FirstFault.{Rules, first_fault}
use Rattle.ap_elf.specs.Fields.{header_of}
use Rattle.ap_check.specs.declared.fault.Fault.{Fault}
use Rattle.ap_check.specs.declared.options.Options.{Options}
use Rattle.ap_elf.specs.declared.machine.Machine.TheVariants.{X64}
use Rattle.ap_elf.specs.Machines.{number_of, is_machine}
use Rattle.ap_check.specs.Rules.{fault_of, rules_of, first_fault_of}
use Rattle.ap_check.specs.Inputs.{Taken, input_of, inputs_of}
use Rattle.ap_check.specs.Mac.{system_rules}

-- rule 23: two inputs are for different machines, by the machines' numbers
abbrev pub machines_rules : ℕ → ℕ → Rules Fault
machines_rules first second = (not (first == second), fault_of 2 23 0 second) ∷ []

-- rule 23 of what was taken
abbrev pub taken_machines_rules : Taken → Option Taken → Rules Fault
taken_machines_rules first None = []
taken_machines_rules first (Some second) = machines_rules (number_of first.machine) (number_of second.machine)

-- the bytes of the input for x86-64, of one or two inputs; those of either where there is none
abbrev pub x64_bytes : Taken → List ℕ → Option (List ℕ) → List ℕ
x64_bytes first a None = a
x64_bytes first a (Some b) = if is_machine X64 first.machine then a else b

-- rules 23 to 29 of what was taken, by the bytes of the input for x86-64
abbrev pub pair_rules : Options → Taken → Option Taken → List ℕ → Rules Fault
pair_rules options first second bytes = taken_machines_rules first second ++ system_rules options (inputs_of first second) bytes

-- all rules, by the bytes of the inputs: those of input 1 alone, those of input 2 alone, and those of both together
abbrev pub rules_of_both : Options → List ℕ → Option (List ℕ) → Rules Fault
rules_of_both options first None = rules_of 1 first ++ system_rules options (input_of 1 first ∷ []) first
rules_of_both options first (Some second) =
    rules_of 1 first ++ (rules_of 2 second ++ (machines_rules (header_of first).e_machine (header_of second).e_machine
    ++ system_rules options (input_of 1 first ∷ input_of 2 second ∷ []) (x64_bytes (input_of 1 first) first (Some second))))

-- the fault of the first rule that one or two inputs break, if any
abbrev pub first_fault_of_both : Options → List ℕ → Option (List ℕ) → Option Fault
first_fault_of_both options first second = first_fault (rules_of_both options first second)

-- it is what is taken of bytes that break no rule
abbrev pub IsTakenOf : ℕ → List ℕ → Taken → Type 0
IsTakenOf n b i = (first_fault_of n b ≡ None) × (i ≡ input_of n b)

-- and so are one or two inputs
abbrev pub AreTakenOf : List ℕ → Option (List ℕ) → Taken → Option Taken → Type 0
AreTakenOf a None first None = IsTakenOf 1 a first
AreTakenOf a None first (Some second) = ⊥
AreTakenOf a (Some b) first None = ⊥
AreTakenOf a (Some b) first (Some second) = IsTakenOf 1 a first × IsTakenOf 2 b second
