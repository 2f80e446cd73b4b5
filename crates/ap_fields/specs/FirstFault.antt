-- The first of some rules that fails.
use Rattle.std.specs.Prelude.{Bool, if◌then◌else◌, List, [], ◌∷◌, Option, Some, None}

-- tests in their order, each with the fault that it gives where it fails
abbrev pub Rules : Type 0 → Type 0
Rules Fault = List (Bool × Fault)

-- the fault of the first test that fails, if any
abbrev pub first_fault : {Fault : Type 0} → Rules Fault → Option Fault
first_fault [] = None
first_fault (rule ∷ rules) = if rule.0 then first_fault rules else Some rule.1
