-- How a check of an input ends that is read from files.
use Rattle.std.specs.Prelude.{◌≡◌, ℕ, List, Result, Ok, Err, Some, None}
use Rattle.ap_files.specs.Files.{FileState}
use Rattle.ap_files.specs.Reads.{HasFile, Unread}
use Rattle.ap_fields.specs.FirstFault.{Rules, first_fault}
use Rattle.ap_check.specs.declared.fault.Fault.{Fault}
use Rattle.ap_check.specs.Rules.{rules_of}
use Rattle.ap_check.specs.Inputs.{Taken, input_of}
use Rattle.ap_check.specs.declared.end.CheckEnd.{CheckEnd}
use Rattle.ap_check.specs.declared.end.CheckEnd.TheVariants.{Rule, ReadFault}

-- A value that is the file's, where it meets all rules, else the fault of the first that it breaks, and the state is as
-- before; or the file wasn't read.
abbrev pub Ends : {T : Type 0} → FileState → FileState → List ℕ → (List ℕ → Rules Fault) → (List ℕ → T) → Result T CheckEnd → Type 0
Ends old new name rules value (Ok v) = (new ≡ old) × HasFile old.kept name (λ input. (first_fault (rules input) ≡ None) × (v ≡ value input))
Ends old new name rules value (Err (Rule fault)) = (new ≡ old) × HasFile old.kept name (λ input. first_fault (rules input) ≡ Some fault)
Ends old new name rules value (Err ReadFault) = Unread old new name

-- What is taken of the input, where it meets rules 1 to 22, else the fault of the first that it breaks; or the input wasn't
-- read.
abbrev pub ChecksFile : FileState → FileState → List ℕ → ℕ → Result Taken CheckEnd → Type 0
ChecksFile old new name n result = Ends old new name (rules_of n) (input_of n) result
