-- How a link of files ends.
use Rattle.std.specs.Prelude.{◌≡◌, ◌⊎◌, ℕ, List, length, Result, Ok, Err, Option, Some, None}
use Rattle.ap_files.specs.Files.{FileMap, FileState, KeepsCounts, with_file}
use Rattle.ap_files.specs.Reads.{HasFile, Unread}
use Rattle.ap_files.specs.Appends.{Fails, HasPart}
use Rattle.ap_files.specs.declared.failure.FileFault.TheVariants as file
use Rattle.ap_check.specs.declared.fault.Fault.{Fault}
use Rattle.ap_check.specs.declared.options.Options.{Options}
use Rattle.ap_check.specs.Rules.{first_fault_of}
use Rattle.ap_check.specs.Both.{first_fault_of_both}
use Rattle.ap_link.specs.declared.end.LinkEnd.{LinkEnd}
use Rattle.ap_link.specs.declared.end.LinkEnd.TheVariants.{Rule, ReadFault, WriteFault}
use Rattle.ap_link.specs.LinkedClaims.{linked_of}
use Rattle.ap_link.specs.Answers.{IsLinked}

-- where files are told, the second input is there, where there is one, and its bytes have a property
abbrev pub HasSecond : Option FileMap → Option (List ℕ) → (Option (List ℕ) → Type 0) → Type 0
HasSecond kept None P = P None
HasSecond kept (Some name) P = HasFile kept name (λ b. P (Some b))

-- where files are told, the inputs are there, and their bytes have a property
abbrev pub HasInputs : Option FileMap → List ℕ → Option (List ℕ) → (List ℕ → Option (List ℕ) → Type 0) → Type 0
HasInputs kept first second P = HasFile kept first (λ a. HasSecond kept second (P a))

-- no call failed, and the file `out` holds the linked file of the inputs, which meet all rules, and has this size
pub record FilesLinked (options : Options) (old new : FileState) (first : List ℕ) (second : Option (List ℕ)) (out : List ℕ) (n : ℕ) : Type 0 where
  pub counts : KeepsCounts old new
  pub unfinished : (m : FileMap) → old.kept ≡ Some m → new.unfinished ≡ None
  pub linked : HasInputs old.kept first second (λ a b. (first_fault_of_both options a b ≡ None) × (new.kept ≡ with_file old.kept out (linked_of options a b)) × IsLinked options a b (linked_of options a b))
  pub size : HasInputs old.kept first second (λ a b. n ≡ length (linked_of options a b))

-- the first rule that the inputs break; where input 1 breaks one, input 2 needn't be there
abbrev pub AreRefused : Options → Option FileMap → List ℕ → Option (List ℕ) → Fault → Type 0
AreRefused options kept first second broken =
    HasFile kept first (λ a. (first_fault_of 1 a ≡ Some broken) ⊎ ((first_fault_of 1 a ≡ None) × HasSecond kept second (λ b. first_fault_of_both options a b ≡ Some broken)))

-- an input wasn't read: the first, or, where that breaks no rule, the second
abbrev pub AreUnread : FileState → FileState → List ℕ → Option (List ℕ) → Type 0
AreUnread old new first None = Unread old new first
AreUnread old new first (Some second) = Unread old new first ⊎ (Unread old new second × HasFile old.kept first (λ a. first_fault_of 1 a ≡ None))

-- the inputs meet all rules, and `out` wasn't started, or has a front of their linked file and is the unfinished file
abbrev pub HasLinkedPart : Options → FileState → FileState → List ℕ → Option (List ℕ) → List ℕ → Type 0
HasLinkedPart options old new first second out =
    HasInputs old.kept first second (λ a b. (first_fault_of_both options a b ≡ None) × HasPart old new out (linked_of options a b))

-- how a link of files ends
abbrev pub LinksFiles : Options → FileState → FileState → List ℕ → Option (List ℕ) → List ℕ → Result ℕ LinkEnd → Type 0
LinksFiles options old new first second out (Ok size) = FilesLinked options old new first second out size
LinksFiles options old new first second out (Err (Rule broken)) = (new ≡ old) × AreRefused options old.kept first second broken
LinksFiles options old new first second out (Err ReadFault) = AreUnread old new first second ⊎ (Fails file.Read old new × HasLinkedPart options old new first second out)
LinksFiles options old new first second out (Err WriteFault) = Fails file.Write old new × HasLinkedPart options old new first second out
