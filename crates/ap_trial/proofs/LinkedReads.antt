-- No reading refuses the linked file of a trial.
use Rattle.std.proofs.Common.{◌≡◌, ◌∙◌, ℕ, ◌≤◌, List, Option, Some, None, Result, Ok, Err, refl, ap, subst}
use Rattle.ap_fields.specs.Readings.{Cell, MemoryImage}
use Rattle.ap_elf.specs.declared.types.Entry.{Entry}
use Rattle.ap_elf.specs.declared.machine.Machine.{Machine}
use Rattle.ap_elf.specs.declared.machine.Machine.TheVariants.{X64, A64}
use Rattle.ap_elf.specs.Fields.{header_of}
use Rattle.ap_elf.specs.Machines.{IsPage, number_of}
use Rattle.ap_check.specs.Inputs.{input_of, taken_of, machine_of}
use Rattle.ap_loader.specs.ApeReading.{ape_reading}
use Rattle.ap_pe.specs.PeReading.{pe_reading}
use Rattle.ap_mach.specs.MachReading.{mach_reading}
use Rattle.ap_check.specs.declared.options.Options.{Options}
use Rattle.ap_fields.specs.Bytes.{over}
use Rattle.ap_assim.specs.Assimilated.{BecomesMach}
use Rattle.ap_assim.proofs.Copied.{copied-apart, copied-once}
use Rattle.ap_check.specs.Both.{first_fault_of_both}
use Rattle.ap_link.specs.LinkedClaims.{linked_of}
use Rattle.ap_link.specs.Answers.{IsLinked, Carries, mach_in}
use Rattle.ap_link.specs.Same.{Same}
use Rattle.ap_trial.specs.TrialInputs.{trial_input, trial_header}
use Rattle.ap_trial.specs.Trials.{all_systems, trial_file}
use Rattle.ap_trial.specs.Refusals.{IsRead, IsReadAsMach, IsReadByAll}
use Rattle.ap_trial.proofs.InputHeaders.{input-header}
use Rattle.ap_trial.proofs.InputPairs.{pair-passes}

same-read : {Fault : Type 0} (g : ℕ) (byte : ℕ → ℕ) (loads : List Entry) (start : ℕ) (Else : ℕ → Option Cell → Type 0) (r : Result MemoryImage Fault) → Same g byte loads start Else r → IsRead r
same-read g byte loads start Else (Ok image) same = tt
same-read g byte loads start Else (Err fault) same = absurd same

machine-back : (m : Machine) → machine_of (number_of m) ≡ m
machine-back X64 = refl
machine-back A64 = refl

header-machine : (pages : ℕ) (m : Machine) → (trial_header pages m).e_machine ≡ number_of m
unfolding trial_header
header-machine pages m = refl

taken-machine : (n : ℕ) (b : List ℕ) → (input_of n b).machine ≡ machine_of (header_of b).e_machine
unfolding input_of taken_of
taken-machine n b = refl

input-machine : (n number pages : ℕ) (m : Machine) → pages ≤ 16384 → (input_of n (trial_input number pages m)).machine ≡ m
input-machine n number pages m most =
    taken-machine n (trial_input number pages m)
    ∙ ap (λ h. machine_of h.e_machine) (input-header number pages m most)
    ∙ ap machine_of (header-machine pages m) ∙ machine-back m

ape-carried : (options : Options) (n number pages : ℕ) (m : Machine) (table statement : ℕ) (header file : List ℕ) → pages ≤ 16384
    → Carries options (trial_input number pages m) (input_of n (trial_input number pages m)) table statement header file
    → (page : ℕ) → IsPage m page → IsRead (ape_reading (number_of m) page file)
ape-carried options n number pages m table statement header file most carried page is =
    let k = input-machine n number pages m most in
    let of-taken = λ (p : ℕ) (of : IsPage (input_of n (trial_input number pages m)).machine p). same-read _ _ _ _ _ (ape_reading (number_of (input_of n (trial_input number pages m)).machine) p file) (carried.ape p of) in
    subst (λ (x : Machine). IsPage x page → IsRead (ape_reading (number_of x) page file)) k (of-taken page) is

ape-linked : (number pages : ℕ) (file : List ℕ) → pages ≤ 16384 → IsLinked all_systems (trial_input number pages X64) (Some (trial_input number pages A64)) file
    → (m : Machine) (page : ℕ) → IsPage m page → IsRead (ape_reading (number_of m) page file)
ape-linked number pages file most linked X64 page is = ape-carried all_systems 1 number pages X64 _ _ _ file most linked.first page is
ape-linked number pages file most linked A64 page is = ape-carried all_systems 2 number pages A64 _ _ _ file most linked.second page is

mach-linked : (file header : List ℕ) → BecomesMach file (Ok (over file header)) → IsRead (mach_reading (over file header)) → IsReadAsMach file
mach-linked file header is read = record {
  is_ape = λ none. let e = is.0 in absurd cc;
  has_statement = λ none. copied-apart file (over file header) none.1 is.1;
  reads = λ bytes made. subst (λ b. IsRead (mach_reading b)) (copied-once file (over file header) bytes is.1 made.1) read;
}

-- no reading refuses the linked file of a trial
pub linked-read : (number pages : ℕ) (file : List ℕ) → pages ≤ 16384 → IsLinked all_systems (trial_input number pages X64) (Some (trial_input number pages A64)) file → IsReadByAll file
linked-read number pages file most linked =
    let machine = input-machine 1 number pages X64 most in
    let first = linked.first in
    record {
      pe = same-read _ _ _ _ _ (pe_reading file) (first.pe refl machine);
      mach = mach-linked file (mach_in all_systems (trial_input number pages X64) (Some (trial_input number pages A64))) (first.mach_file refl machine)
          (same-read _ _ _ _ _ (mach_reading (over file (mach_in all_systems (trial_input number pages X64) (Some (trial_input number pages A64))))) (first.mach refl machine));
      ape = ape-linked number pages file most linked;
    }

-- ---- of inputs that are those of a number

pub inputs-pass : (number pages : ℕ) (a b : List ℕ) → 1 ≤ pages → pages ≤ 16384 → a ≡ trial_input number pages X64 → b ≡ trial_input number pages A64
    → first_fault_of_both all_systems a (Some b) ≡ None
inputs-pass number pages a b least most x y =
    ap (λ u. first_fault_of_both all_systems u (Some b)) x
    ∙ ap (λ v. first_fault_of_both all_systems (trial_input number pages X64) (Some v)) y
    ∙ pair-passes number pages least most

pub read-by-all : (number pages : ℕ) (a b file : List ℕ) → pages ≤ 16384 → a ≡ trial_input number pages X64 → b ≡ trial_input number pages A64
    → IsLinked all_systems a (Some b) file → IsReadByAll file
read-by-all number pages a b file most x y linked =
    linked-read number pages file most
    (subst (λ v. IsLinked all_systems (trial_input number pages X64) (Some v) file) y
    (subst (λ u. IsLinked all_systems u (Some b) file) x linked))

pub linked-file : (number pages : ℕ) (a b file : List ℕ) → a ≡ trial_input number pages X64 → b ≡ trial_input number pages A64
    → IsLinked all_systems a (Some b) file → file ≡ trial_file number pages
unfolding trial_file
linked-file number pages a b file x y linked =
    linked.bytes
    ∙ ap (λ u. linked_of all_systems u (Some b)) x
    ∙ ap (λ v. linked_of all_systems (trial_input number pages X64) (Some v)) y
