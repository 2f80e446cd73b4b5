-- The rules of two inputs together, by what was taken of each.
use Rattle.std.proofs.Common.{◌≡◌, ℕ, List, [], ◌∷◌, ◌++◌, length, Bool, true, false, cond, ◌==◌, ◌||◌, Option, Some, None, Result, Ok, Err, refl, sym, ap, ◌∙◌, arith}
use Rattle.std.proofs.lemmas.Bool.Decides.{nat_tests}
use Rattle.ap_fields.specs.FirstFault.{first_fault}
use Rattle.ap_fields.proofs.FirstFaults.{none-append, some-append, append-none}
use Rattle.ap_elf.specs.declared.types.Header.{Header}
use Rattle.ap_elf.specs.Fields.{header_of, entries_of}
use Rattle.ap_check.specs.declared.fault.Fault.{Fault}
use Rattle.ap_check.specs.declared.options.Options.{Options}
use Rattle.ap_elf.specs.declared.machine.Machine.TheVariants.{X64, A64}
use Rattle.ap_elf.specs.Machines.{number_of}
use Rattle.ap_check.specs.Rules.{Checks, size_rules, ident_rules, field_rules, header_rules, table_rules, bare_rules, symbols_rules, input_rules, rules_of, first_fault_of}
use Rattle.ap_check.specs.Inputs.{Taken, machine_of, taken_of, input_of, located_of}
use Rattle.ap_check.specs.Mac.{system_rules}
use Rattle.ap_check.specs.Both.{machines_rules, x64_bytes, pair_rules, rules_of_both, first_fault_of_both, IsTakenOf, AreTakenOf}

-- the header's rules, where all hold
headers : (n : ℕ) (b : List ℕ) → first_fault_of n b ≡ None → first_fault (field_rules n (length b) (header_of b)) ≡ None
unfolding rules_of input_rules bare_rules header_rules
headers n b none =
    let size = length b in
    let h : Header = header_of b in
    let all = append-none (bare_rules n size h (entries_of b)) (symbols_rules n (located_of b)) none in
    let sizes = append-none (size_rules n size) (header_rules n size h ++ table_rules n size h (entries_of b)) all.0 in
    let front = append-none (header_rules n size h) (table_rules n size h (entries_of b)) sizes.1 in
    (append-none (ident_rules n h) (field_rules n size h) front.0).1

-- a machine that is known has the header's number
number-if : (m : ℕ) (b : Bool) → (m == 183) ≡ b → (m == 62 || m == 183) ≡ true → number_of (cond b A64 X64) ≡ m
number-if m true is known = grind (arith, nat_tests)
number-if m false is known = grind (arith, nat_tests)

known : (n size : ℕ) (h : Header) → first_fault (field_rules n size h) ≡ None → (h.e_machine == 62 || h.e_machine == 183) ≡ true
known n size h none = grind (arith, nat_tests)

number-header : (n : ℕ) (b : List ℕ) → first_fault_of n b ≡ None → number_of (machine_of (header_of b).e_machine) ≡ (header_of b).e_machine
number-header n b none = number-if (header_of b).e_machine ((header_of b).e_machine == 183) refl (known n (length b) (header_of b) (headers n b none))

pub number-taken : (n : ℕ) (b : List ℕ) (i : Taken) → IsTakenOf n b i → number_of i.machine ≡ (header_of b).e_machine
unfolding input_of taken_of
number-taken n b i is = ap (λ (x : Taken). number_of x.machine) is.1 ∙ number-header n b is.0

-- input 1 breaks a rule, whatever the other is
pub first-breaks : (options : Options) (a : List ℕ) (b : Option (List ℕ)) (f : Fault) → first_fault_of 1 a ≡ Some f → first_fault_of_both options a b ≡ Some f
first-breaks options a None f h = some-append (rules_of 1 a) (system_rules options (input_of 1 a ∷ []) a) f h
first-breaks options a (Some b) f h = some-append (rules_of 1 a) (rules_of 2 b ++ (machines_rules (header_of a).e_machine (header_of b).e_machine ++ system_rules options (input_of 1 a ∷ input_of 2 b ∷ []) (x64_bytes (input_of 1 a) a (Some b)))) f h

-- input 2 breaks a rule
pub second-breaks : (options : Options) (a b : List ℕ) (f : Fault) → first_fault_of 1 a ≡ None → first_fault_of 2 b ≡ Some f → first_fault_of_both options a (Some b) ≡ Some f
second-breaks options a b f none h =
    let together = machines_rules (header_of a).e_machine (header_of b).e_machine ++ system_rules options (input_of 1 a ∷ input_of 2 b ∷ []) (x64_bytes (input_of 1 a) a (Some b)) in
    none-append (rules_of 1 a) (rules_of 2 b ++ together) none ∙ some-append (rules_of 2 b) together f h

-- neither does: what was taken tells
pub pair-says : (options : Options) (a : List ℕ) (b : Option (List ℕ)) (first : Taken) (second : Option Taken) → AreTakenOf a b first second
    → first_fault_of_both options a b ≡ first_fault (pair_rules options first second (x64_bytes first a b))
pair-says options a None first None are =
    none-append (rules_of 1 a) (system_rules options (input_of 1 a ∷ []) a) are.0
    ∙ ap (λ (x : Taken). first_fault (system_rules options (x ∷ []) a)) (sym are.1)
pair-says options a None first (Some second) are = absurd are
pair-says options a (Some b) first None are = absurd are
pair-says options a (Some b) first (Some second) are =
    let e : Taken = input_of 1 a in
    let f : Taken = input_of 2 b in
    let systems = system_rules options (e ∷ f ∷ []) (x64_bytes e a (Some b)) in
    let machines = machines_rules (header_of a).e_machine (header_of b).e_machine in
    none-append (rules_of 1 a) (rules_of 2 b ++ (machines ++ systems)) are.0.0
    ∙ none-append (rules_of 2 b) (machines ++ systems) are.1.0
    ∙ ap (λ x. first_fault (machines_rules x (header_of b).e_machine ++ systems)) (sym (number-taken 1 a first are.0))
    ∙ ap (λ x. first_fault (machines_rules (number_of first.machine) x ++ systems)) (sym (number-taken 2 b second are.1))
    ∙ ap (λ (x : Taken). first_fault (machines_rules (number_of first.machine) (number_of second.machine) ++ system_rules options (x ∷ f ∷ []) (x64_bytes x a (Some b)))) (sym are.0.1)
    ∙ ap (λ (x : Taken). first_fault (machines_rules (number_of first.machine) (number_of second.machine) ++ system_rules options (first ∷ x ∷ []) (x64_bytes first a (Some b)))) (sym are.1.1)

-- and so does a check of it
pub checks-both : {T : Type 0} (options : Options) (a : List ℕ) (b : Option (List ℕ)) (first : Taken) (second : Option Taken) (bytes : List ℕ) (result : Result T Fault) → AreTakenOf a b first second
    → bytes ≡ x64_bytes first a b → Checks result (pair_rules options first second bytes) → Checks result (rules_of_both options a b)
checks-both options a b first second bytes (Ok v) are is says = pair-says options a b first second are ∙ ap (λ x. first_fault (pair_rules options first second x)) (sym is) ∙ says
checks-both options a b first second bytes (Err f) are is says = pair-says options a b first second are ∙ ap (λ x. first_fault (pair_rules options first second x)) (sym is) ∙ says
