-- Two inputs meet the rules of pairs, for all systems.
use Rattle.std.proofs.Common.{◌≡◌, ℕ, ◌+◌, ◌^◌, ◌≤◌, nat_le, true, List, [], ◌∷◌, ◌++◌, map, Some, None, refl, ap, ◌∙◌, arith}
use Rattle.std.proofs.lemmas.Bool.Decides.{nat_tests}
use Rattle.ap_fields.specs.FirstFault.{first_fault}
use Rattle.ap_fields.specs.Granules.{ceil_of}
use Rattle.ap_fields.proofs.FirstFaults.{none-append}
use Rattle.ap_elf.specs.declared.types.Header.{Header}
use Rattle.ap_elf.specs.declared.machine.Machine.TheVariants.{X64, A64}
use Rattle.ap_elf.specs.Fields.{header_of}
use Rattle.ap_check.specs.Inputs.{Taken, load_of, can_start, input_of}
use Rattle.ap_check.specs.Rules.{rules_of}
use Rattle.ap_check.specs.Windows.{pe_entry_rules, base_rules, import_symbols_rules, image_rules, base_of, windows_rules}
use Rattle.ap_check.specs.ImportRule.{import_rules}
use Rattle.ap_check.specs.Mac.{mac_rules, system_rules}
use Rattle.ap_check.specs.Both.{machines_rules, x64_bytes, first_fault_of_both}
use Rattle.ap_trial.specs.TrialInputs.{rest_address, trial_header, trial_load, trial_loads, trial_input}
use Rattle.ap_trial.specs.Trials.{all_systems}
use Rattle.ap_trial.proofs.InputHeaders.{input-header}
use Rattle.ap_trial.proofs.InputPlaces.{are-placed}
use Rattle.ap_trial.proofs.InputRules.{starts}
use Rattle.ap_trial.proofs.InputTaken.{taken, input-passes, input-taken}

-- rule 25
pe_entry-passes : (pages : ℕ) → 1 ≤ pages → first_fault (pe_entry_rules (taken 1 pages X64)) ≡ None
pe_entry-passes pages some =
    let t : can_start 4194320 (map load_of (trial_loads 4096 pages)) ≡ true = starts 4194320 4096 pages (omega arith) (omega arith) in
    rw t refl

-- rule 26
base-passes : (pages : ℕ) → pages ≤ 16384 → first_fault (base_rules (taken 1 pages X64)) ≡ None
unfolding trial_load
base-passes pages few =
    let placed = are-placed X64 pages few in
    let stop = placed.stop in
    let t : nat_le (ceil_of (rest_address 4096 pages + 10000) 4096) (4128768 + 2 ^ 31) ≡ true = grind (arith, nat_tests) in
    rw t refl

-- rules 25 to 27
image-passes : (pages : ℕ) → 1 ≤ pages → pages ≤ 16384 → first_fault (image_rules (taken 1 pages X64)) ≡ None
unfolding image_rules
image-passes pages some few =
    let e : Taken = taken 1 pages X64 in
    none-append (pe_entry_rules e) (base_rules e ++ import_symbols_rules e) (pe_entry-passes pages some)
    ∙ none-append (base_rules e) (import_symbols_rules e) (base-passes pages few)

-- rules 24 to 28
windows-passes : (pages : ℕ) (bytes : List ℕ) → 1 ≤ pages → pages ≤ 16384 → first_fault (windows_rules all_systems (taken 1 pages X64 ∷ taken 2 pages A64 ∷ []) bytes) ≡ None
unfolding windows_rules import_rules
windows-passes pages bytes some few =
    let e : Taken = taken 1 pages X64 in
    none-append (image_rules e) (import_rules e (base_of e) bytes) (image-passes pages some few)

-- rule 29
mac-passes : (pages : ℕ) → 1 ≤ pages → first_fault (mac_rules all_systems (taken 1 pages X64 ∷ taken 2 pages A64 ∷ [])) ≡ None
unfolding mac_rules
mac-passes pages some =
    let t : can_start 4194304 (map load_of (trial_loads 4096 pages)) ≡ true = starts 4194304 4096 pages (omega arith) (omega arith) in
    rw t refl

-- rules 24 to 29
systems-pass : (pages : ℕ) (bytes : List ℕ) → 1 ≤ pages → pages ≤ 16384 → first_fault (system_rules all_systems (taken 1 pages X64 ∷ taken 2 pages A64 ∷ []) bytes) ≡ None
systems-pass pages bytes some few =
    let inputs : List Taken = taken 1 pages X64 ∷ taken 2 pages A64 ∷ [] in
    none-append (windows_rules all_systems inputs bytes) (mac_rules all_systems inputs) (windows-passes pages bytes some few)
    ∙ mac-passes pages some

-- rule 23
machines-pass : (pages : ℕ) → first_fault (machines_rules (trial_header pages X64).e_machine (trial_header pages A64).e_machine) ≡ None
unfolding trial_header
machines-pass pages = refl

-- all rules
pub pair-passes : (number pages : ℕ) → 1 ≤ pages → pages ≤ 16384 → first_fault_of_both all_systems (trial_input number pages X64) (Some (trial_input number pages A64)) ≡ None
pair-passes number pages some few =
    let a : List ℕ = trial_input number pages X64 in
    let b : List ℕ = trial_input number pages A64 in
    let e : Taken = input_of 1 a in
    let f : Taken = input_of 2 b in
    let bytes : List ℕ = x64_bytes e a (Some b) in
    let machines = machines_rules (header_of a).e_machine (header_of b).e_machine in
    let systems = system_rules all_systems (e ∷ f ∷ []) bytes in
    none-append (rules_of 1 a) (rules_of 2 b ++ (machines ++ systems)) (input-passes number pages X64 some few 1)
    ∙ none-append (rules_of 2 b) (machines ++ systems) (input-passes number pages A64 some few 2)
    ∙ none-append machines systems (
    ap (λ (h : Header). first_fault (machines_rules h.e_machine (header_of b).e_machine)) (input-header number pages X64 few)
    ∙ ap (λ (h : Header). first_fault (machines_rules (trial_header pages X64).e_machine h.e_machine)) (input-header number pages A64 few)
    ∙ machines-pass pages
    )
    ∙ ap (λ (x : Taken). first_fault (system_rules all_systems (x ∷ f ∷ []) bytes)) (input-taken number pages 1 X64 some few)
    ∙ ap (λ (x : Taken). first_fault (system_rules all_systems (taken 1 pages X64 ∷ x ∷ []) bytes)) (input-taken number pages 2 A64 some few)
    ∙ systems-pass pages bytes some few
