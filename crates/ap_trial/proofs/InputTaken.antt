-- What is taken of an input, and that it meets rules 1 to 22.
use Rattle.std.proofs.Common.{◌≡◌, ℕ, ◌+◌, ◌^◌, ◌<◌, ◌≤◌, List, [], length, map, None, refl, ap, ◌∙◌, arith}
use Rattle.ap_fields.specs.FirstFault.{first_fault}
use Rattle.ap_fields.proofs.FirstFaults.{none-append}
use Rattle.ap_elf.specs.declared.types.Header.{Header}
use Rattle.ap_elf.specs.declared.types.Entry.{Entry}
use Rattle.ap_elf.specs.declared.types.Located.{Located}
use Rattle.ap_elf.specs.declared.types.Located.TheVariants.{At}
use Rattle.ap_elf.specs.declared.machine.Machine.{Machine}
use Rattle.ap_elf.specs.declared.machine.Machine.TheVariants.{X64, A64}
use Rattle.ap_elf.specs.Machines.{granule_of}
use Rattle.ap_elf.specs.Fields.{header_of, entries_of}
use Rattle.ap_elf.specs.Symbols.{located}
use Rattle.ap_check.specs.declared.load.Load.{Load}
use Rattle.ap_check.specs.Inputs.{Taken, load_of, taken_of, input_of, located_of, symbols_by}
use Rattle.ap_check.specs.Rules.{bare_rules, symbols_rules, input_rules, rules_of, first_fault_of}
use Rattle.ap_trial.specs.TrialInputs.{tables_place, trial_header, trial_load, trial_loads, trial_input}
use Rattle.ap_trial.proofs.Lengths.{length-input}
use Rattle.ap_trial.proofs.Standing.{symbols-held, sections-held}
use Rattle.ap_trial.proofs.InputHeaders.{input-header, input-entries}
use Rattle.ap_trial.proofs.InputPlaces.{are-placed}
use Rattle.ap_trial.proofs.InputRules.{loads-are, bare-passes}
use Rattle.ap_trial.proofs.InputSymbols.{input_tables, entry_alone, located-is, symbols-are}

-- what is taken
abbrev pub taken : ℕ → ℕ → Machine → Taken
taken n pages machine = record {
  size = tables_place (granule_of machine) pages + 256;
  number = n;
  machine = machine;
  entry = 4194304;
  loads = map load_of (trial_loads (granule_of machine) pages);
  tls = None;
  stack = None;
  notes = [];
  symbols = entry_alone;
}

shoff-is : (pages : ℕ) (machine : Machine) → (trial_header pages machine).e_shoff ≡ tables_place (granule_of machine) pages + 64
unfolding trial_header
shoff-is pages machine = refl

shentsize-is : (pages : ℕ) (machine : Machine) → (trial_header pages machine).e_shentsize ≡ 64
unfolding trial_header
shentsize-is pages machine = refl

shnum-is : (pages : ℕ) (machine : Machine) → (trial_header pages machine).e_shnum ≡ 3
unfolding trial_header
shnum-is pages machine = refl

module _ (number pages : ℕ) (machine : Machine) (some : 1 ≤ pages) (few : pages ≤ 16384) where
  tables-small : tables_place (granule_of machine) pages < 2 ^ 28
  tables-small = let placed = are-placed machine pages few in let tables = placed.tables in omega arith

  located-input : located_of (trial_input number pages machine) ≡ At (input_tables (tables_place (granule_of machine) pages))
  located-input =
      let w : List ℕ = trial_input number pages machine in
      let at : ℕ = tables_place (granule_of machine) pages in
      let long = length-input number pages machine in
      ap (λ (h : Header). located (length w) w h) (input-header number pages machine few)
      ∙ located-is w at tables-small (symbols-held number pages machine) (sections-held number pages machine) (length w) (trial_header pages machine)
      (shoff-is pages machine) (shentsize-is pages machine) (shnum-is pages machine) (omega arith)

  bare-input : (n : ℕ) → first_fault (bare_rules n (length (trial_input number pages machine)) (header_of (trial_input number pages machine)) (entries_of (trial_input number pages machine))) ≡ None
  bare-input n =
      let w : List ℕ = trial_input number pages machine in
      let size : ℕ = tables_place (granule_of machine) pages + 256 in
      ap (λ s. first_fault (bare_rules n s (header_of w) (entries_of w))) (length-input number pages machine)
      ∙ ap (λ (h : Header). first_fault (bare_rules n size h (entries_of w))) (input-header number pages machine few)
      ∙ ap (λ (l : List Entry). first_fault (bare_rules n size (trial_header pages machine) l)) (input-entries number pages machine few)
      ∙ bare-passes n pages machine some few

  -- rules 1 to 22
  pub input-passes : (n : ℕ) → first_fault_of n (trial_input number pages machine) ≡ None
  unfolding rules_of input_rules
  input-passes n =
      let w : List ℕ = trial_input number pages machine in
      none-append (bare_rules n (length w) (header_of w) (entries_of w)) (symbols_rules n (located_of w)) (bare-input n)
      ∙ ap (λ (f : Located). first_fault (symbols_rules n f)) located-input

  symbols-input : symbols_by (trial_input number pages machine) (located_of (trial_input number pages machine)) ≡ entry_alone
  symbols-input =
      let w : List ℕ = trial_input number pages machine in
      ap (symbols_by w) located-input
      ∙ symbols-are w (tables_place (granule_of machine) pages) tables-small (symbols-held number pages machine) (sections-held number pages machine)

-- what is taken of the headers
taken-is : (n pages : ℕ) (machine : Machine) → 1 ≤ pages
    → taken_of n (tables_place (granule_of machine) pages + 256) (trial_header pages machine) (trial_loads (granule_of machine) pages) entry_alone ≡ taken n pages machine
unfolding taken_of trial_header trial_load
taken-is n pages X64 some = ap (λ (l : List Load). record (taken n pages X64) { loads = l }) (ap (map load_of) (loads-are 4096 pages some))
taken-is n pages A64 some = ap (λ (l : List Load). record (taken n pages A64) { loads = l }) (ap (map load_of) (loads-are 16384 pages some))

pub input-taken : (number pages n : ℕ) (machine : Machine) → 1 ≤ pages → pages ≤ 16384 → input_of n (trial_input number pages machine) ≡ taken n pages machine
unfolding input_of
input-taken number pages n machine some few =
    let w : List ℕ = trial_input number pages machine in
    let size : ℕ = tables_place (granule_of machine) pages + 256 in
    let h : Header = trial_header pages machine in
    ap (λ s. taken_of n s (header_of w) (entries_of w) (symbols_by w (located_of w))) (length-input number pages machine)
    ∙ ap (λ (x : Header). taken_of n size x (entries_of w) (symbols_by w (located_of w))) (input-header number pages machine few)
    ∙ ap (λ (l : List Entry). taken_of n size h l (symbols_by w (located_of w))) (input-entries number pages machine few)
    ∙ ap (taken_of n size h (trial_loads (granule_of machine) pages)) (symbols-input number pages machine some few)
    ∙ taken-is n pages machine some
