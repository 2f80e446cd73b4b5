-- What the readings find in the file of a trial are its inputs.
use Rattle.std.proofs.Common.{◌≡◌, ◌∙◌, ℕ, ◌+◌, ◌<◌, ◌≤◌, Bool, true, false, cond, List, [], ◌∷◌, Option, Some, Result, Ok, Err, inl, inr, refl, sym, ap, subst, arith}
use Rattle.std.proofs.lemmas.Bool.Decides.{nat_tests}
use Rattle.ap_fields.specs.Bytes.{over}
use Rattle.ap_fields.specs.Readings.{Cell, MemoryImage, bytes_in}
use Rattle.ap_elf.specs.declared.types.Entry.{Entry}
use Rattle.ap_elf.specs.declared.machine.Machine.{Machine}
use Rattle.ap_elf.specs.declared.machine.Machine.TheVariants.{X64, A64}
use Rattle.ap_elf.specs.Fields.{entries_of, loads_in}
use Rattle.ap_elf.specs.Machines.{IsPage, granule_of, number_of}
use Rattle.ap_elf.specs.InputCell.{input_cell, has_address, load_byte, permissions_of}
use Rattle.ap_elf.specs.ElfReading.{elf_reading}
use Rattle.ap_check.specs.Inputs.{Taken, input_of}
use Rattle.ap_check.specs.declared.options.Options.{Options}
use Rattle.ap_loader.specs.ApeReading.{ape_reading}
use Rattle.ap_pe.specs.PeReading.{pe_reading}
use Rattle.ap_mach.specs.MachReading.{mach_reading}
use Rattle.ap_assim.specs.Assimilated.{elf_of}
use Rattle.ap_assim.proofs.Copied.{copied-once}
use Rattle.ap_image.proofs.RegionBytes.{listed-same}
use Rattle.ap_script.specs.Tables.{embedded_bytes}
use Rattle.ap_link.specs.Same.{Same}
use Rattle.ap_link.specs.Answers.{IsLinked, Carries, mach_in}
use Rattle.ap_link.proofs.LinkedFiles.{file-linked}
use Rattle.ap_trial.specs.TrialInputs.{trial_input, trial_loads}
use Rattle.ap_trial.specs.Folds.{folded_all, cell_number, cell_numbers, fold_over}
use Rattle.ap_trial.specs.InputFolds.{input_fold, HaveFolds}
use Rattle.ap_trial.specs.Trials.{all_systems, trial_file, HasFold, HasElfFold, AreFolds, AreNumbers}
use Rattle.ap_trial.specs.declared.numbers.SummaryNumbers.{SummaryNumbers}
use Rattle.ap_trial.specs.declared.numbers.ReadingFolds.{ReadingFolds}
use Rattle.ap_trial.proofs.InputHeaders.{input-entries}
use Rattle.ap_trial.proofs.InputRules.{loads-are}
use Rattle.ap_trial.proofs.InputPairs.{pair-passes}
use Rattle.ap_trial.proofs.InputTaken.{input-taken}
use Rattle.ap_trial.proofs.OneSummary.{made-once}

-- ---- cells at each address of loads

abbrev Covered : (ℕ → Option Cell) → List Entry → Type 0
Covered cell [] = Unit {0}
Covered cell (p ∷ loads) = ((k : ℕ) → k < p.memsz → (c : Cell) × (cell (p.vaddr + k) ≡ Some c)) × Covered cell loads

at-later : (byte : ℕ → ℕ) (q : Entry) (loads : List Entry) (a : ℕ) (t : Bool) → has_address q a ≡ t → (c : Cell) × (input_cell byte loads a ≡ Some c) → (c : Cell) × (input_cell byte (q ∷ loads) a ≡ Some c)
at-later byte q loads a true is found = ((load_byte byte q a, permissions_of q), ap (λ t. cond t (Some (load_byte byte q a, permissions_of q)) (input_cell byte loads a)) is)
at-later byte q loads a false is found = (found.0, ap (λ t. cond t (Some (load_byte byte q a, permissions_of q)) (input_cell byte loads a)) is ∙ found.1)

covered-later : (byte : ℕ → ℕ) (q : Entry) (loads these : List Entry) → Covered (input_cell byte loads) these → Covered (input_cell byte (q ∷ loads)) these
covered-later byte q loads [] h = tt
covered-later byte q loads (p ∷ these) h = (λ k l. at-later byte q loads (p.vaddr + k) (has_address q (p.vaddr + k)) refl (h.0 k l), covered-later byte q loads these h.1)

covered-first : (byte : ℕ → ℕ) (q : Entry) (loads : List Entry) (k : ℕ) → k < q.memsz → (c : Cell) × (input_cell byte (q ∷ loads) (q.vaddr + k) ≡ Some c)
covered-first byte q loads k l =
    let a = q.vaddr + k in
    let is : has_address q a ≡ true = grind (arith, nat_tests) in
    ((load_byte byte q a, permissions_of q), ap (λ t. cond t (Some (load_byte byte q a, permissions_of q)) (input_cell byte loads a)) is)

covered : (byte : ℕ → ℕ) (loads : List Entry) → Covered (input_cell byte loads) loads
covered byte [] = tt
covered byte (p ∷ loads) = (covered-first byte p loads, covered-later byte p loads loads (covered byte loads))

-- ---- folds of cells that are the same there

numbers-within : (f g : ℕ → Option Cell) (a n : ℕ) → ((k : ℕ) → k < n → f (a + k) ≡ g (a + k)) → cell_numbers f a n ≡ cell_numbers g a n
unfolding cell_numbers
numbers-within f g a n same = listed-same (λ b. cell_number (f b)) (λ b. cell_number (g b)) a a n (λ k l. ap cell_number (same k l))

fold-within : (f g : ℕ → Option Cell) (h : ℕ) (loads : List Entry) → Covered g loads → ((a : ℕ) (c : Cell) → g a ≡ Some c → f a ≡ Some c) → fold_over f h loads ≡ fold_over g h loads
fold-within f g h [] cover same = refl
fold-within f g h (p ∷ loads) cover same =
    let here : (k : ℕ) → k < p.memsz → f (p.vaddr + k) ≡ g (p.vaddr + k) = (λ k l. let found = cover.0 k l in same (p.vaddr + k) found.0 found.1 ∙ sym found.1) in
    ap (λ l. fold_over f (folded_all h l) loads) (numbers-within f g p.vaddr p.memsz here) ∙ fold-within f g (folded_all h (cell_numbers g p.vaddr p.memsz)) loads cover.1 same

same-fold : {Fault : Type 0} (g : ℕ) (byte : ℕ → ℕ) (loads these : List Entry) (start : ℕ) (Else : ℕ → Option Cell → Type 0) (h : ℕ) (r : Result MemoryImage Fault)
    → Covered (input_cell byte loads) these → Same g byte loads start Else r → HasFold these h r → h ≡ fold_over (input_cell byte loads) 0 these
same-fold g byte loads these start Else h (Ok image) cover same has = has ∙ fold-within image.cell (input_cell byte loads) 0 these cover same.cells
same-fold g byte loads these start Else h (Err fault) cover same has = absurd has

-- ---- of a file that carries an input

input-machine : (n number pages : ℕ) (m : Machine) → 1 ≤ pages → pages ≤ 16384 → (input_of n (trial_input number pages m)).machine ≡ m
input-machine n number pages m some few = ap (λ (e : Taken). e.machine) (input-taken number pages n m some few)

module _ (options : Options) (n number pages : ℕ) (m : Machine) (table statement : ℕ) (header file : List ℕ) (some : 1 ≤ pages) (few : pages ≤ 16384)
    (carried : Carries options (trial_input number pages m) (input_of n (trial_input number pages m)) table statement header file) where
  covers : Covered (input_cell (bytes_in (trial_input number pages m)) (loads_in (entries_of (trial_input number pages m)))) (trial_loads (granule_of m) pages)
  covers =
      let w : List ℕ = trial_input number pages m in
      let loads : List Entry = trial_loads (granule_of m) pages in
      let are : loads_in (entries_of w) ≡ loads = ap loads_in (input-entries number pages m few) ∙ loads-are (granule_of m) pages some in
      subst (λ (l : List Entry). Covered (input_cell (bytes_in w) l) loads) (sym are) (covered (bytes_in w) loads)

  found : {Fault : Type 0} (g start : ℕ) (Else : ℕ → Option Cell → Type 0) (h : ℕ) (r : Result MemoryImage Fault)
      → Same g (bytes_in (trial_input number pages m)) (loads_in (entries_of (trial_input number pages m))) start Else r
      → HasFold (trial_loads (granule_of m) pages) h r → h ≡ input_fold number pages m
  unfolding input_fold
  found g start Else h r same has =
      let w : List ℕ = trial_input number pages m in
      same-fold g (bytes_in w) (loads_in (entries_of w)) (trial_loads (granule_of m) pages) start Else h r covers same has

  ape-found : (page h : ℕ) → IsPage m page → HasFold (trial_loads (granule_of m) pages) h (ape_reading (number_of m) page file) → h ≡ input_fold number pages m
  ape-found page h is has =
      let k = input-machine n number pages m some few in
      let x : Machine = (input_of n (trial_input number pages m)).machine in
      found (granule_of x) _ _ h (ape_reading (number_of x) page file) (carried.ape page (subst (λ (y : Machine). IsPage y page) (sym k) is))
      (subst (λ (y : Machine). HasFold (trial_loads (granule_of m) pages) h (ape_reading (number_of y) page file)) (sym k) has)

  elf-found : (page h : ℕ) → IsPage m page → HasElfFold (trial_loads (granule_of m) pages) h m page file → h ≡ input_fold number pages m
  elf-found page h is has =
      let k = input-machine n number pages m some few in
      let x : Machine = (input_of n (trial_input number pages m)).machine in
      let b : List ℕ = over file (embedded_bytes (input_of n (trial_input number pages m)) table) in
      let made : elf_of (number_of m) file ≡ Ok b = subst (λ (y : Machine). elf_of (number_of y) file ≡ Ok b) k carried.elf_file in
      let same : has.0 ≡ b = made-once (elf_of (number_of m) file) has.0 b has.1 made in
      let there : HasFold (trial_loads (granule_of m) pages) h (elf_reading (number_of m) page b) = subst (λ (v : List ℕ). HasFold (trial_loads (granule_of m) pages) h (elf_reading (number_of m) page v)) same has.2 in
      found (granule_of x) _ _ h (elf_reading (number_of x) page b) (carried.elf page (subst (λ (y : Machine). IsPage y page) (sym k) is))
      (subst (λ (y : Machine). HasFold (trial_loads (granule_of m) pages) h (elf_reading (number_of y) page b)) (sym k) there)

-- ---- of the file of a trial

module _ (number pages : ℕ) (file : List ℕ) (f : ReadingFolds) (some : 1 ≤ pages) (few : pages ≤ 16384)
    (linked : IsLinked all_systems (trial_input number pages X64) (Some (trial_input number pages A64)) file)
    (are : AreFolds (trial_loads (granule_of X64) pages) (trial_loads (granule_of A64) pages) file f) where
  pe-is : f.pe ≡ input_fold number pages X64
  pe-is =
      found all_systems 1 number pages X64 _ _ _ file some few linked.first _ _ _ f.pe (pe_reading file)
      (linked.first.pe refl (input-machine 1 number pages X64 some few)) are.pe

  mach-is : f.mach ≡ input_fold number pages X64
  mach-is =
      let header : List ℕ = mach_in all_systems (trial_input number pages X64) (Some (trial_input number pages A64)) in
      let machine = input-machine 1 number pages X64 some few in
      let has = are.mach in
      let made = linked.first.mach_file refl machine in
      let same : has.0 ≡ over file header = copied-once file has.0 (over file header) has.1.1 made.1 in
      found all_systems 1 number pages X64 _ _ _ file some few linked.first _ _ _ f.mach (mach_reading (over file header))
      (linked.first.mach refl machine) (subst (λ (v : List ℕ). HasFold (trial_loads (granule_of X64) pages) f.mach (mach_reading v)) same has.2)

  folds-found : HaveFolds (input_fold number pages X64) (input_fold number pages A64) f
  folds-found = record {
    pe = pe-is;
    mach = mach-is;
    elf_x64 = elf-found all_systems 1 number pages X64 _ _ _ file some few linked.first 4096 f.elf_x64 refl are.elf_x64;
    ape_x64 = ape-found all_systems 1 number pages X64 _ _ _ file some few linked.first 4096 f.ape_x64 refl are.ape_x64;
    elf_a64 = elf-found all_systems 2 number pages A64 _ _ _ file some few linked.second 16384 f.elf_a64 (inr refl) are.elf_a64;
    ape_a64_4096 = ape-found all_systems 2 number pages A64 _ _ _ file some few linked.second 4096 f.ape_a64_4096 (inl refl) are.ape_a64_4096;
    ape_a64_16384 = ape-found all_systems 2 number pages A64 _ _ _ file some few linked.second 16384 f.ape_a64_16384 (inr refl) are.ape_a64_16384;
  }

trial-linked : (number pages : ℕ) → 1 ≤ pages → pages ≤ 16384 → IsLinked all_systems (trial_input number pages X64) (Some (trial_input number pages A64)) (trial_file number pages)
unfolding trial_file
trial-linked number pages some few = file-linked all_systems (trial_input number pages X64) (Some (trial_input number pages A64)) (pair-passes number pages some few)

pub inputs-found : (number pages : ℕ) (n : SummaryNumbers) → 1 ≤ pages → pages ≤ 16384 → AreNumbers number pages n → HaveFolds (input_fold number pages X64) (input_fold number pages A64) n.folds
inputs-found number pages n some few is = folds-found number pages (trial_file number pages) n.folds some few (trial-linked number pages some few) is.folds
