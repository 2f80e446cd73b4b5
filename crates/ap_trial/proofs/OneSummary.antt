-- A trial has one summary.
use Rattle.std.proofs.Common.{◌≡◌, ◌∙◌, ℕ, List, Result, Ok, Err, sym, ap, subst}
use Rattle.ap_fields.specs.Readings.{MemoryImage}
use Rattle.ap_elf.specs.declared.types.Entry.{Entry}
use Rattle.ap_elf.specs.declared.machine.Machine.{Machine}
use Rattle.ap_elf.specs.declared.machine.Machine.TheVariants.{X64, A64}
use Rattle.ap_elf.specs.Machines.{granule_of, number_of}
use Rattle.ap_elf.specs.ElfReading.{elf_reading}
use Rattle.ap_loader.specs.ApeReading.{ape_reading}
use Rattle.ap_pe.specs.PeReading.{pe_reading}
use Rattle.ap_mach.specs.MachReading.{mach_reading}
use Rattle.ap_assim.specs.declared.fault.AssimFault.{AssimFault}
use Rattle.ap_assim.proofs.Copied.{copied-once}
use Rattle.ap_trial.specs.TrialInputs.{trial_loads}
use Rattle.ap_trial.specs.Summaries.{summary_of}
use Rattle.ap_trial.specs.Trials.{HasFold, HasElfFold, HasMachFold, AreFolds, AreNumbers, IsTrial, trial_file}
use Rattle.ap_trial.specs.declared.numbers.ReadingFolds.{ReadingFolds}
use Rattle.ap_trial.specs.declared.numbers.SummaryNumbers.{SummaryNumbers}

-- ---- a reading has one fold

fold-once : {Fault : Type 0} (loads : List Entry) (h k : ℕ) (r : Result MemoryImage Fault) → HasFold loads h r → HasFold loads k r → h ≡ k
fold-once loads h k (Ok image) x y = x ∙ sym y
fold-once loads h k (Err fault) x y = absurd x

pub made-once : (r : Result (List ℕ) AssimFault) (a b : List ℕ) → r ≡ Ok a → r ≡ Ok b → a ≡ b
made-once r a b x y = cc

elf-once : (loads : List Entry) (h k : ℕ) (machine : Machine) (page : ℕ) (file : List ℕ) → HasElfFold loads h machine page file → HasElfFold loads k machine page file → h ≡ k
elf-once loads h k machine page file x y =
    let same : x.0 ≡ y.0 = made-once _ x.0 y.0 x.1 y.1 in
    fold-once loads h k (elf_reading (number_of machine) page y.0) (subst (λ b. HasFold loads h (elf_reading (number_of machine) page b)) same x.2) y.2

mach-once : (loads : List Entry) (h k : ℕ) (file : List ℕ) → HasMachFold loads h file → HasMachFold loads k file → h ≡ k
mach-once loads h k file x y =
    let same : x.0 ≡ y.0 = copied-once file x.0 y.0 x.1.1 y.1.1 in
    fold-once loads h k (mach_reading y.0) (subst (λ b. HasFold loads h (mach_reading b)) same x.2) y.2

-- ---- records of equal fields

folds-same : (f g : ReadingFolds) → f.pe ≡ g.pe → f.mach ≡ g.mach → f.elf_x64 ≡ g.elf_x64 → f.ape_x64 ≡ g.ape_x64
    → f.elf_a64 ≡ g.elf_a64 → f.ape_a64_4096 ≡ g.ape_a64_4096 → f.ape_a64_16384 ≡ g.ape_a64_16384 → f ≡ g
folds-same f g pe mach elf_x64 ape_x64 elf_a64 small large =
    ap (λ v. record f { pe = v }) pe
    ∙ ap (λ v. record f { pe = g.pe; mach = v }) mach
    ∙ ap (λ v. record f { pe = g.pe; mach = g.mach; elf_x64 = v }) elf_x64
    ∙ ap (λ v. record f { pe = g.pe; mach = g.mach; elf_x64 = g.elf_x64; ape_x64 = v }) ape_x64
    ∙ ap (λ v. record g { elf_a64 = v; ape_a64_4096 = f.ape_a64_4096; ape_a64_16384 = f.ape_a64_16384 }) elf_a64
    ∙ ap (λ v. record g { ape_a64_4096 = v; ape_a64_16384 = f.ape_a64_16384 }) small
    ∙ ap (λ v. record g { ape_a64_16384 = v }) large

numbers-same : (n m : SummaryNumbers) → n.x64 ≡ m.x64 → n.a64 ≡ m.a64 → n.linked ≡ m.linked → n.fold ≡ m.fold → n.folds ≡ m.folds → n ≡ m
numbers-same n m x64 a64 linked fold folds =
    ap (λ v. record n { x64 = v }) x64
    ∙ ap (λ v. record n { x64 = m.x64; a64 = v }) a64
    ∙ ap (λ v. record n { x64 = m.x64; a64 = m.a64; linked = v }) linked
    ∙ ap (λ v. record m { fold = v; folds = n.folds }) fold
    ∙ ap (λ (v : ReadingFolds). record m { folds = v }) folds

-- ---- of one file

folds-once : (x64 a64 : List Entry) (file : List ℕ) (f g : ReadingFolds) → AreFolds x64 a64 file f → AreFolds x64 a64 file g → f ≡ g
folds-once x64 a64 file f g x y =
    folds-same f g
    (fold-once x64 f.pe g.pe (pe_reading file) x.pe y.pe)
    (mach-once x64 f.mach g.mach file x.mach y.mach)
    (elf-once x64 f.elf_x64 g.elf_x64 X64 4096 file x.elf_x64 y.elf_x64)
    (fold-once x64 f.ape_x64 g.ape_x64 (ape_reading (number_of X64) 4096 file) x.ape_x64 y.ape_x64)
    (elf-once a64 f.elf_a64 g.elf_a64 A64 16384 file x.elf_a64 y.elf_a64)
    (fold-once a64 f.ape_a64_4096 g.ape_a64_4096 (ape_reading (number_of A64) 4096 file) x.ape_a64_4096 y.ape_a64_4096)
    (fold-once a64 f.ape_a64_16384 g.ape_a64_16384 (ape_reading (number_of A64) 16384 file) x.ape_a64_16384 y.ape_a64_16384)

numbers-once : (number pages : ℕ) (n m : SummaryNumbers) → AreNumbers number pages n → AreNumbers number pages m → n ≡ m
numbers-once number pages n m x y =
    numbers-same n m (x.x64 ∙ sym y.x64) (x.a64 ∙ sym y.a64) (x.linked ∙ sym y.linked) (x.fold ∙ sym y.fold)
    (folds-once (trial_loads (granule_of X64) pages) (trial_loads (granule_of A64) pages) (trial_file number pages) n.folds m.folds x.folds y.folds)

pub summary-once : (number pages : ℕ) (a b : List ℕ) → IsTrial number pages a → IsTrial number pages b → a ≡ b
summary-once number pages a b x y =
    let same : x.0 ≡ y.0 = numbers-once number pages x.0 y.0 x.1 y.1 in
    x.2 ∙ ap summary_of same ∙ sym y.2
