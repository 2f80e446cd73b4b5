-- The summary of a trial: a line for each number.
use Rattle.std.specs.Prelude.{ℕ, List, ◌++◌, codes, decimal}
use Rattle.ap_texts.specs.PlanTexts.{hex_of}
use Rattle.ap_trial.specs.declared.numbers.ReadingFolds.{ReadingFolds}
use Rattle.ap_trial.specs.declared.numbers.SummaryNumbers.{SummaryNumbers}

-- words and a number
unfoldable pub size_line : List ℕ → ℕ → List ℕ
size_line words size = words ++ (decimal size ++ codes "\n")

-- words and a fold
unfoldable pub fold_line : List ℕ → ℕ → List ℕ
fold_line words h = words ++ (hex_of h ++ codes "\n")

-- the lengths of the inputs, and the length and the fold of the linked file
unfoldable pub file_lines : SummaryNumbers → List ℕ
file_lines n =
    size_line (codes "input 62 bytes ") n.x64
    ++ (size_line (codes "input 183 bytes ") n.a64
    ++ (size_line (codes "linked ") n.linked
    ++ fold_line (codes "fold ") n.fold))

-- the folds of the readings for x86-64
unfoldable pub x64_lines : ReadingFolds → List ℕ
x64_lines f =
    fold_line (codes "reading pe fold ") f.pe
    ++ (fold_line (codes "reading mach fold ") f.mach
    ++ (fold_line (codes "reading elf-62 fold ") f.elf_x64
    ++ fold_line (codes "reading ape-62 fold ") f.ape_x64))

-- those for AArch64
unfoldable pub a64_lines : ReadingFolds → List ℕ
a64_lines f =
    fold_line (codes "reading elf-183 fold ") f.elf_a64
    ++ (fold_line (codes "reading ape-183-4096 fold ") f.ape_a64_4096
    ++ fold_line (codes "reading ape-183-16384 fold ") f.ape_a64_16384)

unfoldable pub summary_of : SummaryNumbers → List ℕ
summary_of n = file_lines n ++ (x64_lines n.folds ++ a64_lines n.folds)
