-- Symbols whose names don't begin with a text.
use Rattle.std.specs.Prelude.{◌≡◌, ℕ, ◌==◌, not, Bool, true, false, List, [], ◌∷◌, Option}
use Rattle.ap_files.specs.Files.{FileMap, ForFile}
use Rattle.ap_elf.specs.declared.types.Symbol.{Symbol}
use Rattle.ap_elf.specs.declared.types.Tables.{Tables}
use Rattle.ap_elf.specs.declared.constants.TheConstants.{SHN_UNDEF}
use Rattle.ap_elf.specs.Symbols.{strings_of, stands_at}
use Rattle.ap_elf.specs.Seen.{IsMarked}

-- that of a symbol, where it is defined
abbrev pub BeginsNot : List ℕ → List ℕ → Symbol → Type 0
BeginsNot strings text s = not (s.section == SHN_UNDEF) ≡ true → stands_at strings text s.name ≡ false

abbrev pub NoneBegins : List ℕ → List ℕ → List Symbol → Type 0
NoneBegins strings text [] = Unit {0}
NoneBegins strings text (s ∷ symbols) = BeginsNot strings text s × NoneBegins strings text symbols

-- no place at which a text stands among the strings of a file is without a mark
abbrev pub IsMarkedFor : Option FileMap → List ℕ → Tables → List ℕ → List Bool → Type 0
IsMarkedFor kept name t text marks = ForFile kept name (λ b. IsMarked (strings_of b t) text marks)
