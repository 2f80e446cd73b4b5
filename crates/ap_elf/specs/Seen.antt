-- Where a text stands among strings, as far as it was looked for.
use Rattle.std.specs.Prelude.{◌≡◌, ℕ, ◌<◌, ◌==◌, ◌%◌, if◌then◌else◌, not, Bool, true, false, List, [], ◌∷◌, length, get_or, Option, MatchOption}
use Rattle.ap_files.specs.Files.{FileMap, ForFile}
use Rattle.ap_elf.specs.declared.types.Tables.{Tables}
use Rattle.ap_elf.specs.declared.seen.Seen.{Seen}
use Rattle.ap_elf.specs.declared.types.Symbol.{Symbol}
use Rattle.ap_elf.specs.Symbols.{strings_of, stands_at, with_nul, symbols_from, Stands}
use Rattle.ap_elf.specs.declared.constants.TheConstants.{SHN_UNDEF}

-- at one place alone below another
abbrev pub IsSeen : List ℕ → List ℕ → Seen → Type 0
IsSeen strings text s = (at : ℕ) → at < s.other → stands_at strings text at ≡ (at == s.first)

-- a name and its NUL, among the strings of a file
abbrev pub IsSeenIn : Option FileMap → List ℕ → Tables → List ℕ → Seen → Type 0
IsSeenIn kept name t wanted s = ForFile kept name (λ b. IsSeen (strings_of b t) (with_nul wanted) s)

-- what a search of a text finds: that it stands nowhere, or where
abbrev pub Sees : List ℕ → List ℕ → Option Seen → Type 0
Sees strings text seen = MatchOption seen (¬ Stands strings text) (λ s. IsSeen strings text s)

-- whether marks leave open that a text stands at a place: at each, where there are none
abbrev pub may_stand : List Bool → ℕ → Bool
may_stand marks at = if length marks == 0 then true else get_or marks (at % length marks) false

-- no place at which a text stands is without a mark
abbrev pub IsMarked : List ℕ → List ℕ → List Bool → Type 0
IsMarked strings text marks = (at : ℕ) → stands_at strings text at ≡ true → may_stand marks at ≡ true

-- those of a name and its NUL, among the strings of a file
abbrev pub IsMarkedIn : Option FileMap → List ℕ → Tables → List ℕ → List Bool → Type 0
IsMarkedIn kept name t wanted marks = ForFile kept name (λ b. IsMarked (strings_of b t) (with_nul wanted) marks)

-- the same for the places below one, and the marks that were there
abbrev pub IsMarkedBelow : List ℕ → List ℕ → List Bool → ℕ → Type 0
IsMarkedBelow strings text marks end = (at : ℕ) → at < end → stands_at strings text at ≡ true → may_stand marks at ≡ true

abbrev pub KeepsMarks : List Bool → List Bool → Type 0
KeepsMarks old new = (at : ℕ) → may_stand old at ≡ true → may_stand new at ≡ true

-- the place that a symbol names is marked, where it is defined
abbrev pub IsNamedBy : List Bool → Symbol → Type 0
IsNamedBy marks s = not (s.section == SHN_UNDEF) ≡ true → may_stand marks s.name ≡ true

abbrev pub AreNamed : List Bool → List Symbol → Type 0
AreNamed marks [] = Unit {0}
AreNamed marks (s ∷ symbols) = IsNamedBy marks s × AreNamed marks symbols

-- those of all symbols of a file
abbrev pub AreNamedIn : Option FileMap → List ℕ → Tables → List Bool → Type 0
AreNamedIn kept name t marks = ForFile kept name (λ b. AreNamed marks (symbols_from b t.at t.count))

-- no place is left open by both
abbrev pub ShareNone : List Bool → List Bool → Type 0
ShareNone a b = (at : ℕ) → may_stand a at ≡ true → may_stand b at ≡ false
