-- The canonical statement, which prints a header's bytes (APE specification; POSIX `printf`).
use Rattle.std.specs.Prelude.{ℕ, ◌+◌, ◌/◌, ◌%◌, ◌&&◌, ◌||◌, nat_le, if◌then◌else◌, Bool, List, [], ◌∷◌, ◌++◌, codes}
use Rattle.std.specs.List.{flat_map}

abbrev pub is_letter : ℕ → Bool
is_letter c = (nat_le 65 c && nat_le c 90) || (nat_le 97 c && nat_le c 122)

-- a letter itself; any other byte as a backslash and three octal digits
abbrev pub octal_of : ℕ → List ℕ
octal_of c = if is_letter c then c ∷ [] else 92 ∷ (48 + c / 64) ∷ (48 + c / 8 % 8) ∷ (48 + c % 8) ∷ []

-- what stands between the quotes
abbrev pub octals_of : List ℕ → List ℕ
octals_of header = flat_map octal_of header

unfoldable pub statement_of : List ℕ → List ℕ
statement_of header = codes "printf '" ++ (octals_of header ++ codes "'")
