-- The text of a plan of memory.
use Rattle.std.specs.Prelude.{ℕ, zero, suc, ◌+◌, ◌-◌, ◌/◌, ◌%◌, ◌==◌, nat_lt, if◌then◌else◌, List, [], ◌∷◌, ◌++◌, codes, flat_map}
use Rattle.ap_image.specs.declared.plan.Region.{Region}
use Rattle.ap_image.specs.Plans.{Mapping}

-- a hexadecimal digit, with lower case letters
abbrev pub digit : ℕ → ℕ
digit value = if nat_lt value 10 then 48 + value else 97 + (value - 10)

-- the n lowest hexadecimal digits of a number, the highest of them first
unfoldable pub hex_digits : ℕ → ℕ → List ℕ
hex_digits zero number = []
hex_digits (suc n) number = hex_digits n (number / 16) ++ digit (number % 16) ∷ []

-- a number in 16 hexadecimal digits
unfoldable pub hex_of : ℕ → List ℕ
hex_of number = hex_digits 16 number

-- the letter of a right whose bit is the lowest, or a dash where it is missing
abbrev pub right_of : ℕ → ℕ → ℕ
right_of bits letter = if bits % 2 == 1 then letter else 45

-- `r`, `w` and `x`
unfoldable pub rights_of : ℕ → List ℕ
rights_of perms = right_of (perms / 4) 114 ∷ right_of (perms / 2) 119 ∷ right_of perms 120 ∷ []

unfoldable pub entry_line : ℕ → List ℕ
entry_line entry = codes "entry " ++ (hex_of entry ++ codes "\n")

-- a number, and the space behind it
abbrev pub column : ℕ → List ℕ
column number = hex_of number ++ 32 ∷ []

unfoldable pub region_line : Region → List ℕ
region_line r = column r.start ++ (column r.span ++ (column r.backed ++ (column r.at ++ (rights_of r.perms.0 ++ codes "\n"))))

abbrev pub plan_text : Mapping → List ℕ
plan_text m = entry_line m.entry ++ flat_map region_line m.regions
