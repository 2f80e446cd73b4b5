-- Numbers in decimal digits without a sign.
use Rattle.std.specs.Prelude.{ℕ, ◌+◌, ◌*◌, ◌-◌, ◌^◌, ◌&&◌, nat_le, nat_lt, if◌then◌else◌, Bool, List, [], ◌∷◌, length, Option, Some, None}
use Rattle.std.specs.List.{list_all}
use Rattle.std.specs.Option.{option_and_then}

abbrev pub is_digit : ℕ → Bool
is_digit c = nat_le 48 c && nat_le c 57

-- a number with digits behind it
unfoldable pub with_digits : ℕ → List ℕ → ℕ
with_digits n [] = n
with_digits n (d ∷ ds) = with_digits (n * 10 + (d - 48)) ds

-- one digit more, where the number is below 2^64
abbrev pub with_digit : ℕ → ℕ → Option ℕ
with_digit n d = if is_digit d && nat_lt (n * 10 + (d - 48)) (2 ^ 64) then Some (n * 10 + (d - 48)) else None

-- the number with all of them, where they are digits and it is below 2^64
unfoldable pub read_digits : ℕ → List ℕ → Option ℕ
read_digits n ds = if list_all is_digit ds && nat_lt (with_digits n ds) (2 ^ 64) then Some (with_digits n ds) else None

abbrev pub is_short : ℕ → List ℕ → Bool
is_short most text = nat_le 1 (length text) && nat_le (length text) most

-- the number of 1 to `most` digits, which is below 2^64
abbrev pub number_in : ℕ → List ℕ → Option ℕ
number_in most text = if is_short most text then read_digits 0 text else None

abbrev pub in_32_bits : ℕ → Option ℕ
in_32_bits n = if nat_lt n (2 ^ 32) then Some n else None

-- the same below 2^32
abbrev pub small_in : ℕ → List ℕ → Option ℕ
small_in most text = option_and_then in_32_bits (number_in most text)
