-- The field: the number of 2, 4 or 8 bytes, the lowest byte first, as ELF, PE and Mach-O files hold it.
use Rattle.std.specs.Prelude.{◌≡◌, ℕ, zero, suc, ◌+◌, ◌*◌, ◌^◌, List, ◌++◌, length, take, drop, slice_index}
use Rattle.std.specs.Int.{bytes_low_first}

-- the sum of f 0 to f (n - 1)
abbrev pub sum_below : ℕ → (ℕ → ℕ) → ℕ
sum_below zero f = 0
sum_below (suc n) f = sum_below n f + f n

-- the number of n bytes from a place: the sum of byte i times 256 to the power i
unfoldable pub number_at : ℕ → ℕ → List ℕ → ℕ
number_at n at b = sum_below n (λ i. slice_index b (at + i) * 256 ^ i)

-- the n bytes of a number, the lowest first
unfoldable pub bytes_of : ℕ → ℕ → List ℕ
bytes_of n x = bytes_low_first 0 n x

-- a list with other bytes from a place on
abbrev pub patched : List ℕ → ℕ → List ℕ → List ℕ
patched b at bytes = take at b ++ bytes ++ drop (at + length bytes) b

-- the field of n bytes at a place holds the number, and all other bytes stay
pub record Puts (n at x : ℕ) (old new : List ℕ) : Type 0 where
  pub field : number_at n at new ≡ x
  pub bytes : new ≡ patched old at (bytes_of n x)
