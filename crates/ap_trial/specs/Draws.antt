-- The bytes of a trial: the highest byte of each number of a sequence, which goes on by a product and a sum modulo 2^64.
use Rattle.std.specs.Prelude.{ℕ, zero, suc, ◌+◌, ◌*◌, ◌/◌, ◌%◌, ◌^◌, List, [], ◌∷◌}

-- the number behind another
abbrev pub next_of : ℕ → ℕ
next_of x = (x * 6364136223846793005 + 1442695040888963407) % 2 ^ 64

-- the number that so many steps lead to
unfoldable pub stepped : ℕ → ℕ → ℕ
stepped x zero = x
stepped x (suc n) = next_of (stepped x n)

-- the byte of a number
abbrev pub byte_of : ℕ → ℕ
byte_of x = x / 2 ^ 56

-- so many bytes behind a number
unfoldable pub drawn : ℕ → ℕ → List ℕ
drawn x zero = []
drawn x (suc n) = byte_of (next_of x) ∷ drawn (next_of x) n
