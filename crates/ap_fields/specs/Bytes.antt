-- Lists of bytes, as files and their parts.
use Rattle.std.specs.Prelude.{◌≡◌, ℕ, zero, suc, ◌+◌, ◌<◌, ◌≤◌, List, [], ◌∷◌, ◌++◌, length, drop, replicate, slice_index}

-- n zeros
unfoldable pub zeros : ℕ → List ℕ
zeros n = replicate n 0

-- n bytes from a place on, where a function gives the byte of each place
abbrev pub listed : (ℕ → ℕ) → ℕ → ℕ → List ℕ
listed byte at zero = []
listed byte at (suc n) = byte at ∷ listed byte (suc at) n

-- a file has these bytes from a place on
pub record Holds (file : List ℕ) (at : ℕ) (bytes : List ℕ) : Type 0 where
  pub fits : at + length bytes ≤ length file
  pub same : (k : ℕ) → k < length bytes → slice_index file (at + k) ≡ slice_index bytes k

-- a file with its first bytes replaced
abbrev pub over : List ℕ → List ℕ → List ℕ
over file bytes = bytes ++ drop (length bytes) file
