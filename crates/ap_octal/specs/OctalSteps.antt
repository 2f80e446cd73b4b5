-- One step in octal text, from left to right.
use Rattle.std.specs.Prelude.{◌≡◌, ℕ, ◌<◌, ◌≤◌, List, [], ◌∷◌, ◌++◌, length, take, drop, slice_index}
use Rattle.ap_octal.specs.OctalText.{IsOctal, IsOctalDigit, octal1}

-- the text's front stands for these bytes, whatever the rest stands for
pub record Splits (text front rest : List ℕ) : Type 0 where
  pub there : (behind : List ℕ) → IsOctal rest behind → IsOctal text (front ++ behind)
  pub back : (bytes : List ℕ) → IsOctal text bytes
      → (behind : List ℕ) × (bytes ≡ front ++ behind) × IsOctal rest behind

-- the text's first bytes, as many as `width`, stand for one byte
pub record Begins (text : List ℕ) (byte width : ℕ) : Type 0 where
  pub some : 1 ≤ width
  pub within : width ≤ length text
  pub splits : Splits text (byte ∷ []) (drop width text)

-- the text stands for nothing
abbrev pub IsNoOctal : List ℕ → Type 0
IsNoOctal text = (bytes : List ℕ) → ¬ IsOctal text bytes

-- an octal digit of this value stands at a place
pub record HasDigit (text : List ℕ) (at digit : ℕ) : Type 0 where
  pub within : at < length text
  pub is_digit : IsOctalDigit (slice_index text at)
  pub value : digit ≡ octal1 (slice_index text at)

-- the text stands for bytes of this number, of which the first 64, or all of fewer, are kept
pub record Spells (text kept : List ℕ) (number : ℕ) : Type 0 where
  pub bytes : List ℕ
  pub octal : IsOctal text bytes
  pub count : number ≡ length bytes
  pub first : take number kept ≡ take 64 bytes
