-- The statements that stand in a file's window, its first 8192 bytes (APE specification).
use Rattle.std.specs.Prelude.{◌≡◌, ◌≢◌, ℕ, ◌+◌, ◌<◌, ◌≤◌, List, length, take, slice_index, slice_range, codes}
use Rattle.ap_fields.specs.Bytes.{Holds}
use Rattle.ap_fields.specs.declared.sizes.TheConstants.{WINDOW}
use Rattle.ap_octal.specs.OctalText.{IsOctal}
use Rattle.ap_octal.specs.declared.types.TheConstants.{HEADER_SIZE}
use Rattle.ap_octal.specs.declared.types.Decoded.{Decoded}

-- `printf '` stands at a place, wholly in the window
pub record Opens (file : List ℕ) (at : ℕ) : Type 0 where
  pub stands : Holds file at (codes "printf '")
  pub within : at + 8 ≤ WINDOW

-- the first quote from a place on stands at `end`, in the window
pub record Closes (file : List ℕ) (from end : ℕ) : Type 0 where
  pub behind : from ≤ end
  pub fits : end < length file
  pub within : end < WINDOW
  pub quote : slice_index file end ≡ 39
  pub first : (k : ℕ) → from ≤ k → k < end → slice_index file k ≢ 39

-- what `printf '` opens at a place goes to the quote at `end` and is octal text of these bytes, at least 64
pub record Embeds (file : List ℕ) (at end : ℕ) (bytes : List ℕ) : Type 0 where
  pub closes : Closes file (at + 8) end
  pub octal : IsOctal (slice_range file (at + 8) end) bytes
  pub enough : HEADER_SIZE ≤ length bytes

-- it is nothing of that kind
abbrev pub EmbedsNothing : List ℕ → ℕ → Type 0
EmbedsNothing file at = (end : ℕ) (bytes : List ℕ) → ¬ Embeds file at end bytes

-- it embeds some bytes: the first 64 of them, their number and the quote's place
pub record Tells (file : List ℕ) (at : ℕ) (decoded : Decoded) : Type 0 where
  pub bytes : List ℕ
  pub embeds : Embeds file at decoded.end bytes
  pub first : decoded.first ≡ take HEADER_SIZE bytes
  pub count : decoded.count ≡ length bytes
