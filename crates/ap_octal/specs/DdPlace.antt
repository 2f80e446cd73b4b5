-- The `dd` statement of an APE file, which an assimilator looks for in the file's window (APE specification).
use Rattle.std.specs.Prelude.{◌≡◌, ℕ, ◌+◌, ◌-◌, ◌*◌, ◌≤◌, ◌&&◌, nat_le, Bool, false, if◌then◌else◌, List, [], ◌∷◌, length, take, slice_index, slice_range, codes, Option, Some, None, MatchOption}
use Rattle.memchr.specs.Find.{Nowhere, NoneBefore}
use Rattle.ap_fields.specs.Bytes.{Holds}
use Rattle.ap_fields.specs.declared.sizes.TheConstants.{WINDOW}
use Rattle.ap_octal.specs.declared.types.DdStatement.{DdStatement}

abbrev pub is_digit : ℕ → Bool
is_digit c = nat_le 48 c && nat_le c 57

-- a number with the decimal digits that follow, where nothing else follows
abbrev pub with_digits : ℕ → List ℕ → Option ℕ
with_digits value [] = Some value
with_digits value (c ∷ text) = if is_digit c then with_digits (value * 10 + (c - 48)) text else None

-- the number that one to nine decimal digits spell; the first may be zeros
abbrev pub short_number : List ℕ → Option ℕ
short_number text = if nat_le 1 (length text) && nat_le (length text) 9 then with_digits 0 text else None

-- a name stands at a place, and behind it, up to `end`, all the digits of a number
pub record HasOperand (text : List ℕ) (at : ℕ) (name : List ℕ) (number end : ℕ) : Type 0 where
  pub named : Holds text at name
  pub behind : at + length name ≤ end
  pub fits : end ≤ length text
  pub spelt : short_number (slice_range text (at + length name) end) ≡ Some number
  pub ends : is_digit (slice_index text end) ≡ false

-- ` bs=B skip=S count=C conv=notrunc` stands at a place, with numbers of one to nine digits, B at least 1
pub record StandsDd (text : List ℕ) (at size skip count : ℕ) : Type 0 where
  pub skip_at : ℕ
  pub count_at : ℕ
  pub conv_at : ℕ
  pub bs : HasOperand text at (codes " bs=") size skip_at
  pub skips : HasOperand text skip_at (codes " skip=") skip count_at
  pub counts : HasOperand text count_at (codes " count=") count conv_at
  pub conv : Holds text conv_at (codes " conv=notrunc")
  pub some : 1 ≤ size

-- a `dd` statement stands at a place, wholly in the window
abbrev pub HasDd : List ℕ → ℕ → Type 0
HasDd file at = (size : ℕ) × (skip : ℕ) × (count : ℕ) × StandsDd (take WINDOW file) at size skip count

-- a file's first `dd` statement
abbrev pub FirstDd : List ℕ → DdStatement → Type 0
FirstDd file s = NoneBefore (HasDd file) 0 WINDOW s.at × StandsDd (take WINDOW file) s.at s.size s.skip s.count

-- it, or none
abbrev pub IsDd : List ℕ → Option DdStatement → Type 0
IsDd file dd = MatchOption dd (Nowhere (HasDd file) 0 WINDOW) (λ s. FirstDd file s)
