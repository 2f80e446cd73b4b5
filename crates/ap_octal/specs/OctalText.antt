-- Octal text (POSIX `printf`; APE specification): what stands between the quotes of a `printf` statement, and the bytes
-- that it stands for.
use Rattle.std.specs.Prelude.{◌≢◌, ℕ, ◌+◌, ◌-◌, ◌*◌, ◌≤◌, List, [], ◌∷◌}

-- a byte that stands for itself: neither NUL, nor beyond ASCII, nor a percent sign, a quote or a backslash
pub record IsPlain (c : ℕ) : Type 0 where
  pub above : 1 ≤ c
  pub ascii : c ≤ 127
  pub percent : c ≢ 37
  pub quote : c ≢ 39
  pub backslash : c ≢ 92

pub record IsOctalDigit (c : ℕ) : Type 0 where
  pub low : 48 ≤ c
  pub high : c ≤ 55

-- the text doesn't go on with an octal digit
abbrev pub EndsDigits : List ℕ → Type 0
EndsDigits [] = Unit {0}
EndsDigits (c ∷ text) = ¬ IsOctalDigit c

-- the value of one, two and three octal digits
abbrev pub octal1 : ℕ → ℕ
octal1 a = a - 48

abbrev pub octal2 : ℕ → ℕ → ℕ
octal2 a b = octal1 a * 8 + octal1 b

abbrev pub octal3 : ℕ → ℕ → ℕ → ℕ
octal3 a b c = octal2 a b * 8 + octal1 c

-- a text stands for a list of bytes: a byte for itself, or a backslash (92) and the one, two or three octal digits that
-- follow it for their value, which is a byte's
pub data IsOctal : List ℕ → List ℕ → Type 0 where
  empty : IsOctal [] []
  plain : (c : ℕ) (text bytes : List ℕ) → IsPlain c → IsOctal text bytes → IsOctal (c ∷ text) (c ∷ bytes)
  one : (a : ℕ) (text bytes : List ℕ) → IsOctalDigit a → EndsDigits text → IsOctal text bytes
      → IsOctal (92 ∷ a ∷ text) (octal1 a ∷ bytes)
  two : (a b : ℕ) (text bytes : List ℕ) → IsOctalDigit a → IsOctalDigit b → EndsDigits text → IsOctal text bytes
      → IsOctal (92 ∷ a ∷ b ∷ text) (octal2 a b ∷ bytes)
  three : (a b c : ℕ) (text bytes : List ℕ) → IsOctalDigit a → IsOctalDigit b → IsOctalDigit c → octal3 a b c ≤ 255
      → IsOctal text bytes → IsOctal (92 ∷ a ∷ b ∷ c ∷ text) (octal3 a b c ∷ bytes)
