-- The bytes that a text stands for as octal text, if it is one, read from left to right.
use Rattle.std.specs.Prelude.{ℕ, zero, suc, ◌+◌, ◌*◌, ◌==◌, ◌&&◌, not, nat_le, if◌then◌else◌, Bool, List, [], ◌∷◌, length, Option, Some, None, option_map}
use Rattle.std.specs.Option.{option_and_then}
use Rattle.ap_octal.specs.OctalText.{octal1}

abbrev pub is_octal_digit : ℕ → Bool
is_octal_digit c = nat_le 48 c && nat_le c 55

abbrev pub is_plain : ℕ → Bool
is_plain c = nat_le 1 c && (nat_le c 127 && (not (c == 37) && (not (c == 39) && not (c == 92))))

-- a value with the digits that follow, as many as n at most, and the text behind these
abbrev pub with_digits : ℕ → ℕ → List ℕ → ℕ × List ℕ
with_digits zero value text = (value, text)
with_digits (suc n) value [] = (value, [])
with_digits (suc n) value (c ∷ text) =
    if is_octal_digit c then with_digits n (value * 8 + octal1 c) text else (value, c ∷ text)

-- a value that is a byte, and the text behind it
abbrev pub byte_before : ℕ × List ℕ → Option (ℕ × List ℕ)
byte_before (value, text) = if nat_le value 255 then Some (value, text) else None

-- the byte whose digits, one to three, follow a backslash
abbrev pub escaped : List ℕ → Option (ℕ × List ℕ)
escaped [] = None
escaped (c ∷ text) = if is_octal_digit c then byte_before (with_digits 2 (octal1 c) text) else None

-- the first byte, and the text behind its spelling
abbrev pub first_byte : ℕ → List ℕ → Option (ℕ × List ℕ)
first_byte c text = if c == 92 then escaped text else (if is_plain c then Some (c, text) else None)

-- the bytes of a text that isn't longer than n
abbrev pub bytes_within : ℕ → List ℕ → Option (List ℕ)
bytes_within n [] = Some []
bytes_within zero (c ∷ text) = None
bytes_within (suc n) (c ∷ text) =
    option_and_then (λ first. option_map (λ bytes. first.0 ∷ bytes) (bytes_within n first.1)) (first_byte c text)

unfoldable pub octal_bytes_of : List ℕ → Option (List ℕ)
octal_bytes_of text = bytes_within (length text) text
