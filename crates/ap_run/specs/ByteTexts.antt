-- The text of any bytes, as the names of imports and the words of scripts.
use Rattle.std.specs.Prelude.{ℕ, ◌+◌, ◌/◌, ◌%◌, ◌==◌, ◌&&◌, not, nat_le, if◌then◌else◌, List, [], ◌∷◌, flat_map}

-- a byte: itself where it is printed and no backslash, else a backslash and three octal digits
unfoldable pub shown_byte : ℕ → List ℕ
shown_byte b =
    if nat_le 33 b && nat_le b 126 && not (b == 92) then b ∷ []
    else 92 ∷ (48 + b / 64) ∷ (48 + b / 8 % 8) ∷ (48 + b % 8) ∷ []

abbrev pub bytes_text : List ℕ → List ℕ
bytes_text bytes = flat_map shown_byte bytes
