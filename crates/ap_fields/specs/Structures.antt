-- Structures of a file format, each stated once for its reader and its writer: a field is a place and a width, and a structure
-- is its fields in their order, each with its number, and zeros between and behind them.
use Rattle.std.specs.Prelude.{ℕ, ◌+◌, ◌-◌, ◌&&◌, nat_le, Bool, List, [], ◌∷◌, ◌++◌}
use Rattle.ap_fields.specs.Bytes.{zeros}
use Rattle.ap_fields.specs.Fields.{number_at, bytes_of}

-- a field of a structure: its place from the structure's start on, and its width in bytes
abbrev pub Field : Type 0
Field = ℕ × ℕ

-- the number in a field of the structure at a place of a file
abbrev pub value_at : Field → ℕ → List ℕ → ℕ
value_at f at b = number_at f.1 (at + f.0) b

-- fields in the order of their places, each with its number
abbrev pub Rows : Type 0
Rows = List (Field × ℕ)

-- the bytes of a structure of n bytes from the place `from` on
abbrev pub structure : ℕ → ℕ → Rows → List ℕ
structure n from [] = zeros (n - from)
structure n from (r ∷ rows) = zeros (r.0.0 - from) ++ (bytes_of r.0.1 r.1 ++ structure n (r.0.0 + r.0.1) rows)

-- whether the fields are in the order of their places, don't overlap, and lie in n bytes
abbrev pub in_order : ℕ → ℕ → Rows → Bool
in_order n from [] = nat_le from n
in_order n from (r ∷ rows) = nat_le from r.0.0 && in_order n (r.0.0 + r.0.1) rows
