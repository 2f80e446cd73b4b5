-- Names and the NUL behind them.
use Rattle.std.proofs.Common.{◌≡◌, ℕ, ◌<◌, ◌==◌, ◌&&◌, List, [], ◌∷◌, length, take, slice_index, Bool, true, false, refl, arith}
use Rattle.std.proofs.Math.Bool.{and-true}
use Rattle.std.specs.Str.{bytes_eq}
use Rattle.ap_elf.specs.Symbols.{with_nul}

-- bytes that begin with a name and a NUL
pub with_nul-begins : (part name : List ℕ) → length name < length part
    → bytes_eq (take (length (with_nul name)) part) (with_nul name) ≡ (bytes_eq (take (length name) part) name && slice_index part (length name) == 0)
with_nul-begins [] name h = absurd (omega arith)
with_nul-begins (x ∷ part) [] h = and-true (x == 0)
with_nul-begins (x ∷ part) (y ∷ name) h =
    by (x == y) (with_nul-begins part name (omega arith))
  where
    by : (t : Bool) → bytes_eq (take (length (with_nul name)) part) (with_nul name) ≡ (bytes_eq (take (length name) part) name && slice_index part (length name) == 0)
        → (t && bytes_eq (take (length (with_nul name)) part) (with_nul name)) ≡ ((t && bytes_eq (take (length name) part) name) && slice_index part (length name) == 0)
    by true e = e
    by false e = refl
