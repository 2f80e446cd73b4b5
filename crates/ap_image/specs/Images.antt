-- A plan over a file in memory, and its pieces: which bytes of the file, and how many zeros behind them, stand from an address
-- on.
use Rattle.std.specs.Prelude.{◌≡◌, ℕ, ◌+◌, ◌-◌, ◌<◌, min, get_or, List, length, take, drop, Option, Some, None}
use Rattle.ap_fields.specs.Readings.{bytes_in}
use Rattle.ap_image.specs.declared.plan.Region.{Region}
use Rattle.ap_image.specs.declared.piece.Piece.{Piece}
use Rattle.ap_image.specs.Plans.{end_of, cell_in}

-- a region's addresses from one of them on, and no more than so many
abbrev pub count_from : Region → ℕ → ℕ → ℕ
count_from r a most = min most (end_of r - a)

-- those of them that show the file's bytes
abbrev pub backed_from : Region → ℕ → ℕ → ℕ
backed_from r a most = min (count_from r a most) (r.backed - (a - r.start))

-- the piece of a region from one of its addresses on
pub record IsPieceOf (file : List ℕ) (r : Region) (a most : ℕ) (p : Piece) : Type 0 where
  pub count : length p.bytes.now + p.zeros ≡ count_from r a most
  pub bytes : p.bytes.now ≡ take (backed_from r a most) (drop (r.at + (a - r.start)) file)
  pub perms : p.perms ≡ r.perms

-- a piece of the region that has the address, and none exactly where no region has it
abbrev pub IsPieceAt : List ℕ → Option Region → ℕ → ℕ → Option Piece → Type 0
IsPieceAt file (Some r) a most (Some p) = IsPieceOf file r a most p
IsPieceAt file (Some r) a most None = ⊥
IsPieceAt file None a most (Some p) = ⊥
IsPieceAt file None a most None = Unit {0}

-- a piece has the cells from an address on: the bytes, and zeros behind them
abbrev pub HasCells : List ℕ → List Region → ℕ → Piece → Type 0
HasCells file regions a p =
    (i : ℕ) → i < length p.bytes.now + p.zeros → cell_in (bytes_in file) regions (a + i) ≡ Some (get_or p.bytes.now i 0, p.perms.0)
