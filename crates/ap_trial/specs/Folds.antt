-- The folds of a trial: of bytes, and of the cells that stand at the addresses of loads.
use Rattle.std.specs.Prelude.{ℕ, ◌+◌, ◌*◌, ◌%◌, ◌^◌, List, ◌++◌, fold, map, Option, Some, None}
use Rattle.ap_fields.specs.Bytes.{zeros, listed}
use Rattle.ap_fields.specs.Readings.{Cell, bytes_in}
use Rattle.ap_elf.specs.declared.types.Entry.{Entry}
use Rattle.ap_image.specs.declared.piece.Piece.{Piece}
use Rattle.ap_image.specs.Plans.{Imaged, cell_in}

-- a fold takes a number
abbrev pub folded : ℕ → ℕ → ℕ
folded h v = (h * 1099511628211 + v + 1) % 2 ^ 64

-- and a list of numbers
abbrev pub folded_all : ℕ → List ℕ → ℕ
folded_all h vs = fold folded h vs

-- the number of a cell: its byte and 256 times its permissions
abbrev pub cell_number : Option Cell → ℕ
cell_number None = 0
cell_number (Some (byte, perms)) = byte + 256 * perms

-- the numbers of the cells at so many addresses from one on
unfoldable pub cell_numbers : (ℕ → Option Cell) → ℕ → ℕ → List ℕ
cell_numbers cell a n = listed (λ b. cell_number (cell b)) a n

-- the fold over all addresses of loads, in their order
abbrev pub fold_over : (ℕ → Option Cell) → ℕ → List Entry → ℕ
fold_over cell h loads = fold (λ k p. folded_all k (cell_numbers cell p.vaddr p.memsz)) h loads

-- the cells of a plan over a file
abbrev pub cells_of : Imaged → (ℕ → Option Cell)
cells_of image = cell_in (bytes_in image.file) image.plan.regions

-- the numbers of a piece's cells
abbrev pub piece_numbers : Piece → List ℕ
piece_numbers p = map (λ byte. byte + 256 * p.perms.0) (p.bytes.now ++ zeros p.zeros)
