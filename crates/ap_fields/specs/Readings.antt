-- A reading of a file: the fault of the first rule that the file breaks, or what the file puts into memory, which is an
-- address to start at and a byte with permissions for each address that is mapped.
use Rattle.std.specs.Prelude.{ℕ, List, slice_index, Option, Some, None, Result, Ok, Err}

-- a byte, and permissions: 1 execute, 2 write, 4 read
abbrev pub Cell : Type 0
Cell = ℕ × ℕ

-- what a file puts into memory
pub record MemoryImage : Type 0 where
  pub entry : ℕ
  pub cell : ℕ → Option Cell

-- the image, unless there is a fault
abbrev pub image_unless : {Fault : Type 0} → Option Fault → MemoryImage → Result MemoryImage Fault
image_unless None image = Ok image
image_unless (Some fault) image = Err fault

-- a file's bytes by their places
abbrev pub bytes_in : List ℕ → (ℕ → ℕ)
bytes_in file = λ i. slice_index file i
