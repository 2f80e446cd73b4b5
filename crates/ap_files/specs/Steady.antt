-- What files that never fail hold: one name has bytes that were given, and any other file is empty.
use Rattle.std.specs.Prelude.{ℕ, List, [], ◌++◌, take, drop, replicate, if◌then◌else◌}
use Rattle.std.specs.Str.{bytes_eq}

pub record Steady : Type 0 where
  pub name : List ℕ
  pub bytes : List ℕ

-- the bytes of a file
abbrev pub steady_bytes : Steady → List ℕ → List ℕ
steady_bytes files name = if bytes_eq name files.name then files.bytes else []

-- so many bytes from a place on, where those past the end are 0
abbrev pub padded_part : List ℕ → ℕ → ℕ → List ℕ
padded_part bytes at n = take n (drop at bytes ++ replicate n 0)
