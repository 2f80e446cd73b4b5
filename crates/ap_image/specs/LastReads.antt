-- The part of a file that was read last.
use Rattle.std.specs.Prelude.{◌≡◌, ℕ, List, take, drop, Option, Some}
use Rattle.ap_files.specs.Files.{FileMap, told_bytes}
use Rattle.ap_image.specs.declared.last_read.LastRead.{LastRead}

-- it is a part of these bytes
abbrev pub IsPartOf : List ℕ → LastRead → Type 0
IsPartOf file part = take part.count part.bytes ≡ take part.count (drop part.from file)

-- and of the file of this name, where files are told
abbrev pub IsPart : Option FileMap → List ℕ → LastRead → Type 0
IsPart kept name part = (m : FileMap) → kept ≡ Some m → IsPartOf (told_bytes (Some m) name) part
