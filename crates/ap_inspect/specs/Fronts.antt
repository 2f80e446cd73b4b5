-- The first lines of a report: a file's size and its magic.
use Rattle.std.specs.Prelude.{ℕ, if◌then◌else◌, List, ◌++◌, length, take, codes, decimal}
use Rattle.ap_loader.specs.Embedded.{has_magic}

-- the six letters of the magic, where one stands
abbrev pub magic_of : List ℕ → List ℕ
magic_of file = if has_magic file then take 6 file else codes "none"

unfoldable pub front_lines : List ℕ → List ℕ
front_lines file =
    codes "size " ++ (decimal (length file) ++ (codes "\nmagic " ++ (magic_of file ++ codes "\n")))
