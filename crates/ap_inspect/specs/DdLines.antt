-- The line of a report on the `dd` statement of a file.
use Rattle.std.specs.Prelude.{true, List, ℕ, ◌++◌, codes, decimal, Option, Some, None}
use Rattle.ap_inspect.specs.StatementLines.{pair_text}
use Rattle.ap_octal.specs.DdEffect.{dd_effect}
use Rattle.ap_octal.specs.declared.types.DdStatement.{DdStatement}

unfoldable pub numbers_line : DdStatement → List ℕ
numbers_line s =
    codes "dd " ++ (decimal s.at ++ (codes " " ++ (decimal s.size ++ pair_text s.skip s.count)))

abbrev pub dd_line : Option DdStatement → List ℕ
dd_line None = codes "dd none\n"
dd_line (Some s) = numbers_line s

-- a file after its `dd` statement, where it has one
abbrev pub after_dd : List ℕ → Option DdStatement → List ℕ
after_dd file None = file
after_dd file (Some s) = dd_effect true s.size s.skip s.count file file
