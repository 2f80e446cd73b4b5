-- The lines of a report on the statements of a file's window.
use Rattle.std.specs.Prelude.{◌≡◌, ℕ, ◌+◌, nat_eq, if◌then◌else◌, List, [], ◌∷◌, ◌++◌, codes, decimal, Option, Some, None, MatchOption}
use Rattle.std.specs.List.{starts_with}
use Rattle.memchr.specs.Find.{Nowhere, NoneBefore}
use Rattle.ap_fields.specs.Fields.{number_at}
use Rattle.ap_fields.specs.declared.sizes.TheConstants.{WINDOW}
use Rattle.ap_octal.specs.Embedded.{Opens, EmbedsNothing, Tells}
use Rattle.ap_octal.specs.declared.types.Decoded.{Decoded}

-- the machine of an ELF header, and 0 of other bytes
abbrev pub machine_of : List ℕ → ℕ
machine_of first = if starts_with nat_eq first (127 ∷ 69 ∷ 76 ∷ 70 ∷ []) then number_at 2 18 first else 0

-- how many bytes it embeds, and for which machine
abbrev pub pair_text : ℕ → ℕ → List ℕ
pair_text count machine = codes " " ++ (decimal count ++ (codes " " ++ (decimal machine ++ codes "\n")))

-- what a statement embeds
abbrev pub decoded_text : Option Decoded → List ℕ
decoded_text None = codes " none\n"
decoded_text (Some d) = pair_text d.count (machine_of d.first)

unfoldable pub statement_line : ℕ → Option Decoded → List ℕ
statement_line at decoded = codes "statement " ++ (decimal at ++ decoded_text decoded)

-- the line of the statement at a place
pub record IsStatement (file : List ℕ) (at : ℕ) (line : List ℕ) : Type 0 where
  pub decoded : Option Decoded
  pub told : MatchOption decoded (EmbedsNothing file at) (λ d. Tells file at d)
  pub text : line ≡ statement_line at decoded

-- the lines of the statements from a place on, in the order of their places
pub data AreStatements (file : List ℕ) : ℕ → List ℕ → Type 0 where
  none : (from : ℕ) → Nowhere (Opens file) from WINDOW → AreStatements file from []
  some : (from at : ℕ) (line lines : List ℕ) → NoneBefore (Opens file) from WINDOW at → Opens file at
      → IsStatement file at line → AreStatements file (at + 1) lines → AreStatements file from (line ++ lines)
