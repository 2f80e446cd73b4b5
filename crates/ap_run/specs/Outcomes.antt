-- The text of how a script ends.
use Rattle.std.specs.Prelude.{ℕ, List, ◌++◌, codes, decimal, flat_map}
use Rattle.ap_shell.specs.declared.types.Outcome.{Outcome}
use Rattle.ap_shell.specs.declared.types.Outcome.TheVariants.{Execs, Exits}
use Rattle.ap_run.specs.ByteTexts.{bytes_text}

unfoldable pub word_line : List ℕ → List ℕ
word_line word = codes "word " ++ (bytes_text word ++ codes "\n")

-- the file that is executed and a line for each word behind its name, or the status
abbrev pub outcome_text : Outcome → List ℕ
outcome_text (Execs path words) = codes "execs " ++ (bytes_text path ++ (codes "\n" ++ flat_map word_line words))
outcome_text (Exits status) = codes "exits " ++ (decimal status ++ codes "\n")
