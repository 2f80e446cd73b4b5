-- The command of a list of words. Its first word names the command, and the rest is taken by the `clap` command of that word.
use Rattle.std.specs.Prelude.{◌≡◌, ℕ, List, [], ◌∷◌, Option, Some, None, if◌then◌else◌, map, String, Result, Ok, Err}
use Rattle.std.specs.Option.{option_and_then}
use Rattle.std.specs.String.{string_bytes}
use Rattle.std.specs.declared.alloc.Global.{Global}
use Rattle.clap.specs.Words.{fault_of, matches_of}
use Rattle.clap.specs.Walk.{is_empty}
use Rattle.ap_words.specs.declared.command.Command.{Command}
use Rattle.ap_words.specs.declared.command.WordsFault.{WordsFault}
use Rattle.ap_words.specs.declared.command.WordsFault.TheVariants as fault
use Rattle.ap_words.specs.declared.word.Word.{Word}
use Rattle.ap_words.specs.Names.{word_named}
use Rattle.ap_words.specs.Tables.{app_for}
use Rattle.ap_words.specs.Fields.{fields_of}
use Rattle.ap_words.specs.Conditions.{conditions_are_met}

-- a command whose conditions are met
abbrev pub kept : Command → Option Command
kept command = if conditions_are_met command then Some command else None

-- what a command word asks for with the words that it heads, where `clap` takes them
abbrev pub asked : Word → List (List ℕ) → Option Command
asked word words = if is_empty (fault_of (app_for word) words) then fields_of word (matches_of (app_for word) words) else None

abbrev pub command_by : List ℕ → List (List ℕ) → Option Command
command_by name words = option_and_then (λ word. option_and_then kept (asked word words)) (word_named name)

-- the command of words; none where they are no command
unfoldable pub command_of : List (List ℕ) → Option Command
command_of [] = None
command_of (name ∷ rest) = command_by name (name ∷ rest)

abbrev pub texts_of : List (String Global) → List (List ℕ)
texts_of words = map string_bytes words

-- The answer is the command, or Usage where there is none. Want of memory is free.
abbrev pub Gives : Result Command WordsFault → Option Command → Type 0
Gives (Ok command) asked = asked ≡ Some command
Gives (Err fault.Usage) asked = asked ≡ None
Gives (Err fault.NoMemory) asked = Unit {0}
