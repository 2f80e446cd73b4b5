-- The options and operands of each command word. How they are read is what `clap` promises.
use Rattle.std.specs.Prelude.{ℕ, List, [], ◌∷◌, Some, true, codes}
use Rattle.clap.specs.Lexer.{usize_max}
use Rattle.clap.specs.Words.{App, Rule, new_app, new_rule, with_rule}
use Rattle.clap.specs.Simple.{on_top}
use Rattle.clap.specs.declared.builder.action.ArgAction.TheVariants.{Append, SetTrue}
use Rattle.ap_words.specs.declared.word.Word.{Word}
use Rattle.ap_words.specs.declared.word.Word.TheVariants.{Link, Load, Map, Script, Assimilate, Inspect, Trial, Bind, Bundle, Stack, Audit}
use Rattle.ap_words.specs.Names.{name_of}

-- [--NAME VALUE]
abbrev pub option_rule : List ℕ → Rule
option_rule name = record (new_rule name) { long = Some name }

-- --NAME VALUE
abbrev pub needed_rule : List ℕ → Rule
needed_rule name = record (new_rule name) { long = Some name; required = true }

-- [--NAME]
abbrev pub flag_rule : List ℕ → Rule
flag_rule name = record (new_rule name) { long = Some name; action = Some SetTrue }

-- -o OUT
abbrev pub out_rule : Rule
out_rule = record (new_rule (codes "out")) { short = Some 111; required = true }

-- an operand
abbrev pub operand_rule : List ℕ → Rule
operand_rule name = record (new_rule name) { required = true }

-- IN [IN]
abbrev pub inputs_rule : Rule
inputs_rule = record (new_rule (codes "in")) { required = true; range = Some (record { start_inclusive = 1; end_inclusive = 2 }) }

-- [WORD ..]
abbrev pub words_rule : Rule
words_rule = record (new_rule (codes "word")) { action = Some Append; range = Some (record { start_inclusive = 0; end_inclusive = usize_max }) }

-- the options and operands of each command word
abbrev pub rules_of : Word → List Rule
rules_of Link = out_rule ∷ option_rule (codes "systems") ∷ flag_rule (codes "debug-magic") ∷ inputs_rule ∷ []
rules_of Load = option_rule (codes "machine") ∷ option_rule (codes "page") ∷ option_rule (codes "dump") ∷ operand_rule (codes "file") ∷ []
rules_of Map =
    needed_rule (codes "as") ∷ option_rule (codes "machine") ∷ option_rule (codes "page") ∷ flag_rule (codes "imports")
    ∷ operand_rule (codes "file") ∷ []
rules_of Script =
    needed_rule (codes "system") ∷ needed_rule (codes "machine") ∷ flag_rule (codes "ape") ∷ option_rule (codes "nul")
    ∷ operand_rule (codes "file") ∷ []
rules_of Assimilate = needed_rule (codes "as") ∷ option_rule (codes "machine") ∷ out_rule ∷ operand_rule (codes "file") ∷ []
rules_of Inspect = operand_rule (codes "file") ∷ []
rules_of Trial = operand_rule (codes "number") ∷ operand_rule (codes "pages") ∷ []
rules_of Bind = needed_rule (codes "at") ∷ out_rule ∷ operand_rule (codes "file") ∷ []
rules_of Bundle = out_rule ∷ needed_rule (codes "app") ∷ option_rule (codes "x86-64") ∷ option_rule (codes "aarch64") ∷ []
rules_of Stack =
    option_rule (codes "machine") ∷ option_rule (codes "page") ∷ out_rule ∷ operand_rule (codes "file") ∷ words_rule ∷ []
rules_of Audit = operand_rule (codes "file") ∷ []

-- a command with no flags for help and version
abbrev pub plain_app : List ℕ → App
plain_app name = on_top (λ s. record s { disable_help_flag = true }) (new_app name)

abbrev pub with_rules : App → List Rule → App
with_rules app [] = app
with_rules app (rule ∷ rules) = with_rules (with_rule app rule) rules

-- the `clap` command of each command word
abbrev pub app_for : Word → App
app_for word = with_rules (plain_app (name_of word)) (rules_of word)
