-- The command of each command word, by what `clap` gives its options and operands.
use Rattle.std.specs.Prelude.{ℕ, Bool, List, [], codes, Option, Some, unwrap_or}
use Rattle.std.specs.Option.{option_map, option_and_then}
use Rattle.std.specs.Str.{bytes_eq}
use Rattle.clap.specs.Words.{Row, all_of, first_of}
use Rattle.ap_elf.specs.declared.machine.Machine.{Machine}
use Rattle.ap_words.specs.declared.command.Command.{Command}
use Rattle.ap_words.specs.declared.command.Command.TheVariants.{Link, Load, Map, Script, Assimilate, Inspect, Trial, Bind, Bundle, Stack, Audit}
use Rattle.ap_words.specs.declared.command.Form.{Form}
use Rattle.ap_words.specs.declared.word.Word.{Word}
use Rattle.ap_words.specs.declared.word.Word.TheVariants as word
use Rattle.ap_words.specs.Names.{machine_or_usual, page_or_usual, form_named, nul_or_usual}
use Rattle.ap_words.specs.Systems.{systems_or_usual}
use Rattle.ap_words.specs.Numbers.{number_in, small_in}

-- the value of an option or an operand that has to stand
abbrev pub text_of : List ℕ → List Row → List ℕ
text_of id rows = unwrap_or (first_of id rows) []

-- the values of an operand
abbrev pub texts_of : List ℕ → List Row → List (List ℕ)
texts_of id rows = unwrap_or (all_of id rows) []

-- a flag stands where its text is `true`
abbrev pub is_set : List ℕ → List Row → Bool
is_set id rows = bytes_eq (text_of id rows) (codes "true")

abbrev pub machine_of : List Row → Option Machine
machine_of rows = machine_or_usual (first_of (codes "machine") rows)

abbrev pub page_of : Machine → List Row → Option ℕ
page_of machine rows = page_or_usual machine (first_of (codes "page") rows)

abbrev pub form_of : List Row → Option Form
form_of rows = form_named (text_of (codes "as") rows)

abbrev pub link_of : List Row → Option Command
link_of rows =
    option_map (λ systems. Link (text_of (codes "out") rows) (record { systems = systems; debug = is_set (codes "debug-magic") rows })
    (texts_of (codes "in") rows)) (systems_or_usual (first_of (codes "systems") rows))

abbrev pub load_of : List Row → Option Command
load_of rows =
    option_and_then (λ machine. option_map (λ page. Load machine page (first_of (codes "dump") rows) (text_of (codes "file") rows))
    (page_of machine rows)) (machine_of rows)

abbrev pub map_of : List Row → Option Command
map_of rows =
    option_and_then (λ form. option_and_then (λ machine. option_map
    (λ page. Map form machine page (is_set (codes "imports") rows) (text_of (codes "file") rows))
    (page_of machine rows)) (machine_of rows)) (form_of rows)

abbrev pub script_of : List Row → Option Command
script_of rows =
    option_map (λ nul. Script (text_of (codes "system") rows) (text_of (codes "machine") rows) (is_set (codes "ape") rows) nul
    (text_of (codes "file") rows)) (nul_or_usual (first_of (codes "nul") rows))

abbrev pub assimilate_of : List Row → Option Command
assimilate_of rows =
    option_and_then (λ form. option_map (λ machine. Assimilate form machine (text_of (codes "out") rows) (text_of (codes "file") rows))
    (machine_of rows)) (form_of rows)

abbrev pub inspect_of : List Row → Option Command
inspect_of rows = Some (Inspect (text_of (codes "file") rows))

abbrev pub trial_of : List Row → Option Command
trial_of rows =
    option_and_then (λ number. option_map (λ pages. Trial number pages) (small_in 20 (text_of (codes "pages") rows)))
    (number_in 20 (text_of (codes "number") rows))

abbrev pub bind_of : List Row → Option Command
bind_of rows =
    option_map (λ base. Bind base (text_of (codes "out") rows) (text_of (codes "file") rows)) (number_in 19 (text_of (codes "at") rows))

abbrev pub bundle_of : List Row → Option Command
bundle_of rows =
    Some (Bundle (text_of (codes "out") rows) (text_of (codes "app") rows) (first_of (codes "x86-64") rows) (first_of (codes "aarch64") rows))

abbrev pub stack_of : List Row → Option Command
stack_of rows =
    option_and_then (λ machine. option_map
    (λ page. Stack machine page (text_of (codes "out") rows) (text_of (codes "file") rows) (texts_of (codes "word") rows))
    (page_of machine rows)) (machine_of rows)

abbrev pub audit_of : List Row → Option Command
audit_of rows = Some (Audit (text_of (codes "file") rows))

-- the command of a command word; none where a name or a number isn't one
abbrev pub fields_of : Word → List Row → Option Command
fields_of word.Link rows = link_of rows
fields_of word.Load rows = load_of rows
fields_of word.Map rows = map_of rows
fields_of word.Script rows = script_of rows
fields_of word.Assimilate rows = assimilate_of rows
fields_of word.Inspect rows = inspect_of rows
fields_of word.Trial rows = trial_of rows
fields_of word.Bind rows = bind_of rows
fields_of word.Bundle rows = bundle_of rows
fields_of word.Stack rows = stack_of rows
fields_of word.Audit rows = audit_of rows
