-- The formats by which commands read files.
use Rattle.std.specs.Prelude.{ℕ, Bool, false, Option, Some, None}
use Rattle.ap_elf.specs.declared.machine.Machine.{Machine}
use Rattle.ap_words.specs.declared.command.Command.{Command}
use Rattle.ap_words.specs.declared.command.Command.TheVariants.{Link, Load, Map, Script, Assimilate, Inspect, Trial, Bind, Bundle, Stack, Audit}
use Rattle.ap_words.specs.declared.command.Form.{Form as WordsForm}
use Rattle.ap_words.specs.declared.command.Form.TheVariants as words
use Rattle.ap_run.specs.declared.format.Form.{Form}
use Rattle.ap_run.specs.declared.format.Form.TheVariants.{Ape, Elf, Mach, Pe}
use Rattle.ap_run.specs.declared.format.Format.{Format}

abbrev pub form_of : WordsForm → Form
form_of words.Pe = Pe
form_of words.Mach = Mach
form_of words.Elf = Elf

abbrev pub load_format : Machine → ℕ → Format
load_format machine page = record { form = Ape; machine = machine; page = page; imports = false }

abbrev pub map_format : WordsForm → Machine → ℕ → Bool → Format
map_format form machine page imports = record { form = form_of form; machine = machine; page = page; imports = imports }

-- that of a command that shows a file
abbrev pub format_of : Command → Option Format
format_of (Load machine page dump file) = Some (load_format machine page)
format_of (Map form machine page imports file) = Some (map_format form machine page imports)
format_of (Link out options names) = None
format_of (Script system machine ape nul file) = None
format_of (Assimilate form machine out file) = None
format_of (Inspect file) = None
format_of (Trial number pages) = None
format_of (Bind base out file) = None
format_of (Bundle out app x64 a64) = None
format_of (Stack machine page out file words) = None
format_of (Audit file) = None
