-- What has to hold of a command besides: the systems and the pages fit, numbers are in their ranges, and the file to make is
-- none of the files that are read. Files are compared by their names alone.
use Rattle.std.specs.Prelude.{ℕ, ◌^◌, ◌&&◌, ◌||◌, not, nat_le, nat_lt, Bool, true, false, List, length, Option, Some, None}
use Rattle.std.specs.List.{list_any}
use Rattle.std.specs.Str.{bytes_eq}
use Rattle.ap_check.specs.declared.options.Options.{Options}
use Rattle.ap_check.specs.Options.{for_windows}
use Rattle.ap_words.specs.declared.command.Command.{Command}
use Rattle.ap_words.specs.declared.command.Command.TheVariants.{Link, Load, Map, Script, Assimilate, Inspect, Trial, Bind, Bundle, Stack, Audit}
use Rattle.ap_words.specs.declared.command.Form.{Form}
use Rattle.ap_words.specs.declared.command.Form.TheVariants.{Pe, Mach, Elf}
use Rattle.ap_words.specs.Names.{has_page}

abbrev pub is_pe : Form → Bool
is_pe Pe = true
is_pe Mach = false
is_pe Elf = false

abbrev pub is_other : List ℕ → Option (List ℕ) → Bool
is_other out None = true
is_other out (Some file) = not (bytes_eq out file)

abbrev pub is_none_of : List ℕ → List (List ℕ) → Bool
is_none_of out names = not (list_any (λ name. bytes_eq name out) names)

-- one or two inputs
abbrev pub fit : List ℕ → List (List ℕ) → Bool
fit out names = nat_le 1 (length names) && nat_le (length names) 2 && is_none_of out names

-- a file for Windows has no magic for debuggers
abbrev pub is_magic : Options → Bool
is_magic options = not (options.debug && for_windows options)

-- the conditions of each command
abbrev pub conditions_are_met : Command → Bool
conditions_are_met (Link out options names) = is_magic options && fit out names
conditions_are_met (Load machine page dump file) = has_page machine page && is_other file dump
conditions_are_met (Map form machine page imports file) = has_page machine page && (not imports || is_pe form)
conditions_are_met (Script system machine ape nul file) = true
conditions_are_met (Assimilate form machine out file) = not (is_pe form) && not (bytes_eq out file)
conditions_are_met (Inspect file) = true
conditions_are_met (Trial number pages) = nat_le 1 pages && nat_le pages 16384
conditions_are_met (Bind base out file) = nat_lt base (2 ^ 63) && not (bytes_eq out file)
conditions_are_met (Bundle out app x64 a64) = not (bytes_eq out app) && is_other out x64 && is_other out a64
conditions_are_met (Stack machine page out file words) = has_page machine page && not (bytes_eq out file)
conditions_are_met (Audit file) = true
