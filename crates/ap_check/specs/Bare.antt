-- An input before its symbols are looked up, by a file's bytes: rules 1 to 21, and what is taken.
use Rattle.std.specs.Prelude.{◌≡◌, ℕ, List, length, Option, None}
use Rattle.ap_files.specs.Files.{FileMap}
use Rattle.ap_files.specs.Reads.{HasFile}
use Rattle.ap_fields.specs.FirstFault.{Rules, first_fault}
use Rattle.ap_elf.specs.Fields.{header_of, entries_of}
use Rattle.ap_check.specs.declared.fault.Fault.{Fault}
use Rattle.ap_check.specs.declared.bare.Bare.{Bare}
use Rattle.ap_check.specs.Rules.{bare_rules}
use Rattle.ap_check.specs.Inputs.{taken_of, no_symbols}

-- rules 1 to 21
unfoldable pub bare_rules_of : ℕ → List ℕ → Rules Fault
bare_rules_of n b = bare_rules n (length b) (header_of b) (entries_of b)

-- the header, and what is taken but for the symbols
unfoldable pub bare_of : ℕ → List ℕ → Bare
bare_of n b = record { header = header_of b; input = taken_of n (length b) (header_of b) (entries_of b) no_symbols }

-- where files are told, this one is there, rules 1 to 21 hold of it, and this is what is taken
abbrev pub IsBare : Option FileMap → List ℕ → ℕ → Bare → Type 0
IsBare kept name n v = HasFile kept name (λ b. (first_fault (bare_rules_of n b) ≡ None) × (v ≡ bare_of n b))
