-- What stands in the block of a linked file, and where.
use Rattle.std.specs.Prelude.{◌≡◌, ◌≢◌, ◌⊎◌, ℕ, ◌+◌, ◌/◌, ◌<◌, ◌≤◌, List, [], ◌∷◌, ◌++◌, length, All, slice_index, Option, Some, None}
use Rattle.ap_fields.specs.Bytes.{Holds}
use Rattle.ap_octal.specs.declared.types.DdStatement.{DdStatement}
use Rattle.ap_elf.specs.declared.machine.Machine.{Machine}
use Rattle.ap_elf.specs.declared.machine.Machine.TheVariants.{X64, A64}
use Rattle.ap_check.specs.declared.options.Options.{Options}
use Rattle.ap_check.specs.Inputs.{Taken}
use Rattle.ap_layout.specs.Positions.{Positions, PlacedInput, placed_inputs}
use Rattle.ap_script.specs.Tables.{table_text}
use Rattle.ap_script.specs.Delimiter.{delimiter, delimiter_number, without_nul}
use Rattle.ap_script.specs.Script.{script_start, system_lines, machine_start, machine_lines, header_for}

-- no two inputs are for the same machine
abbrev pub MachinesDiffer : List Taken → Type 0
MachinesDiffer [] = Unit {0}
MachinesDiffer (e ∷ inputs) = All (λ f. e.machine ≢ f.machine) inputs × MachinesDiffer inputs

-- an input is one of some
abbrev pub IsOneOf : PlacedInput → List PlacedInput → Type 0
IsOneOf q [] = ⊥
IsOneOf q (p ∷ ps) = (p ≡ q) ⊎ IsOneOf q ps

-- a file has the program header table of each input at its place
abbrev pub HoldsTables : List ℕ → List PlacedInput → Type 0
HoldsTables file [] = Unit {0}
HoldsTables file (p ∷ ps) = Holds file p.table (table_text p.input p.areas) × HoldsTables file ps

-- each eight bytes of a text that follow each other hold a zero byte
abbrev pub HasZeros : List ℕ → Type 0
HasZeros text = (k : ℕ) → k + 8 ≤ length text → (i : ℕ) × (i < 8) × (slice_index text (k + i) ≡ 0)

-- a text has another as a part, as each of its lines is one
abbrev pub HasPart : List ℕ → List ℕ → Type 0
HasPart text part = (front : List ℕ) × (behind : List ℕ) × (text ≡ front ++ (part ++ behind))

-- the here-document's delimiter stands nowhere in its body, whether a shell keeps the body's NUL bytes or drops them; so no line
-- of the body ends the here-document (POSIX.1 Shell Command Language, "Here-Document")
pub record HasFreeDelimiter (body : List ℕ) : Type 0 where
  pub kept : ¬ HasPart body (delimiter (delimiter_number body))
  pub dropped : ¬ HasPart (without_nul body) (delimiter (delimiter_number body))

-- where the lines for machines begin: behind the body, the delimiter's line of 17 bytes and the script's first lines
abbrev pub machines_start : Options → List Taken → Positions → ℕ
machines_start options inputs l =
    l.body_end + (17 + (length script_start + length (system_lines options.systems (header_for X64 (placed_inputs inputs l)) (l.mach_at / 8) (l.mach_len / 8))))

-- where the statement for a machine stands
abbrev pub statement_place : Options → List Taken → Positions → Machine → ℕ
statement_place options inputs l X64 = machines_start options inputs l + length (machine_start X64)
statement_place options inputs l A64 = machines_start options inputs l + (length (machine_lines X64 (header_for X64 (placed_inputs inputs l))) + length (machine_start A64))

-- a place, where there is a header
abbrev pub place_if : Option (List ℕ) → ℕ → List ℕ
place_if None place = []
place_if (Some header) place = place ∷ []

-- where the script has its statements, that for x86-64 first
abbrev pub statement_places : Options → List Taken → Positions → List ℕ
statement_places options inputs l =
    place_if (header_for X64 (placed_inputs inputs l)) (statement_place options inputs l X64)
    ++ place_if (header_for A64 (placed_inputs inputs l)) (statement_place options inputs l A64)

-- where the script's `dd` statement stands, if an input has a Mach-O header: behind the body, the delimiter's line of 17 bytes, the
-- script's first lines, and those for macOS up to ` bs=`
abbrev pub dd_place : Positions → ℕ
dd_place l = l.body_end + (17 + (length script_start + 124))

-- and that statement, which copies the Mach-O header in blocks of eight bytes
abbrev pub script_dd : Positions → DdStatement
script_dd l = record { at = dd_place l; size = 8; skip = l.mach_at / 8; count = l.mach_len / 8 }
