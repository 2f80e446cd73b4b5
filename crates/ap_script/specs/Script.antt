-- The script of a linked file (POSIX.1 Shell Command Language): it hands the file to an APE loader where the system has one,
-- and else copies it, writes the header for the system and the machine over the copy's first bytes and starts the copy. It is a
-- function of the systems that were chosen, of the embedded ELF header of each machine that an input is for, and of the place
-- and the length of the Mach-O header, each in units of eight bytes.
use Rattle.std.specs.Prelude.{ℕ, if◌then◌else◌, Bool, List, [], ◌∷◌, ◌++◌, codes, Option, Some, None}
use Rattle.std.specs.Option.{is_some}
use Rattle.std.specs.Fmt.{decimal}
use Rattle.ap_octal.specs.Statement.{statement_of}
use Rattle.ap_check.specs.declared.options.Systems.{Systems}
use Rattle.ap_check.specs.Options.{has_system}
use Rattle.ap_elf.specs.declared.machine.Machine.{Machine}
use Rattle.ap_elf.specs.declared.machine.Machine.TheVariants.{X64, A64}
use Rattle.ap_elf.specs.Machines.{is_machine}
use Rattle.ap_layout.specs.Positions.{PlacedInput}
use Rattle.ap_script.specs.Tables.{embedded_bytes}

-- the script up to the test of the system
unfoldable pub script_start : List ℕ
script_start =
    codes "if command -v ape >/dev/null 2>&1; then\nexec ape \"$0\" \"$@\"\nfi\n"
    ++ codes "m=$(uname -m)\ns=$(uname -s)\nt=\"${TMPDIR:-/tmp}/ape.$$\"\n"

-- the names that `uname -s` answers on the systems that were chosen, of those whose kernels run ELF files
abbrev pub kernels_of : Systems → List (List ℕ)
kernels_of systems =
    (if has_system systems 1 then codes "Linux" ∷ [] else [])
    ++ ((if has_system systems 2 then codes "FreeBSD" ∷ [] else [])
    ++ (if has_system systems 4 then codes "NetBSD" ∷ [] else []))

abbrev pub kernel_test : List ℕ → List ℕ
kernel_test name = codes "[ \"$s\" = " ++ (name ++ codes " ]")

-- a test where it was chosen, behind others or as the first
abbrev pub chosen_test : Bool → Bool → List ℕ → List ℕ
chosen_test chosen behind test = if chosen then (if behind then codes " || " else []) ++ test else []

-- one of some tests
abbrev pub or_tests : List (List ℕ) → List ℕ
or_tests [] = codes "[ 0 = 1 ]"
or_tests (name ∷ []) = kernel_test name
or_tests (name ∷ next ∷ names) = kernel_test name ++ (codes " || " ++ or_tests (next ∷ names))

-- the line that tests for the systems whose kernels run ELF files
unfoldable pub system_line : Systems → List ℕ
system_line systems = codes "if " ++ (or_tests (kernels_of systems) ++ codes "; then\n")

-- the line that writes so many units of eight bytes of the copy, from behind those that are skipped, over its first bytes
unfoldable pub dd_line : ℕ → ℕ → List ℕ
dd_line skip count =
    codes "dd if=\"$t\" of=\"$t\" bs=8 skip=" ++ (decimal skip ++ (codes " count=" ++ (decimal count ++ codes " conv=notrunc 2>/dev/null || exit 123\n")))

-- the lines for macOS on x86-64
unfoldable pub darwin_x64_lines : ℕ → ℕ → List ℕ
darwin_x64_lines skip count =
    codes "if [ \"$m\" = x86_64 ]; then\ncp \"$0\" \"$t\" || exit 121\nchmod 700 \"$t\" || exit 122\n"
    ++ (dd_line skip count ++ codes "exec \"$t\" \"$@\"\nfi\n")

-- the lines for macOS, with those for x86-64 where there is an input for it
unfoldable pub darwin_lines : Bool → ℕ → ℕ → List ℕ
darwin_lines x64 skip count =
    codes "if [ \"$s\" = Darwin ]; then\n" ++ ((if x64 then darwin_x64_lines skip count else []) ++ codes "exit 125\nfi\n")

-- the lines that test the system: those for macOS where it was chosen, and the one for the systems that run ELF files
unfoldable pub system_lines : Systems → Option (List ℕ) → ℕ → ℕ → List ℕ
system_lines systems x64 skip count = (if has_system systems 16 then darwin_lines (is_some x64) skip count else []) ++ system_line systems

-- the names that `uname -m` answers on a machine
abbrev pub machine_names : Machine → List ℕ × List ℕ
machine_names X64 = (codes "x86_64", codes "amd64")
machine_names A64 = (codes "aarch64", codes "arm64")

-- the lines for a machine up to the statement, and from there on
unfoldable pub machine_start : Machine → List ℕ
machine_start m =
    codes "if [ \"$m\" = " ++ ((machine_names m).0 ++ (codes " ] || [ \"$m\" = " ++ ((machine_names m).1
    ++ codes " ]; then\ncp \"$0\" \"$t\" || exit 121\nchmod 700 \"$t\" || exit 122\n")))

unfoldable pub machine_end : List ℕ
machine_end = codes " 1<>\"$t\" || exit 124\nexec \"$t\" \"$@\"\nfi\n"

-- the lines for a machine, where there is an input for it
abbrev pub machine_lines : Machine → Option (List ℕ) → List ℕ
machine_lines m None = []
machine_lines m (Some header) = machine_start m ++ (statement_of header ++ machine_end)

unfoldable pub script_end : List ℕ
script_end = codes "fi\nexit 126\n"

unfoldable pub script_of : Systems → Option (List ℕ) → Option (List ℕ) → ℕ → ℕ → List ℕ
script_of systems x64 a64 skip count =
    script_start ++ (system_lines systems x64 skip count ++ (machine_lines X64 x64 ++ (machine_lines A64 a64 ++ script_end)))

-- the embedded header of the input for a machine, by the inputs and the places of their tables
abbrev pub header_for : Machine → List PlacedInput → Option (List ℕ)
header_for m [] = None
header_for m (p ∷ ps) = if is_machine m p.input.machine then Some (embedded_bytes p.input p.table) else header_for m ps
