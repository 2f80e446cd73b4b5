-- The block of a linked file, its first 16384 bytes: a shell script that holds the PE headers and the program header tables as the
-- body of a here-document, and a second half for the Mach-O header.
use Rattle.std.specs.Prelude.{ℕ, ◌-◌, ◌/◌, if◌then◌else◌, List, ◌++◌, length, replicate, codes}
use Rattle.std.specs.List.{flat_map}
use Rattle.ap_fields.specs.declared.sizes.TheConstants.{BLOCK, WINDOW}
use Rattle.ap_fields.specs.Bytes.{zeros}
use Rattle.ap_elf.specs.declared.machine.Machine.TheVariants.{X64, A64}
use Rattle.ap_check.specs.declared.options.Options.{Options}
use Rattle.ap_check.specs.Options.{for_windows}
use Rattle.ap_check.specs.Inputs.{Taken}
use Rattle.ap_layout.specs.Positions.{Positions, PlacedInput, placed_inputs}
use Rattle.ap_pe.specs.Linked.{headers_place, pe_text}
use Rattle.ap_mach.specs.Linked.{mach_text}
use Rattle.ap_script.specs.Delimiter.{delimiter, delimiter_number}
use Rattle.ap_script.specs.Tables.{table_text}
use Rattle.ap_script.specs.Script.{script_of, header_for}

-- what an APE loader looks for at a file's start (APE specification): the mark that Windows takes too, that for debuggers, or that
-- of a script alone
abbrev pub magic : Options → List ℕ
magic options = if for_windows options then codes "MZqFpD='" else (if options.debug then codes "APEDBG='" else codes "jartsr='")

-- the line that the magic begins
abbrev pub magic_line : Options → List ℕ
magic_line options = magic options ++ codes "\n"

-- the end of the line that opens the here-document
abbrev pub opening_line : ℕ → List ℕ
opening_line number = codes "' <<'" ++ (delimiter number ++ codes "'\n")

-- bytes 0 to 85: an assignment, whose text holds zeros and where the PE headers stand, with a here-document behind it
unfoldable pub opening : Options → ℕ → List ℕ
opening options number = magic_line options ++ (zeros 51 ++ (headers_place options ++ opening_line number))

-- the program header tables of some inputs, one behind the other
abbrev pub tables_text : List PlacedInput → List ℕ
tables_text ps = flat_map (λ p. table_text p.input p.areas) ps

-- the here-document's body, from 86 on: zeros up to 96, the PE headers, and the tables
unfoldable pub body_of : Options → List Taken → Positions → List ℕ
body_of options inputs l = zeros 10 ++ (pe_text options inputs l ++ tables_text (placed_inputs inputs l))

-- the line that ends the here-document
unfoldable pub closing : ℕ → List ℕ
closing number = codes "\n" ++ (delimiter number ++ codes "\n")

-- the script, by the inputs and the positions
abbrev pub script_for : Options → List Taken → Positions → List ℕ
script_for options inputs l = script_of options.systems (header_for X64 (placed_inputs inputs l)) (header_for A64 (placed_inputs inputs l)) (l.mach_at / 8) (l.mach_len / 8)

unfoldable pub shell_text : Options → List Taken → Positions → List ℕ
shell_text options inputs l =
    let number = delimiter_number (body_of options inputs l) in
    opening options number ++ (body_of options inputs l ++ (closing number ++ script_for options inputs l))

unfoldable pub spaces : ℕ → List ℕ
spaces n = replicate n 32

-- what stands in the first half behind the body: the delimiter's line, the script, and spaces
abbrev pub ending_of : Options → List Taken → Positions → List ℕ
ending_of options inputs l =
    closing (delimiter_number (body_of options inputs l)) ++ (script_for options inputs l ++ spaces (WINDOW - length (shell_text options inputs l)))

-- the second half: the Mach-O header, where there is one, and zeros
unfoldable pub second_half : Options → List Taken → Positions → List ℕ
second_half options inputs l = mach_text options inputs l ++ zeros (BLOCK - WINDOW - length (mach_text options inputs l))

-- the first half ends in spaces
unfoldable pub block_of : Options → List Taken → Positions → List ℕ
block_of options inputs l =
    shell_text options inputs l ++ (spaces (WINDOW - length (shell_text options inputs l)) ++ second_half options inputs l)
