-- What a linked file for Windows imports: what its input for x86-64 imports (PE/COFF, "The .idata Section").
use Rattle.std.specs.Prelude.{◌≡◌, ℕ, ◌+◌, List, Option, Some, None}
use Rattle.std.specs.Option.{option_map}
use Rattle.ap_fields.specs.Readings.{bytes_in}
use Rattle.ap_fields.specs.Structures.{value_at}
use Rattle.ap_elf.specs.Fields.{entries_of, loads_in}
use Rattle.ap_elf.specs.InputCell.{input_cell}
use Rattle.ap_image.specs.Cells.{Memory}
use Rattle.ap_image.specs.PlanCells.{byte_of}
use Rattle.ap_image.specs.ImportWalk.{Items, ended, items_of}
use Rattle.ap_image.specs.Imports.{imports_of}
use Rattle.ap_image.specs.declared.import_step.Ending.TheVariants as ends
use Rattle.ap_check.specs.declared.imports.ImportTable.{ImportTable}
use Rattle.ap_check.specs.Inputs.{Taken}
use Rattle.ap_check.specs.ImportRule.{table_of}
use Rattle.ap_check.specs.Windows.{base_of}
use Rattle.ap_pe.specs.declared.constants.TheConstants.{FILE_HEADER_SIZE, IMAGE_DIRECTORY_ENTRY_IMPORT}
use Rattle.ap_pe.specs.declared.types.PeHeaders.{PeHeaders}
use Rattle.ap_pe.specs.declared.program.Directory.{Directory}
use Rattle.ap_pe.specs.Format.{directory_length, headers_of}
use Rattle.ap_pe.specs.Linked.{table_directory}
use Rattle.ap_pemap.specs.PeImports as pe

-- the bytes that an input has in memory: those of its cells
abbrev pub input_memory : List ℕ → Memory
input_memory input = λ a. option_map byte_of (input_cell (bytes_in input) (loads_in (entries_of input)) a)

-- the items of the import table that symbols name, which has an end, by an image base; none where they name none
abbrev pub table_items : Memory → ℕ → Option ImportTable → Items
table_items memory base None = ended ends.Done
table_items memory base (Some t) = items_of memory base t.idata (Some t.idata_end)

-- the items that an input imports
abbrev pub input_items : List ℕ → Taken → Items
input_items input e = table_items (input_memory input) (base_of e) (table_of e.symbols)

-- what headers of a file say of its import directory table: its place, from the image base on, and its length
abbrev pub directory_by : List ℕ → PeHeaders → Directory
directory_by file h = record {
  rva = pe.table_rva file h;
  length = value_at (directory_length IMAGE_DIRECTORY_ENTRY_IMPORT) (h.at + FILE_HEADER_SIZE) file;
}

-- A file imports what an input of these bytes, taken as e, imports: its headers tell the import table that the input's symbols
-- name, or none; the walk of it over what the PE reading puts into memory, which has no end but the entry that closes the table,
-- ends there, and gives the items of the walk over the input's cells, each with its slot and its name's address; and so the
-- imports are the same, with the bytes of their names.
pub record CarriesImports (input : List ℕ) (e : Taken) (file : List ℕ) : Type 0 where
  pub directory : directory_by file (headers_of file) ≡ table_directory (base_of e) (table_of e.symbols)
  pub items : pe.items_in file ≡ input_items input e
  pub ending : (pe.items_in file).ending ≡ ends.Done
  pub imports : imports_of (pe.memory_of file) (pe.items_in file) ≡ imports_of (input_memory input) (input_items input e)
