-- What a PE32+ file imports: the import walk over the memory that the PE reading gives it (PE/COFF, "The .idata Section").
use Rattle.std.specs.Prelude.{◌≡◌, ℕ, ◌+◌, ◌==◌, nat_lt, if◌then◌else◌, List, None, Vec, Result, Ok, Err}
use Rattle.std.specs.Option.{option_map}
use Rattle.std.specs.declared.alloc.Global.{Global}
use Rattle.ap_fields.specs.Readings.{bytes_in}
use Rattle.ap_fields.specs.Structures.{value_at}
use Rattle.ap_image.specs.Cells.{Memory}
use Rattle.ap_image.specs.PlanCells.{byte_of}
use Rattle.ap_image.specs.ImportWalk.{Items, ended, items_of}
use Rattle.ap_image.specs.Imports.{imports_of}
use Rattle.ap_image.specs.declared.import_step.Ending.TheVariants as ends
use Rattle.ap_image.specs.declared.import_item.Import.{Import}
use Rattle.ap_pe.specs.declared.constants.TheConstants.{FILE_HEADER_SIZE, IMAGE_DIRECTORY_ENTRY_IMPORT}
use Rattle.ap_pe.specs.declared.types.PeHeaders.{PeHeaders}
use Rattle.ap_pe.specs.Format.{directory, headers_of, sections_in}
use Rattle.ap_pe.specs.PeReading.{pe_cell}
use Rattle.ap_pemap.specs.declared.imported.ImportFault.{ImportFault}
use Rattle.ap_pemap.specs.declared.imported.ImportFault.TheVariants.{Walk, NoMemory}

-- the address of the import directory table less the image base, or 0 where there is none
abbrev pub table_rva : List ℕ → PeHeaders → ℕ
table_rva b h =
    if nat_lt IMAGE_DIRECTORY_ENTRY_IMPORT h.directories then value_at (directory IMAGE_DIRECTORY_ENTRY_IMPORT) (h.at + FILE_HEADER_SIZE) b else 0

-- the bytes of the file's memory
abbrev pub memory_of : List ℕ → Memory
memory_of b = λ a. option_map byte_of (pe_cell (bytes_in b) (headers_of b) (sections_in b (headers_of b)) a)

-- the items of the table, which has no end but its last entry
abbrev pub items_at : Memory → ℕ → ℕ → Items
items_at memory base rva = if rva == 0 then ended ends.Done else items_of memory base (base + rva) None

abbrev pub items_in : List ℕ → Items
items_in b = items_at (memory_of b) (headers_of b).base (table_rva b (headers_of b))

-- the imports of items, by how these end
abbrev pub AreImports : Memory → Items → Result (Vec Import Global) ImportFault → Type 0
AreImports memory items (Ok imports) = (items.ending ≡ ends.Done) × (imports.items ≡ imports_of memory items)
AreImports memory items (Err (Walk f)) = items.ending ≡ ends.Fault f
AreImports memory items (Err NoMemory) = Unit {0}

-- the imports of a file
abbrev pub Imports : List ℕ → Result (Vec Import Global) ImportFault → Type 0
Imports b result = AreImports (memory_of b) (items_in b) result
