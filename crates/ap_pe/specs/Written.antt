-- The headers that the linker writes: the DOS fields at the file's start, and the PE headers.
use Rattle.std.specs.Prelude.{◌≡◌, ℕ, ◌+◌, ◌-◌, ◌<◌, ◌≤◌, ◌==◌, not, if◌then◌else◌, Bool, List, [], ◌∷◌, ◌++◌, length, All, bit_and}
use Rattle.ap_fields.specs.declared.sizes.TheConstants.{PE_SPAN, MOST_LOADS}
use Rattle.ap_fields.specs.Structures.{Rows, structure}
use Rattle.ap_elf.specs.declared.constants.TheConstants.{ADDRESS_TOP}
use Rattle.ap_check.specs.declared.load.Load.{Load}
use Rattle.ap_check.specs.Inputs.{last_stop}
use Rattle.ap_layout.specs.declared.layout.Area.{Area}
use Rattle.ap_layout.specs.declared.sizes.TheConstants.{FILE_TOP}
use Rattle.ap_pe.specs.declared.constants.TheConstants.{IMAGE_NT_SIGNATURE, FILE_HEADER_SIZE, IMAGE_FILE_MACHINE_AMD64, IMAGE_FILE_FIXED, IMAGE_NT_OPTIONAL_HDR64_MAGIC, OPTIONAL_SIZE, IMAGE_NUMBEROF_DIRECTORY_ENTRIES, IMAGE_DIRECTORY_ENTRY_IMPORT, IMAGE_DIRECTORY_ENTRY_IAT, IMAGE_SUBSYSTEM_WINDOWS_CUI, IMAGE_DLLCHARACTERISTICS_NX_COMPAT, IMAGE_SCN_MEM_EXECUTE, SECTION_ALIGNMENT, FILE_ALIGNMENT, USUAL_STACK, USUAL_HEAP, USUAL_COMMIT, SYSTEM_VERSION}
use Rattle.ap_pe.specs.declared.program.Program.{Program}
use Rattle.ap_pe.specs.Format.{signature, machine, section_count, optional_size, file_flags, optional_magic, code_size, data_size, entry_point, code_base, image_base, section_alignment, file_alignment, system_version, subsystem_version, image_size, headers_size, subsystem, image_flags, stack_reserve, stack_commit, heap_reserve, heap_commit, directory_count, directory, directory_length}
use Rattle.ap_pe.specs.Sections.{Named, Fit, sections_behind, section_table}

-- the sections of a program with these loads, behind its headers
abbrev pub sections_of : ℕ → List Load → List Area → List Named
sections_of base loads areas = sections_behind base (base + PE_SPAN) loads areas

-- the address at which the last section ends
abbrev pub end_of : ℕ → List Load → ℕ
end_of base loads = last_stop SECTION_ALIGNMENT (base + PE_SPAN) loads

abbrev pub is_code : Named → Bool
is_code s = not (bit_and s.1.flags IMAGE_SCN_MEM_EXECUTE == 0)

abbrev pub is_data : Named → Bool
is_data s = bit_and s.1.flags IMAGE_SCN_MEM_EXECUTE == 0

-- how many bytes in the file the sections of a kind have
abbrev pub raw_sum : (Named → Bool) → List Named → ℕ
raw_sum test [] = 0
raw_sum test (s ∷ sections) = (if test s then s.1.raw else 0) + raw_sum test sections

-- the address of the first section that may be executed
abbrev pub first_code : List Named → ℕ
first_code [] = 0
first_code (s ∷ sections) = if is_code s then s.1.vaddr else first_code sections

-- how much of a stack is reserved
abbrev pub stack_of : Program → ℕ
stack_of p = if p.stack == 0 then USUAL_STACK else p.stack

-- the signature and the COFF file header of so many sections
abbrev pub file_rows : ℕ → Rows
file_rows count =
    (signature, IMAGE_NT_SIGNATURE)
    ∷ (machine, IMAGE_FILE_MACHINE_AMD64)
    ∷ (section_count, count)
    ∷ (optional_size, OPTIONAL_SIZE)
    ∷ (file_flags, IMAGE_FILE_FIXED)
    ∷ []

-- the optional header of a program that ends at `end`
abbrev pub optional_rows : Program → ℕ → List Named → Rows
optional_rows p end sections =
    (optional_magic, IMAGE_NT_OPTIONAL_HDR64_MAGIC)
    ∷ (code_size, raw_sum is_code sections)
    ∷ (data_size, raw_sum is_data sections)
    ∷ (entry_point, p.entry - p.base)
    ∷ (code_base, first_code sections)
    ∷ (image_base, p.base)
    ∷ (section_alignment, SECTION_ALIGNMENT)
    ∷ (file_alignment, FILE_ALIGNMENT)
    ∷ (system_version, SYSTEM_VERSION)
    ∷ (subsystem_version, SYSTEM_VERSION)
    ∷ (image_size, end - p.base)
    ∷ (headers_size, PE_SPAN)
    ∷ (subsystem, IMAGE_SUBSYSTEM_WINDOWS_CUI)
    ∷ (image_flags, IMAGE_DLLCHARACTERISTICS_NX_COMPAT)
    ∷ (stack_reserve, stack_of p)
    ∷ (stack_commit, USUAL_COMMIT)
    ∷ (heap_reserve, USUAL_HEAP)
    ∷ (heap_commit, USUAL_COMMIT)
    ∷ (directory_count, IMAGE_NUMBEROF_DIRECTORY_ENTRIES)
    ∷ (directory IMAGE_DIRECTORY_ENTRY_IMPORT, p.imports.rva)
    ∷ (directory_length IMAGE_DIRECTORY_ENTRY_IMPORT, p.imports.length)
    ∷ (directory IMAGE_DIRECTORY_ENTRY_IAT, p.slots.rva)
    ∷ (directory_length IMAGE_DIRECTORY_ENTRY_IAT, p.slots.length)
    ∷ []

unfoldable pub file_header : ℕ → List ℕ
file_header count = structure FILE_HEADER_SIZE 0 (file_rows count)

unfoldable pub optional_header : Program → ℕ → List Named → List ℕ
optional_header p end sections = structure OPTIONAL_SIZE 0 (optional_rows p end sections)

-- the headers of a program that ends at `end`, with these sections
unfoldable pub headers_with : Program → ℕ → List Named → List ℕ
headers_with p end sections = file_header (length sections) ++ (optional_header p end sections ++ section_table 1 sections)

-- the PE headers of a program whose loads have these areas
abbrev pub pe_headers : Program → List Load → List Area → List ℕ
pe_headers p loads areas = headers_with p (end_of p.base loads) (sections_of p.base loads areas)

-- what a program meets whose headers are written
pub record IsProgram (p : Program) (loads : List Load) (areas : List Area) : Type 0 where
  pub few : length loads ≤ MOST_LOADS
  pub same : length areas ≡ length loads
  pub base : p.base < ADDRESS_TOP
  pub fit : Fit p.base (p.base + PE_SPAN) loads
  pub places : All (λ x. x.file < FILE_TOP) areas
  pub from : p.base ≤ p.entry
  pub to : p.entry < end_of p.base loads
