-- What stands of a linked file, and what the linker answers.
use Rattle.std.specs.Prelude.{◌≡◌, ◌↔◌, ℕ, ◌+◌, ◌/◌, ◌<◌, true, List, length, Contains, IfSome, Vec, Result, Ok, Err, Option, Some, None}
use Rattle.std.specs.declared.alloc.Global.{Global}
use Rattle.ap_fields.specs.Bytes.{Holds, over}
use Rattle.ap_fields.specs.Readings.{Cell, MemoryImage, bytes_in}
use Rattle.ap_claims.specs.Files.{IsFile, Agree}
use Rattle.ap_elf.specs.Fields.{header_of, entries_of, loads_in}
use Rattle.ap_elf.specs.ElfReading.{elf_reading}
use Rattle.ap_check.specs.declared.options.Options.{Options}
use Rattle.ap_elf.specs.declared.machine.Machine.TheVariants.{X64, A64}
use Rattle.ap_check.specs.Options.{for_windows, for_mac}
use Rattle.ap_check.specs.Windows.{base_of, pe_entry_of}
use Rattle.ap_check.specs.Mac.{mach_entry_of}
use Rattle.ap_check.specs.Inputs.{Taken, input_of}
use Rattle.ap_check.specs.Both.{first_fault_of_both}
use Rattle.ap_elf.specs.Machines.{IsPage, granule_of, number_of}
use Rattle.ap_octal.specs.DdEffect.{dd_effect}
use Rattle.ap_octal.specs.Embedded.{Opens}
use Rattle.ap_octal.specs.Statement.{statement_of}
use Rattle.ap_loader.specs.ApeReading.{ape_reading}
use Rattle.ap_assim.specs.Assimilated.{BecomesElf, BecomesMach}
use Rattle.ap_layout.specs.Positions.{tables_start, table_length}
use Rattle.ap_pe.specs.declared.constants.TheConstants.{SECTION_ALIGNMENT}
use Rattle.ap_pe.specs.PeReading.{pe_reading}
use Rattle.ap_mach.specs.declared.constants.TheConstants.{SEGMENT_ALIGNMENT}
use Rattle.ap_mach.specs.MachReading.{mach_reading}
use Rattle.ap_mach.specs.Linked.{mach_text}
use Rattle.ap_script.specs.Tables.{embedded_bytes}
use Rattle.ap_script.specs.Blocks.{body_of}
use Rattle.ap_script.specs.Stands.{HasFreeDelimiter, HasZeros, statement_place, statement_places}
use Rattle.ap_link.specs.declared.fault.LinkFault.{LinkFault}
use Rattle.ap_link.specs.declared.fault.LinkFault.TheVariants as fault
use Rattle.ap_link.specs.Same.{Same, nothing_else}
use Rattle.ap_link.specs.PeImages.{pe_else}
use Rattle.ap_link.specs.Imported.{CarriesImports}
use Rattle.ap_link.specs.Dispatched.{Dispatches}
use Rattle.ap_link.specs.LinkedClaims.{inputs_in, positions_in, linked_claims, linked_of}

-- the Mach-O header, which is empty where there is none
abbrev pub mach_in : Options → List ℕ → Option (List ℕ) → List ℕ
mach_in options a b = mach_text options (inputs_in a b) (positions_in options a b)

-- the here-document's body
abbrev pub body_in : Options → List ℕ → Option (List ℕ) → List ℕ
body_in options a b = body_of options (inputs_in a b) (positions_in options a b)

-- what a reading finds is the image of an input of these bytes, laid out by a granule, that starts at an address; `Else` says what
-- may stand beside its loads
abbrev pub Finds : {Fault : Type 0} → ℕ → List ℕ → ℕ → (ℕ → Option Cell → Type 0) → Result MemoryImage Fault → Type 0
Finds g input start Else found = Same g (bytes_in input) (loads_in (entries_of input)) start Else found

-- What stands in a file of an input of these bytes, taken as e. `table` and `statement` are the places of its program header table
-- and of its statement, and `mach_header` is the file's Mach-O header.
pub record Carries (options : Options) (input : List ℕ) (e : Taken) (table statement : ℕ) (mach_header file : List ℕ) : Type 0 where
  -- the statement of its embedded header stands at its place
  pub text : Holds file statement (statement_of (embedded_bytes e table))
  -- the ELF file that the file becomes for its machine is the file with that header over its first bytes
  pub elf_file : BecomesElf (number_of e.machine) file (Ok (over file (embedded_bytes e table)))
  -- in that, the ELF reading finds the input, at each page size
  pub elf : (page : ℕ) → IsPage e.machine page
      → Finds (granule_of e.machine) input (header_of input).e_entry nothing_else (elf_reading (number_of e.machine) page (over file (embedded_bytes e table)))
  -- in the file itself, the APE reading finds it, at each page size
  pub ape : (page : ℕ) → IsPage e.machine page
      → Finds (granule_of e.machine) input (header_of input).e_entry nothing_else (ape_reading (number_of e.machine) page file)
  -- where Windows was chosen, the PE reading finds it, with its entry for Windows, and headers and gaps between loads beside it
  pub pe : for_windows options ≡ true → e.machine ≡ X64
      → Finds SECTION_ALIGNMENT input (pe_entry_of e) (pe_else (bytes_in file) (base_of e) e.loads) (pe_reading file)
  -- and the file imports what the input imports
  pub imports : for_windows options ≡ true → e.machine ≡ X64 → CarriesImports input e file
  -- where macOS was chosen, the Mach-O file that the file becomes is the file with the Mach-O header over its first bytes
  pub mach_file : for_mac options ≡ true → e.machine ≡ X64 → BecomesMach file (Ok (over file mach_header))
  -- in that, the Mach-O reading finds the input, with its entry for macOS
  pub mach : for_mac options ≡ true → e.machine ≡ X64
      → Finds SEGMENT_ALIGNMENT input (mach_entry_of e) nothing_else (mach_reading (over file mach_header))

abbrev pub CarriesFirst : Options → List ℕ → Option (List ℕ) → List ℕ → Type 0
CarriesFirst options a b file =
    let e = input_of 1 a in
    Carries options a e (tables_start options (inputs_in a b)) (statement_place options (inputs_in a b) (positions_in options a b) e.machine) (mach_in options a b) file

abbrev pub CarriesSecond : Options → List ℕ → List ℕ → List ℕ → Type 0
CarriesSecond options a b file =
    let e = input_of 2 b in
    Carries options b e (tables_start options (inputs_in a (Some b)) + table_length (input_of 1 a)) (statement_place options (inputs_in a (Some b)) (positions_in options a (Some b)) e.machine) (mach_in options a (Some b)) file

-- where the script's statements stand
abbrev pub places_in : Options → List ℕ → Option (List ℕ) → List ℕ
places_in options a b = statement_places options (inputs_in a b) (positions_in options a b)

-- What a linked file of one or two inputs is, and what stands in it.
pub record IsLinked (options : Options) (a : List ℕ) (b : Option (List ℕ)) (file : List ℕ) : Type 0 where
  -- its bytes and its size
  pub bytes : file ≡ linked_of options a b
  pub size : length file ≡ (positions_in options a b).total
  -- the here-document's body, which has a zero in each eight bytes, and no line that ends it
  pub body : Holds file 86 (body_in options a b)
  pub zeros : HasZeros (body_in options a b)
  pub delimiter : HasFreeDelimiter (body_in options a b)
  -- `printf '` stands in its window where the script has statements and nowhere else: one for each input, that for x86-64 first
  pub only : (k : ℕ) → Opens file k ↔ Contains (places_in options a b) k
  pub count : length (places_in options a b) ≡ length (inputs_in a b)
  pub order : statement_place options (inputs_in a b) (positions_in options a b) X64 < statement_place options (inputs_in a b) (positions_in options a b) A64
  -- what stands in it of each input
  pub first : CarriesFirst options a b file
  pub second : IfSome b (λ c. CarriesSecond options a c file)
  -- what its script does, and that `dd`, as the script calls it, writes the Mach-O header over the first bytes
  pub script : Dispatches options (inputs_in a b) (positions_in options a b) file
  pub moved : dd_effect true 8 ((positions_in options a b).mach_at / 8) ((positions_in options a b).mach_len / 8) file file ≡ over file (mach_in options a b)
  -- it is the file of its claims, which agree where they meet
  pub claims : IsFile (positions_in options a b).total (linked_claims options a b) file
  pub agree : Agree (linked_claims options a b)

-- the linked file where all rules hold, unless memory runs out, else the fault of the first that doesn't
abbrev pub LinkAnswers : Options → Result (Vec ℕ Global) LinkFault → List ℕ → Option (List ℕ) → Type 0
LinkAnswers options (Ok file) a b = (first_fault_of_both options a b ≡ None) × IsLinked options a b file.items
LinkAnswers options (Err (fault.Rule broken)) a b = first_fault_of_both options a b ≡ Some broken
LinkAnswers options (Err fault.NoMemory) a b = first_fault_of_both options a b ≡ None
