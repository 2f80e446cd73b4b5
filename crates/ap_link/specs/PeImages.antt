-- What the PE reading finds in a linked file for Windows: the image of the input whose PE headers it has, and beside it the
-- headers and the gaps between loads.
use Rattle.std.specs.Prelude.{◌≡◌, ◌⊎◌, ℕ, ◌+◌, ◌-◌, ◌%◌, ◌^◌, ◌<◌, ◌≤◌, List, [], ◌∷◌, Option, Some}
use Rattle.ap_fields.specs.Bytes.{Holds}
use Rattle.ap_fields.specs.Granules.{floor_of, ceil_of}
use Rattle.ap_fields.specs.Readings.{Cell, bytes_in}
use Rattle.ap_fields.specs.declared.sizes.TheConstants.{PE_SPAN}
use Rattle.ap_elf.specs.declared.types.Entry.{Entry}
use Rattle.ap_elf.specs.Fields.{loads_in}
use Rattle.ap_elf.specs.declared.machine.Machine.TheVariants.{X64}
use Rattle.ap_check.specs.declared.load.Load.{Load}
use Rattle.ap_check.specs.Inputs.{Taken, first_start, last_stop}
use Rattle.ap_layout.specs.declared.layout.Area.{Area}
use Rattle.ap_pe.specs.declared.constants.TheConstants.{SECTION_ALIGNMENT, HEADERS_PLACE}
use Rattle.ap_pe.specs.declared.program.Program.{Program}
use Rattle.ap_pe.specs.Claims.{mark_bytes, place_bytes}
use Rattle.ap_pe.specs.Format.{dos_mark, dos_headers}
use Rattle.ap_pe.specs.Written.{pe_headers}
use Rattle.ap_pe.specs.PeReading.{pe_reading}
use Rattle.ap_link.specs.Same.{Same}
use Rattle.ap_link.specs.LinkedIn.{IsLinkedIn}

-- an address is in no load's granules
abbrev pub IsClear : List Load → ℕ → Type 0
IsClear [] a = Unit {0}
IsClear (p ∷ loads) a = ((floor_of p.vaddr SECTION_ALIGNMENT ≤ a) → (a < ceil_of (p.vaddr + p.memsz) SECTION_ALIGNMENT) → ⊥) × IsClear loads a

-- what the PE reading may show beside an input, readable alone: the file's first bytes from the image base on, and behind them
-- zeros in the gaps up to the end of the last load's granules
abbrev pub pe_else : (ℕ → ℕ) → ℕ → List Load → ℕ → Option Cell → Type 0
pe_else shown base loads a found =
    ((base ≤ a) × (a < base + PE_SPAN) × (found ≡ Some (shown (a - base), 4)))
    ⊎ ((base + PE_SPAN ≤ a) × (a < last_stop SECTION_ALIGNMENT 0 loads) × IsClear loads a × (found ≡ Some (0, 4)))

-- an x86-64 input of these program headers and bytes was linked into a file, with these areas and PE headers: the image base
-- stands in front of the loads, with room for the headers, and the program starts in the image
pub record IsPeIn (e : Taken) (entries : List Entry) (byte : ℕ → ℕ) (areas : List Area) (at : ℕ) (p : Program) (file : List ℕ) : Type 0 where
  pub linked : IsLinkedIn e entries byte areas at file
  pub machine : e.machine ≡ X64
  pub even : p.base % 65536 ≡ 0
  pub room : p.base + PE_SPAN ≤ first_start SECTION_ALIGNMENT e.loads
  pub span : last_stop SECTION_ALIGNMENT 0 e.loads ≤ p.base + 2 ^ 31
  pub from : p.base ≤ p.entry
  pub to : p.entry < last_stop SECTION_ALIGNMENT 0 e.loads
  pub mark : Holds file dos_mark.0 mark_bytes
  pub place : Holds file dos_headers.0 place_bytes
  pub headers : Holds file HEADERS_PLACE (pe_headers p e.loads areas)

-- the PE reading of the file
abbrev pub PeIsSame : Type 0
PeIsSame = (e : Taken) (entries : List Entry) (byte : ℕ → ℕ) (areas : List Area) (at : ℕ) (p : Program) (file : List ℕ)
    → IsPeIn e entries byte areas at p file
    → Same SECTION_ALIGNMENT byte (loads_in entries) p.entry (pe_else (bytes_in file) p.base e.loads) (pe_reading file)
