-- How long the PE headers are: the signature, the COFF header and the optional header, and a section header for each load and
-- for each gap in front of one (PE/COFF, "Section Table").
use Rattle.std.specs.Prelude.{ℕ, ◌+◌, ◌*◌, nat_lt, if◌then◌else◌, List, [], ◌∷◌, Option, Some, None}
use Rattle.ap_fields.specs.Granules.{floor_of, ceil_of}
use Rattle.ap_fields.specs.declared.sizes.TheConstants.{PE_SPAN}
use Rattle.ap_elf.specs.Machines.{granule_of}
use Rattle.ap_check.specs.declared.load.Load.{Load}
use Rattle.ap_check.specs.declared.options.Options.{Options}
use Rattle.ap_check.specs.Options.{for_windows}
use Rattle.ap_check.specs.Inputs.{Taken}
use Rattle.ap_check.specs.Windows.{x64_of, base_of}
use Rattle.ap_layout.specs.declared.sizes.TheConstants.{PE_HEADERS, SECTION_HEADER}

-- how many sections loads have, where what stands in front of them ends at an address
abbrev pub section_count : ℕ → ℕ → List Load → ℕ
section_count g end [] = 0
section_count g end (p ∷ loads) =
    (if nat_lt end (floor_of p.vaddr g) then 2 else 1) + section_count g (ceil_of (p.vaddr + p.memsz) g) loads

-- the bytes of the PE headers of an input, where there is one
abbrev pub headers_length : Option Taken → ℕ
headers_length None = 0
headers_length (Some e) = PE_HEADERS + SECTION_HEADER * section_count (granule_of e.machine) (base_of e + PE_SPAN) e.loads

-- the bytes of the PE headers of a linked file
abbrev pub pe_length : Options → List Taken → ℕ
pe_length options inputs = if for_windows options then headers_length (x64_of inputs) else 0
