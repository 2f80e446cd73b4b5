-- The first refusal of headers, in stages: of those whose signature stands at a place, and of those whose COFF file header is
-- known.
use Rattle.std.specs.Prelude.{ℕ, ◌+◌, ◌*◌, ◌<◌, ◌≤◌, List, length, Result}
use Rattle.ap_fields.specs.FirstFault.{first_fault}
use Rattle.ap_fields.specs.Structures.{value_at}
use Rattle.ap_elf.specs.declared.constants.TheConstants.{ADDRESS_TOP}
use Rattle.ap_pe.specs.declared.constants.TheConstants.{FILE_HEADER_SIZE, SECTION_SIZE, MOST_SECTIONS}
use Rattle.ap_pe.specs.declared.types.PeHeaders.{PeHeaders}
use Rattle.ap_pe.specs.declared.types.FileHeader.{FileHeader}
use Rattle.ap_pe.specs.declared.fault.PeFault.{PeFault}
use Rattle.ap_pe.specs.Format.{optional_magic, headers_by, headers_at, table_place}
use Rattle.ap_pe.specs.PeReading.{optional_rules, rules_at, headers_unless}

abbrev pub result_at : List ℕ → ℕ → Result PeHeaders PeFault
result_at b at = headers_unless (first_fault (rules_at b at)) (headers_at b at)

abbrev pub optional_result : List ℕ → ℕ → FileHeader → Result PeHeaders PeFault
optional_result b at f =
    headers_unless (first_fault (optional_rules (length b) (value_at optional_magic (at + FILE_HEADER_SIZE) b) (headers_by at f b (at + FILE_HEADER_SIZE))))
    (headers_by at f b (at + FILE_HEADER_SIZE))

-- what headers meet that aren't refused, in a file of so many bytes
pub record AreTaken (size : ℕ) (h : PeHeaders) : Type 0 where
  pub few : h.count ≤ MOST_SECTIONS
  pub table : table_place h + SECTION_SIZE * h.count ≤ size
  pub base : h.base < ADDRESS_TOP
  pub align : 4096 ≤ h.section_align
