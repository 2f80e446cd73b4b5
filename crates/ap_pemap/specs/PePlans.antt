-- The plan by which a PE32+ file is mapped: a region for its headers and one for each section (PE/COFF, "Section Table"), and
-- the entry.
use Rattle.std.specs.Prelude.{ℕ, ◌+◌, ◌==◌, min, if◌then◌else◌, List, ◌∷◌, map, Result}
use Rattle.ap_fields.specs.FirstFault.{first_fault}
use Rattle.ap_image.specs.declared.plan.Region.{Region}
use Rattle.ap_image.specs.Plans.{Mapping}
use Rattle.ap_image.specs.Reading.{mapping_unless}
use Rattle.ap_pe.specs.declared.types.PeHeaders.{PeHeaders}
use Rattle.ap_pe.specs.declared.types.PeSection.{PeSection}
use Rattle.ap_pe.specs.declared.fault.PeFault.{PeFault}
use Rattle.ap_pe.specs.Format.{headers_of, sections_in}
use Rattle.ap_pe.specs.PeReading.{extent_of, headers_extent, permissions_of, mapping_rules, pe_rules}

-- how many addresses of a section show the file's bytes
abbrev pub backed_of : ℕ → PeSection → ℕ
backed_of align s = if s.at == 0 then 0 else min s.raw (extent_of align s)

-- the region of a section
unfoldable pub region_of : ℕ → ℕ → PeSection → Region
region_of base align s = record {
  start = base + s.vaddr;
  span = extent_of align s;
  backed = backed_of align s;
  at = if s.raw == 0 then 0 else s.at;
  perms = record { 0 = permissions_of s };
}

-- the region of the headers, which can be read
unfoldable pub headers_region : PeHeaders → Region
headers_region h = record { start = h.base; span = headers_extent h; backed = h.headers; at = 0; perms = record { 0 = 4 } }

abbrev pub regions_of : PeHeaders → List PeSection → List Region
regions_of h sections = headers_region h ∷ map (region_of h.base h.section_align) sections

abbrev pub mapping_of : PeHeaders → List PeSection → Mapping
mapping_of h sections = record { regions = regions_of h sections; entry = h.base + h.entry }

-- the plan of headers that aren't refused and of sections, in a file of so many bytes
abbrev pub mapped_plan : ℕ → PeHeaders → List PeSection → Result Mapping PeFault
mapped_plan len h sections = mapping_unless (first_fault (mapping_rules len h sections)) (mapping_of h sections)

-- the plan of a file
abbrev pub pe_plan : List ℕ → Result Mapping PeFault
pe_plan b = mapping_unless (first_fault (pe_rules b (headers_of b) (sections_in b (headers_of b)))) (mapping_of (headers_of b) (sections_in b (headers_of b)))
