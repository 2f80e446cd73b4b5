use Rattle.std.proofs.Common.{◌≡◌, ◌+◌, ◌^◌, ◌<◌, ◌++◌, length, take, drop, map}
use Rattle.ap_fields.specs.FirstFault.{first_fault}
use Rattle.ap_pe.specs.PeReading.{sections_rules, end_behind, headers_extent}
use Rattle.ap_pemap.specs.PePlans.{region_of}
use Rattle.ap_pemap.proofs.sections.push_sections.Given as goal

abbrev pub invariant-loop-s : goal.invariant-loop-s
invariant-loop-s l = record {
  count : l.k ≡ l.s-index + 1;
  rules : first_fault (sections_rules l.size l.h.section_align 1 (headers_extent l.h) l.sections) ≡ first_fault (sections_rules l.size l.h.section_align l.k l.end (drop l.s-index l.sections));
  made : l.regions.items ≡ l.fn.regions.items ++ map (region_of l.h.base l.h.section_align) (take l.s-index l.sections);
  stop : end_behind l.h.section_align (headers_extent l.h) l.sections ≡ end_behind l.h.section_align l.end (drop l.s-index l.sections);
  few : length l.regions.items ≡ l.s-index + 1;
  small : l.end < 2 ^ 34;
}
