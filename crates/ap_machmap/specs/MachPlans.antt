-- The plan by which a Mach-O program is mapped: a region for each segment that maps something (loader.h, `segment_command_64`),
-- and the entry.
use Rattle.std.specs.Prelude.{ℕ, ◌==◌, if◌then◌else◌, List, map, Result}
use Rattle.ap_fields.specs.FirstFault.{first_fault}
use Rattle.ap_image.specs.declared.plan.Region.{Region}
use Rattle.ap_image.specs.Plans.{Mapping}
use Rattle.ap_image.specs.Reading.{mapping_unless}
use Rattle.ap_mach.specs.declared.types.SegmentCommand.{SegmentCommand}
use Rattle.ap_mach.specs.declared.types.CommandParts.{CommandParts}
use Rattle.ap_mach.specs.declared.fault.MachFault.{MachFault}
use Rattle.ap_mach.specs.Format.{parts_in}
use Rattle.ap_mach.specs.MachReading.{mach_rules, permissions_of, segments_of, start_of}

-- the region of a segment
unfoldable pub region_of : SegmentCommand → Region
region_of s = record {
  start = s.vmaddr;
  span = s.vmsize;
  backed = s.filesize;
  at = if s.filesize == 0 then 0 else s.fileoff;
  perms = record { 0 = permissions_of s };
}

abbrev pub mapping_of : List CommandParts → Mapping
mapping_of parts = record { regions = map region_of (segments_of parts); entry = start_of parts }

-- the plan of a file
abbrev pub mach_plan : List ℕ → Result Mapping MachFault
mach_plan b = mapping_unless (first_fault (mach_rules b)) (mapping_of (parts_in b))
