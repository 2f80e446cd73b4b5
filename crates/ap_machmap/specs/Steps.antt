-- The plan of a file, command by command: that of the commands that are left, behind some that gave regions and, perhaps, where the
-- program starts.
use Rattle.std.specs.Prelude.{ℕ, ◌^◌, ◌≤◌, if◌then◌else◌, Bool, true, false, List, [], ◌∷◌, ◌++◌, length, map, take, Option, Some, None, Result}
use Rattle.ap_fields.specs.FirstFault.{first_fault}
use Rattle.ap_image.specs.declared.plan.Region.{Region}
use Rattle.ap_image.specs.Plans.{Mapping, IsRegion, AreBacked, end_of}
use Rattle.ap_image.specs.Reading.{mapping_unless}
use Rattle.ap_mach.specs.declared.constants.TheConstants.{HEADER_SIZE}
use Rattle.ap_mach.specs.declared.types.MachHeader.{MachHeader}
use Rattle.ap_mach.specs.declared.types.SegmentCommand.{SegmentCommand}
use Rattle.ap_mach.specs.declared.types.CommandParts.{CommandParts}
use Rattle.ap_mach.specs.declared.fault.MachFault.{MachFault}
use Rattle.ap_mach.specs.Format.{commands_end, parts_from}
use Rattle.ap_mach.specs.MachReading.{commands_rules, is_segment, is_thread, maps, segments_of, start_of}
use Rattle.ap_machmap.specs.MachPlans.{region_of}

abbrev pub has_start : Option ℕ → Bool
has_start None = false
has_start (Some a) = true

-- where the program starts, by the commands so far or else by those that are left
abbrev pub start_or : Option ℕ → List CommandParts → ℕ
start_or None parts = start_of parts
start_or (Some a) parts = a

-- the same behind one command more
abbrev pub start_behind : Option ℕ → CommandParts → Option ℕ
start_behind None p = if is_thread p then Some p.thread.start else None
start_behind (Some a) p = Some a

-- the region that a segment and that a command gives, if any
abbrev pub region_if : SegmentCommand → List Region
region_if s = if maps s then region_of s ∷ [] else []

abbrev pub region_by : CommandParts → List Region
region_by p = if is_segment p then region_if p.segment else []

-- the plan of the commands that are left, counted from k
abbrev pub left_plan : ℕ → ℕ → ℕ → ℕ → List Region → Option ℕ → List CommandParts → Result Mapping MachFault
left_plan len end k low regions start parts =
    mapping_unless (first_fault (commands_rules len end k low (length regions) (has_start start) parts))
    (record { regions = regions ++ map region_of (segments_of parts); entry = start_or start parts })

-- the plan of a file by a header that isn't refused
abbrev pub header_plan : List ℕ → MachHeader → Result Mapping MachFault
header_plan b h = left_plan (length b) (commands_end h) 1 0 [] None (parts_from (take (commands_end h) b) HEADER_SIZE h.count)

-- regions that ascend from an address on, don't overlap, and end at or below another
abbrev pub AreBetween : ℕ → List Region → ℕ → Type 0
AreBetween low [] top = low ≤ top
AreBetween low (r ∷ regions) top = (low ≤ r.start) × IsRegion r × AreBetween (end_of r) regions top

-- what the regions so far meet, in a file of so many bytes, where the last one ends at or below `low`
pub record AreMapped (len low : ℕ) (regions : List Region) : Type 0 where
  pub ascending : AreBetween 0 regions low
  pub top : low ≤ 2 ^ 47
  pub backed : AreBacked regions len
