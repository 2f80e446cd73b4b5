-- The segments that the linker writes: one that keeps free what stands in front of the first load, and one for each load, which
-- maps its granules and shows its area (loader.h, `segment_command_64`).
use Rattle.std.specs.Prelude.{ℕ, ◌+◌, ◌-◌, ◌*◌, ◌/◌, ◌%◌, ◌^◌, List, [], ◌∷◌, ◌++◌}
use Rattle.ap_fields.specs.Granules.{floor_of, ceil_of}
use Rattle.ap_fields.specs.Structures.{Rows, structure}
use Rattle.ap_elf.specs.declared.constants.TheConstants.{PF_R, PF_W, PF_X}
use Rattle.ap_check.specs.declared.load.Load.{Load}
use Rattle.ap_check.specs.Inputs.{first_start}
use Rattle.ap_layout.specs.declared.layout.Area.{Area}
use Rattle.ap_mach.specs.declared.constants.TheConstants.{LC_SEGMENT_64, SEGMENT_SIZE, SEGMENT_ALIGNMENT, VM_PROT_READ, VM_PROT_WRITE, VM_PROT_EXECUTE, VM_PROT_ALL, LOAD_NAME}
use Rattle.ap_mach.specs.declared.types.SegmentCommand.{SegmentCommand}
use Rattle.ap_mach.specs.Format.{command_kind, command_size, segment_name, memory_address, memory_size, file_offset, file_size, most_protection, first_protection}
use Rattle.ap_mach.specs.MachReading.{bit_if}

-- the bits of initprot by the permissions of a load
abbrev pub protection_of : ℕ → ℕ
protection_of perms = bit_if perms PF_R VM_PROT_READ + (bit_if perms PF_W VM_PROT_WRITE + bit_if perms PF_X VM_PROT_EXECUTE)

-- the segment of a load that has an area
unfoldable pub load_segment : Load → Area → SegmentCommand
load_segment p x = record {
  vmaddr = floor_of p.vaddr SEGMENT_ALIGNMENT;
  vmsize = ceil_of (p.vaddr + p.memsz) SEGMENT_ALIGNMENT - floor_of p.vaddr SEGMENT_ALIGNMENT;
  fileoff = x.file;
  filesize = x.len;
  initprot = protection_of p.perms.0;
}

-- the segment in front of the first load, of which nothing may be done
unfoldable pub zero_segment : List Load → SegmentCommand
zero_segment loads = record { vmaddr = 0; vmsize = first_start SEGMENT_ALIGNMENT loads; fileoff = 0; filesize = 0; initprot = 0 }

-- the segments of loads that have these areas
abbrev pub load_segments : List Load → List Area → List SegmentCommand
load_segments [] areas = []
load_segments (p ∷ loads) [] = []
load_segments (p ∷ loads) (x ∷ areas) = load_segment p x ∷ load_segments loads areas

-- a load's name as a number: five letters, and its number in two digits
abbrev pub load_name : ℕ → ℕ
load_name k = LOAD_NAME + 2 ^ 40 * (48 + k / 10 + 256 * (48 + k % 10))

-- a segment command, with a name and the most that may be done with the memory
abbrev pub segment_rows : ℕ → ℕ → SegmentCommand → Rows
segment_rows name most s =
    (command_kind, LC_SEGMENT_64)
    ∷ (command_size, SEGMENT_SIZE)
    ∷ (segment_name, name)
    ∷ (memory_address, s.vmaddr)
    ∷ (memory_size, s.vmsize)
    ∷ (file_offset, s.fileoff)
    ∷ (file_size, s.filesize)
    ∷ (most_protection, most)
    ∷ (first_protection, s.initprot)
    ∷ []

unfoldable pub segment_command : ℕ → ℕ → SegmentCommand → List ℕ
segment_command name most s = structure SEGMENT_SIZE 0 (segment_rows name most s)

-- the segment commands of loads, counted from k
abbrev pub segment_table : ℕ → List SegmentCommand → List ℕ
segment_table k [] = []
segment_table k (s ∷ segments) = segment_command (load_name k) VM_PROT_ALL s ++ segment_table (k + 1) segments
