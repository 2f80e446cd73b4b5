-- The Mach-O reading: what a Mach-O program for x86-64 puts into memory, its segments (loader.h, `segment_command_64`), and where
-- it starts, register 16 of its thread command. It is a function of the file's length, its header, its commands and, for the
-- cells, its bytes by their places.
use Rattle.std.specs.Prelude.{ℕ, ◌+◌, ◌-◌, ◌%◌, ◌==◌, ◌&&◌, ◌||◌, not, nat_le, nat_lt, if◌then◌else◌, Bool, false, List, [], ◌∷◌, ◌++◌, length, Option, Some, None, Result, MatchResult, bit_and, ◌≡◌}
use Rattle.ap_fields.specs.FirstFault.{Rules, first_fault}
use Rattle.ap_fields.specs.Readings.{Cell, MemoryImage, image_unless, bytes_in}
use Rattle.ap_elf.specs.declared.constants.TheConstants.{ADDRESS_TOP}
use Rattle.ap_image.specs.declared.plan.TheConstants.{MOST_REGIONS}
use Rattle.ap_mach.specs.declared.constants.TheConstants.{MH_MAGIC_64, CPU_TYPE_X86_64, MH_EXECUTE, HEADER_SIZE, MOST_COMMANDS, COMMAND_SIZE, COMMAND_ALIGNMENT, LC_SEGMENT_64, LC_UNIXTHREAD, LC_LOAD_DYLINKER, LC_MAIN, SEGMENT_SIZE, SEGMENT_ALIGNMENT, VM_PROT_READ, VM_PROT_WRITE, VM_PROT_EXECUTE, VM_PROT_ALL, X86_THREAD_STATE64, X86_THREAD_STATE64_COUNT, THREAD_SIZE}
use Rattle.ap_mach.specs.declared.types.MachHeader.{MachHeader}
use Rattle.ap_mach.specs.declared.types.Command.{Command}
use Rattle.ap_mach.specs.declared.types.SegmentCommand.{SegmentCommand}
use Rattle.ap_mach.specs.declared.types.ThreadCommand.{ThreadCommand}
use Rattle.ap_mach.specs.declared.types.CommandParts.{CommandParts}
use Rattle.ap_mach.specs.declared.fault.MachFault.{MachFault}
use Rattle.ap_mach.specs.declared.fault.MachCause.{MachCause}
use Rattle.ap_mach.specs.declared.fault.MachCause.TheVariants.{Short, Magic, Cpu, FileType, Count, CommandRange, CommandSize, Dynamic, SegmentSize, Aligned, Sizes, Range, Top, Order, Many, Thread, NoThread}
use Rattle.ap_mach.specs.Format.{header_of, commands_end, parts_in}

abbrev pub refusal : MachCause → ℕ → ℕ → MachFault
refusal cause item value = record { cause = cause; item = item; value = value }

-- a check answers by its rules: Ok where all hold, else the first fault
abbrev pub Checks : {T : Type 0} → Result T MachFault → Rules MachFault → Type 0
Checks result rules = MatchResult result (λ _. first_fault rules ≡ None) (λ f. first_fault rules ≡ Some f)

-- of the header
abbrev pub header_rules : ℕ → MachHeader → Rules MachFault
header_rules len h =
    (nat_le HEADER_SIZE len, refusal Short 0 len)
    ∷ (h.magic == MH_MAGIC_64, refusal Magic 0 h.magic)
    ∷ (h.cpu == CPU_TYPE_X86_64, refusal Cpu 0 h.cpu)
    ∷ (h.kind == MH_EXECUTE, refusal FileType 0 h.kind)
    ∷ (nat_le h.count MOST_COMMANDS, refusal Count 0 h.count)
    ∷ (nat_le (commands_end h) len, refusal CommandRange 0 h.size)
    ∷ []

-- whether a command may have its size, where the commands end at `end`
abbrev pub is_whole : ℕ → Command → Bool
is_whole end c =
    nat_le (c.at + COMMAND_SIZE) end && nat_le COMMAND_SIZE c.size && c.size % COMMAND_ALIGNMENT == 0 && nat_le (c.at + c.size) end

abbrev pub is_dynamic : Command → Bool
is_dynamic c = c.kind == LC_MAIN || c.kind == LC_LOAD_DYLINKER

abbrev pub is_aligned : SegmentCommand → Bool
is_aligned s =
    s.vmaddr % SEGMENT_ALIGNMENT == 0 && s.vmsize % SEGMENT_ALIGNMENT == 0 && s.fileoff % SEGMENT_ALIGNMENT == 0

-- whether a segment maps something
abbrev pub maps : SegmentCommand → Bool
maps s = not (bit_and s.initprot VM_PROT_ALL == 0) && not (s.vmsize == 0)

-- of the segment command number k, which has so many bytes, where n segments before it map something, the last up to `low`
abbrev pub segment_rules : ℕ → ℕ → ℕ → ℕ → ℕ → SegmentCommand → Rules MachFault
segment_rules len k low n size s =
    (nat_le SEGMENT_SIZE size, refusal SegmentSize k size)
    ∷ (is_aligned s, refusal Aligned k s.vmaddr)
    ∷ (nat_le s.filesize s.vmsize, refusal Sizes k s.filesize)
    ∷ (nat_le (s.fileoff + s.filesize) len, refusal Range k s.fileoff)
    ∷ (nat_le (s.vmaddr + s.vmsize) ADDRESS_TOP, refusal Top k s.vmaddr)
    ∷ (not (maps s) || nat_le low s.vmaddr, refusal Order k s.vmaddr)
    ∷ (not (maps s) || nat_lt n MOST_REGIONS, refusal Many k MOST_REGIONS)
    ∷ []

-- whether a thread command, which has so many bytes, has the registers of x86-64
abbrev pub has_registers : ℕ → ThreadCommand → Bool
has_registers size t =
    nat_le THREAD_SIZE size && t.flavor == X86_THREAD_STATE64 && t.count == X86_THREAD_STATE64_COUNT

-- of the thread command number k, where there was one before or not
abbrev pub thread_rules : ℕ → Bool → ℕ → ThreadCommand → Rules MachFault
thread_rules k before size t = (has_registers size t && not before, refusal Thread k size) ∷ []

abbrev pub is_segment : CommandParts → Bool
is_segment p = p.front.kind == LC_SEGMENT_64

abbrev pub is_thread : CommandParts → Bool
is_thread p = p.front.kind == LC_UNIXTHREAD

-- of its fields, by its kind
abbrev pub kind_rules : ℕ → ℕ → ℕ → ℕ → Bool → CommandParts → Rules MachFault
kind_rules len k low n before p =
    if is_segment p then segment_rules len k low n p.front.size p.segment
    else (if is_thread p then thread_rules k before p.front.size p.thread else [])

-- of the command number k, whatever its kind, where the commands end at `end`
abbrev pub front_rules : ℕ → ℕ → Command → Rules MachFault
front_rules end k c =
    (is_whole end c, refusal CommandSize k c.at) ∷ (not (is_dynamic c), refusal Dynamic k c.kind) ∷ []

abbrev pub command_rules : ℕ → ℕ → ℕ → ℕ → ℕ → Bool → CommandParts → Rules MachFault
command_rules len end k low n before p = front_rules end k p.front ++ kind_rules len k low n before p

-- where the last segment that maps something ends, and how many there are, behind a segment and behind a command
abbrev pub low_after : ℕ → SegmentCommand → ℕ
low_after low s = if maps s then s.vmaddr + s.vmsize else low

abbrev pub low_behind : ℕ → CommandParts → ℕ
low_behind low p = if is_segment p then low_after low p.segment else low

abbrev pub count_behind : ℕ → CommandParts → ℕ
count_behind n p = if is_segment p && maps p.segment then n + 1 else n

-- of the commands, counted from k; behind them there is to have been a thread command
abbrev pub commands_rules : ℕ → ℕ → ℕ → ℕ → ℕ → Bool → List CommandParts → Rules MachFault
commands_rules len end k low n before [] = (before, refusal NoThread 0 0) ∷ []
commands_rules len end k low n before (p ∷ parts) =
    command_rules len end k low n before p
    ++ commands_rules len end (k + 1) (low_behind low p) (count_behind n p) (before || is_thread p) parts

abbrev pub mach_rules : List ℕ → Rules MachFault
mach_rules b =
    header_rules (length b) (header_of b)
    ++ commands_rules (length b) (commands_end (header_of b)) 1 0 0 false (parts_in b)

-- the segments that map something
abbrev pub segments_of : List CommandParts → List SegmentCommand
segments_of [] = []
segments_of (p ∷ parts) = if is_segment p && maps p.segment then p.segment ∷ segments_of parts else segments_of parts

-- where the first thread command starts the program
abbrev pub start_of : List CommandParts → ℕ
start_of [] = 0
start_of (p ∷ parts) = if is_thread p then p.thread.start else start_of parts

-- permissions by the bits of initprot: 1 execute, 2 write, 4 read
abbrev pub bit_if : ℕ → ℕ → ℕ → ℕ
bit_if flags bit x = if bit_and flags bit == 0 then 0 else x

abbrev pub permissions_of : SegmentCommand → ℕ
permissions_of s = bit_if s.initprot VM_PROT_EXECUTE 1 + (bit_if s.initprot VM_PROT_WRITE 2 + bit_if s.initprot VM_PROT_READ 4)

abbrev pub has_address : SegmentCommand → ℕ → Bool
has_address s a = nat_le s.vmaddr a && nat_lt a (s.vmaddr + s.vmsize)

-- the byte at an address of a segment, counted from its start: the file's as far as the segment has bytes there, and 0 behind
abbrev pub segment_byte : (ℕ → ℕ) → SegmentCommand → ℕ → ℕ
segment_byte byte s k = if nat_lt k s.filesize then byte (s.fileoff + k) else 0

-- the cell at an address, by the segment that has it
abbrev pub segment_cell : (ℕ → ℕ) → List SegmentCommand → ℕ → Option Cell
segment_cell byte [] a = None
segment_cell byte (s ∷ segments) a =
    if has_address s a then Some (segment_byte byte s (a - s.vmaddr), permissions_of s) else segment_cell byte segments a

-- the reading of a file whose bytes in memory come from elsewhere
abbrev pub mach_reading_by : (ℕ → ℕ) → List ℕ → Result MemoryImage MachFault
mach_reading_by byte b =
    image_unless (first_fault (mach_rules b))
    (record { entry = start_of (parts_in b); cell = segment_cell byte (segments_of (parts_in b)) })

-- the reading of a file
abbrev pub mach_reading : List ℕ → Result MemoryImage MachFault
mach_reading b = mach_reading_by (bytes_in b) b
