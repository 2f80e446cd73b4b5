-- The headers that the linker writes for a program (loader.h, `mach_header_64`, `thread_command`), and what they claim of a linked
-- file's block.
use Rattle.std.specs.Prelude.{◌≡◌, ℕ, ◌+◌, ◌*◌, ◌≤◌, List, [], ◌∷◌, ◌++◌, length, All}
use Rattle.ap_fields.specs.declared.sizes.TheConstants.{MOST_LOADS}
use Rattle.ap_fields.specs.Structures.{Rows, structure}
use Rattle.ap_claims.specs.declared.owner.Owner.TheVariants.{Mach}
use Rattle.ap_claims.specs.Lists.{Claim}
use Rattle.ap_elf.specs.declared.constants.TheConstants.{ADDRESS_TOP}
use Rattle.ap_check.specs.declared.load.Load.{Load}
use Rattle.ap_layout.specs.declared.layout.Area.{Area}
use Rattle.ap_mach.specs.declared.constants.TheConstants.{MH_MAGIC_64, CPU_TYPE_X86_64, CPU_SUBTYPE_X86_64_ALL, MH_EXECUTE, MH_NOUNDEFS, HEADER_SIZE, LC_UNIXTHREAD, SEGMENT_SIZE, THREAD_SIZE, X86_THREAD_STATE64, X86_THREAD_STATE64_COUNT, ZERO_NAME}
use Rattle.ap_mach.specs.declared.types.SegmentCommand.{SegmentCommand}
use Rattle.ap_mach.specs.Format.{magic, cpu_type, cpu_subtype, file_type, command_count, commands_size, header_flags, command_kind, command_size, state_flavor, state_count, start_register}
use Rattle.ap_mach.specs.Segments.{zero_segment, load_segments, segment_command, segment_table}

-- how many bytes the commands of so many loads have
abbrev pub written_size : ℕ → ℕ
written_size loads = SEGMENT_SIZE * (loads + 1) + THREAD_SIZE

-- the header of a program of so many loads
abbrev pub header_rows : ℕ → Rows
header_rows loads =
    (magic, MH_MAGIC_64)
    ∷ (cpu_type, CPU_TYPE_X86_64)
    ∷ (cpu_subtype, CPU_SUBTYPE_X86_64_ALL)
    ∷ (file_type, MH_EXECUTE)
    ∷ (command_count, loads + 2)
    ∷ (commands_size, written_size loads)
    ∷ (header_flags, MH_NOUNDEFS)
    ∷ []

-- the thread command of a program that starts at an address, its other registers 0
abbrev pub thread_rows : ℕ → Rows
thread_rows start =
    (command_kind, LC_UNIXTHREAD)
    ∷ (command_size, THREAD_SIZE)
    ∷ (state_flavor, X86_THREAD_STATE64)
    ∷ (state_count, X86_THREAD_STATE64_COUNT)
    ∷ (start_register, start)
    ∷ []

unfoldable pub header : ℕ → List ℕ
header loads = structure HEADER_SIZE 0 (header_rows loads)

unfoldable pub thread_command : ℕ → List ℕ
thread_command start = structure THREAD_SIZE 0 (thread_rows start)

-- the headers of a program that starts at an address, with a segment in front and those of its loads
unfoldable pub headers_with : ℕ → SegmentCommand → List SegmentCommand → List ℕ
headers_with start zero segments =
    header (length segments) ++ (segment_command ZERO_NAME 0 zero ++ (segment_table 1 segments ++ thread_command start))

-- the headers of a program whose loads have these areas
abbrev pub mach_headers : ℕ → List Load → List Area → List ℕ
mach_headers start loads areas = headers_with start (zero_segment loads) (load_segments loads areas)

-- what a program meets whose headers are written
pub record IsProgram (loads : List Load) (areas : List Area) : Type 0 where
  pub few : length loads ≤ MOST_LOADS
  pub same : length areas ≡ length loads
  pub tops : All (λ p. p.vaddr + p.memsz ≤ ADDRESS_TOP) loads

-- what they claim of a block, from a place on
abbrev pub mach_claims : ℕ → ℕ → List Load → List Area → List Claim
mach_claims at start loads areas = record { owner = Mach; at = at; bytes = mach_headers start loads areas } ∷ []
