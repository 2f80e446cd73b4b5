-- Rule 28: the import table of an input (PE/COFF, "The .idata Section"), where its symbols name one. The walk over it is that of
-- the format; the parts, their order and their limits are this project's own.
use Rattle.std.specs.Prelude.{◌≡◌, ℕ, ◌+◌, ◌-◌, ◌^◌, ◌&&◌, nat_le, nat_lt, if◌then◌else◌, Bool, true, false, List, [], ◌∷◌, ◌++◌, Option, Some, None, Result, Ok, Err}
use Rattle.ap_fields.specs.FirstFault.{Rules, first_fault}
use Rattle.ap_fields.specs.Readings.{bytes_in}
use Rattle.ap_files.specs.Files.{FileState, ForFile}
use Rattle.ap_files.specs.Reads.{ReadFails}
use Rattle.ap_image.specs.Cells.{Memory, CellsState, Unreadable}
use Rattle.ap_image.specs.ImportWalk.{items_of}
use Rattle.ap_image.specs.declared.import_step.WalkCause.{WalkCause}
use Rattle.ap_image.specs.declared.import_step.WalkCause.TheVariants.{NoCell, NoEnd, Long, Many}
use Rattle.ap_image.specs.declared.import_step.Ending.{Ending}
use Rattle.ap_image.specs.declared.import_step.Ending.TheVariants as end
use Rattle.ap_check.specs.declared.fault.Fault.{Fault}
use Rattle.ap_check.specs.declared.load.Load.{Load}
use Rattle.ap_check.specs.declared.symbols.Symbols.{Symbols}
use Rattle.ap_check.specs.declared.imports.ImportTable.{ImportTable}
use Rattle.ap_check.specs.declared.end.CheckEnd.{CheckEnd}
use Rattle.ap_check.specs.declared.end.CheckEnd.TheVariants.{Rule, ReadFault}
use Rattle.ap_check.specs.Rules.{fault_of}
use Rattle.ap_check.specs.Inputs.{Taken, has_address, in_part}

-- the byte of a load at one of its addresses: the file's in the file part, 0 behind it
abbrev pub load_byte : (ℕ → ℕ) → Load → ℕ → ℕ
load_byte byte p a = if nat_lt (a - p.vaddr) p.filesz then byte (p.offset + (a - p.vaddr)) else 0

-- the bytes of an input at addresses, by its file's bytes and its loads
abbrev pub memory_of : (ℕ → ℕ) → List Load → Memory
memory_of byte [] = λ a. None
memory_of byte (p ∷ loads) = λ a. if has_address p a then Some (load_byte byte p a) else memory_of byte loads a

-- where the symbols name the import table and the import address tables
abbrev pub table_by : Option ℕ → Option ℕ → Option ℕ → Option ℕ → Option ImportTable
table_by (Some idata) (Some idata_end) (Some iat) (Some iat_end) = Some (record { idata = idata; idata_end = idata_end; iat = iat; iat_end = iat_end })
table_by _ _ _ _ = None

abbrev pub table_of : Symbols → Option ImportTable
table_of s = table_by s.idata s.idata_end s.iat s.iat_end

-- at least so many addresses and at most 2^20 are between two, and they lie in the file part of one load
abbrev pub are_between : ℕ → ℕ → ℕ → List Load → Bool
are_between least from to loads = nat_le (from + least) to && (nat_le (to - from) (2 ^ 20) && in_part from (to - from) loads)

-- an import table and import address tables that stand
pub record AreStanding (loads : List Load) (t : ImportTable) : Type 0 where
  pub table : are_between 20 t.idata t.idata_end loads ≡ true
  pub slots : are_between 1 t.iat t.iat_end loads ≡ true

-- parts 1 and 2: the import table, which has room for an entry, and the import address tables
abbrev pub range_rules : ℕ → List Load → ImportTable → Rules Fault
range_rules n loads t =
    (are_between 20 t.idata t.idata_end loads, fault_of n 28 1 t.idata)
    ∷ (are_between 1 t.iat t.iat_end loads, fault_of n 28 2 t.iat)
    ∷ []

-- parts 3 to 6: the walk meets no missing byte, the entry that closes the table, no name of more than 1024 bytes, and no more
-- than 4096 items
abbrev pub part_of : WalkCause → ℕ
part_of NoCell = 3
part_of NoEnd = 4
part_of Long = 5
part_of Many = 6

abbrev pub walk_rules : ℕ → Ending → Rules Fault
walk_rules n end.Done = []
walk_rules n (end.Fault f) = (false, fault_of n 28 (part_of f.cause) f.at) ∷ []

abbrev pub walked_rules : ℕ → ℕ → Memory → ImportTable → Rules Fault
walked_rules n base memory t = walk_rules n (items_of memory base t.idata (Some t.idata_end)).ending

-- rule 28, of the bytes that an input has in memory
abbrev pub table_rules : ℕ → List Load → ℕ → Memory → Option ImportTable → Rules Fault
table_rules n loads base memory None = []
table_rules n loads base memory (Some t) = range_rules n loads t ++ walked_rules n base memory t

-- rule 28, of what was taken of an input, its image base and its file's bytes
unfoldable pub import_rules : Taken → ℕ → List ℕ → Rules Fault
import_rules i base b = table_rules i.number i.loads base (memory_of (bytes_in b) i.loads) (table_of i.symbols)

-- A check of bytes in memory answers by its rules, where they are told, and their state is as before; or one could not be read.
abbrev pub ChecksCells : CellsState → CellsState → (Memory → Rules Fault) → Result (Unit {0}) CheckEnd → Type 0
ChecksCells old new rules (Ok done) = (new ≡ old) × ((memory : Memory) → old.told ≡ Some memory → first_fault (rules memory) ≡ None)
ChecksCells old new rules (Err (Rule fault)) = (new ≡ old) × ((memory : Memory) → old.told ≡ Some memory → first_fault (rules memory) ≡ Some fault)
ChecksCells old new rules (Err ReadFault) = Unreadable old new

-- A check of a file answers by its rules, where it is told, and the state is as before; or a read failed.
abbrev pub ChecksTold : {T : Type 0} → FileState → FileState → List ℕ → (List ℕ → Rules Fault) → Result T CheckEnd → Type 0
ChecksTold old new name rules (Ok done) = (new ≡ old) × ForFile old.kept name (λ b. first_fault (rules b) ≡ None)
ChecksTold old new name rules (Err (Rule fault)) = (new ≡ old) × ForFile old.kept name (λ b. first_fault (rules b) ≡ Some fault)
ChecksTold old new name rules (Err ReadFault) = ReadFails old new
