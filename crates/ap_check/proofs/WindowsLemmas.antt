-- What stands where the rules for Windows hold, and checks of rules that need a file's bytes behind others.
use Rattle.std.proofs.Common.{◌≡◌, ℕ, ◌+◌, ◌%◌, ◌≤◌, ◌==◌, ◌&&◌, nat_le, Bool, true, false, cond, List, [], ◌∷◌, ◌++◌, length, Option, Some, None, Result, Ok, Err, refl, sym, ap, ◌∙◌, subst, arith}
use Rattle.std.specs.Prelude.{◌^◌, IfSome, IsSomeAnd}
use Rattle.std.specs.Option.{is_some}
use Rattle.std.proofs.lemmas.Bool.{and_parts, leb-true}
use Rattle.std.proofs.lemmas.Bool.Decides.{nat_tests}
use Rattle.ap_fields.specs.Granules.{floor_of}
use Rattle.ap_fields.specs.FirstFault.{Rules, first_fault}
use Rattle.ap_fields.proofs.FirstFaults.{none-append, some-append, append-none}
use Rattle.ap_files.specs.Files.{FileState}
use Rattle.ap_files.specs.Reads.{HasSize}
use Rattle.ap_files.specs.Slices.{slice_state}
use Rattle.ap_files.proofs.SliceLemmas.{slice_sized}
use Rattle.ap_elf.specs.declared.machine.Machine.TheVariants.{X64}
use Rattle.ap_elf.specs.Machines.{granule_of, is_machine}
use Rattle.ap_elf.proofs.Machines.{is_machine-same}
use Rattle.ap_check.specs.declared.fault.Fault.{Fault}
use Rattle.ap_check.specs.declared.load.Load.{Load}
use Rattle.ap_check.specs.declared.options.Options.{Options}
use Rattle.ap_check.specs.declared.end.CheckEnd.{CheckEnd}
use Rattle.ap_check.specs.declared.end.CheckEnd.TheVariants.{Rule, ReadFault}
use Rattle.ap_check.specs.Options.{for_windows}
use Rattle.ap_check.specs.Rules.{fault_of, Checks}
use Rattle.ap_check.specs.Inputs.{Taken, Meets, AreLoads, can_start, first_start}
use Rattle.ap_fields.specs.Readings.{bytes_in}
use Rattle.ap_image.specs.Cells.{Memory}
use Rattle.ap_check.specs.declared.imports.ImportTable.{ImportTable}
use Rattle.ap_check.specs.ImportRule.{memory_of, table_of, are_between, AreStanding, range_rules, walked_rules, table_rules, import_rules, ChecksTold}
use Rattle.ap_check.specs.Windows.{x64_of, pe_entry_of, loads_start, base_of, base_holds, has_room, pe_entry_rules, base_rules, import_symbols_rules, image_rules, x64_rules, windows_rules, MeetsWindows, IsReady, AreReady}
use Rattle.ap_check.proofs.Held.{held}

-- ---- an input whose rules hold

base-held : (e : Taken) → first_fault (image_rules e) ≡ None → base_holds e ≡ true
unfolding image_rules
base-held e none =
    let later = append-none (pe_entry_rules e) (base_rules e ++ import_symbols_rules e) none in
    let base = append-none (base_rules e) (import_symbols_rules e) later.1 in
    (held (base_holds e) (fault_of e.number 26 0 (base_of e)) [] base.0).0

entry-held : (e : Taken) → first_fault (image_rules e) ≡ None → can_start (pe_entry_of e) e.loads ≡ true
unfolding image_rules
entry-held e none =
    let first = append-none (pe_entry_rules e) (base_rules e ++ import_symbols_rules e) none in
    let one = held (is_some e.symbols.pe_entry && can_start (pe_entry_of e) e.loads) _ [] first.0 in
    (and_parts (is_some e.symbols.pe_entry) (can_start (pe_entry_of e) e.loads) one.0).1

pub image-meets : (e : Taken) (at : ℕ) → e.machine ≡ X64 → first_fault (image_rules e) ≡ None → IfSome (table_of e.symbols) (AreStanding e.loads) → at ≡ base_of e → IsReady at e
image-meets e at machine none standing is =
    let base = base_of e in
    let a = and_parts (base % 65536 == 0) (nat_le 65536 base && has_room e base) (base-held e none) in
    let b = and_parts (nat_le 65536 base) (has_room e base) a.1 in
    let c = and_parts (nat_le (base + 8192) (loads_start e)) _ b.1 in
    record {
      meets = record {
        machine = machine;
        entry = entry-held e none;
        granule = grind (arith, nat_tests, a.0);
        least = leb-true 65536 base b.0;
        room = leb-true (base + 8192) (loads_start e) c.0;
        span = leb-true _ _ c.1;
        imports = standing;
      };
      base = is;
    }

start-top : (g size low : ℕ) (loads : List Load) → AreLoads g size low loads → first_start g loads ≤ 2 ^ 47
start-top g size low [] are = omega arith
start-top g size low (p ∷ loads) are =
    let top = are.0.top in
    let down : floor_of p.vaddr g ≤ p.vaddr = grind arith in
    omega arith

-- its image base is an address
pub base-low : (e : Taken) (at : ℕ) → Meets e → first_fault (image_rules e) ≡ None → at ≡ base_of e → at ≤ 2 ^ 48
base-low e at meets none is =
    let base = base_of e in
    let a = and_parts (base % 65536 == 0) (nat_le 65536 base && has_room e base) (base-held e none) in
    let b = and_parts (nat_le 65536 base) (has_room e base) a.1 in
    let room = leb-true (base + 8192) (loads_start e) (and_parts (nat_le (base + 8192) (loads_start e)) _ b.1).0 in
    let top = start-top (granule_of e.machine) e.size 0 e.loads meets.loads in
    omega arith

-- ---- rules behind others, of which some need a file's bytes

-- the end of a check whose rules need none
abbrev check_end : {T : Type 0} → Result T Fault → Result T CheckEnd
check_end (Ok v) = Ok v
check_end (Err f) = Err (Rule f)

-- one of the first is broken
pub told-early : (T : Type 0) (s : FileState) (name : List ℕ) (front : Rules Fault) (rules : List ℕ → Rules Fault) (f : Fault) → first_fault front ≡ Some f → ChecksTold {T = T} s s name (λ b. front ++ rules b) (Err (Rule f))
told-early T s name front rules f broken = (refl, λ m b told at. some-append front (rules b) f broken)

-- none is
pub told-later : (T : Type 0) (old new : FileState) (name : List ℕ) (front : Rules Fault) (rules : List ℕ → Rules Fault) (result : Result T CheckEnd) → first_fault front ≡ None → ChecksTold {T = T} old new name rules result
    → ChecksTold {T = T} old new name (λ b. front ++ rules b) result
told-later T old new name front rules (Ok v) none h = (h.0, λ m b told at. none-append front (rules b) none ∙ h.1 m b told at)
told-later T old new name front rules (Err (Rule f)) none h = (h.0, λ m b told at. none-append front (rules b) none ∙ h.1 m b told at)
told-later T old new name front rules (Err ReadFault) none h = h

-- the same rules, and the same end of another value
pub told-as : (T : Type 0) (old new : FileState) (name : List ℕ) (rules others : List ℕ → Rules Fault) (result : Result T CheckEnd) → ((b : List ℕ) → others b ≡ rules b) → ChecksTold {T = T} old new name rules result → ChecksTold {T = T} old new name others result
told-as T old new name rules others (Ok v) same h = (h.0, λ m b told at. ap first_fault (same b) ∙ h.1 m b told at)
told-as T old new name rules others (Err (Rule f)) same h = (h.0, λ m b told at. ap first_fault (same b) ∙ h.1 m b told at)
told-as T old new name rules others (Err ReadFault) same h = h

pub told-end : (S T : Type 0) (old new : FileState) (name : List ℕ) (rules : List ℕ → Rules Fault) (end : CheckEnd) → ChecksTold {T = S} old new name rules (Err end) → ChecksTold {T = T} old new name rules (Err end)
told-end S T old new name rules (Rule f) h = h
told-end S T old new name rules ReadFault h = h

-- and rules that need none, behind them: one of the others is broken, or all of them hold
pub told-before : (T : Type 0) (old new : FileState) (name : List ℕ) (rules : List ℕ → Rules Fault) (more : Rules Fault) (end : CheckEnd) → ChecksTold {T = T} old new name rules (Err end)
    → ChecksTold {T = T} old new name (λ b. rules b ++ more) (Err end)
told-before T old new name rules more (Rule f) h = (h.0, λ m b told at. some-append (rules b) more f (h.1 m b told at))
told-before T old new name rules more ReadFault h = h

pub told-behind : (S T : Type 0) (old new : FileState) (name : List ℕ) (rules : List ℕ → Rules Fault) (more : Rules Fault) (value : S) (result : Result T Fault) → ChecksTold {T = S} old new name rules (Ok value) → Checks result more
    → ChecksTold {T = T} old new name (λ b. rules b ++ more) (check_end result)
told-behind S T old new name rules more value (Ok v) h says = (h.0, λ m b told at. none-append (rules b) more (h.1 m b told at) ∙ says)
told-behind S T old new name rules more value (Err f) h says = (h.0, λ m b told at. none-append (rules b) more (h.1 m b told at) ∙ says)

-- ---- whether Windows was chosen

pub unchosen : (options : Options) (inputs : List Taken) (bytes : List ℕ) → for_windows options ≡ false → windows_rules options inputs bytes ≡ []
unfolding windows_rules
unchosen options inputs bytes off = ap (λ b. cond b (x64_rules (x64_of inputs) bytes) []) off

pub chosen : (options : Options) (inputs : List Taken) (bytes : List ℕ) (o : Option Taken) → for_windows options ≡ true → x64_of inputs ≡ o → windows_rules options inputs bytes ≡ x64_rules o bytes
unfolding windows_rules
chosen options inputs bytes o on is = ap (λ b. cond b (x64_rules (x64_of inputs) bytes) []) on ∙ ap (λ x. x64_rules x bytes) is

-- ---- inputs whose rules hold together

range-stands : (n : ℕ) (loads : List Load) (t : ImportTable) (rest : Rules Fault) → first_fault (range_rules n loads t ++ rest) ≡ None → AreStanding loads t
range-stands n loads t rest none =
    let ranges = append-none (range_rules n loads t) rest none in
    let table = held (are_between 20 t.idata t.idata_end loads) (fault_of n 28 1 t.idata) ((are_between 1 t.iat t.iat_end loads, fault_of n 28 2 t.iat) ∷ []) ranges.0 in
    let slots = held (are_between 1 t.iat t.iat_end loads) (fault_of n 28 2 t.iat) [] table.1 in
    record { table = table.0; slots = slots.0 }

table-stands : (n : ℕ) (loads : List Load) (base : ℕ) (memory : Memory) (o : Option ImportTable) → first_fault (table_rules n loads base memory o) ≡ None → IfSome o (AreStanding loads)
table-stands n loads base memory None none = tt
table-stands n loads base memory (Some t) none = range-stands n loads t (walked_rules n base memory t) none

x64-ready : (o : Option Taken) (bytes : List ℕ) → IfSome o (λ e. e.machine ≡ X64) → first_fault (x64_rules o bytes) ≡ None → IsSomeAnd o MeetsWindows
unfolding import_rules
x64-ready None bytes machine none = absurd (cc)
x64-ready (Some e) bytes machine none =
    let both = append-none (image_rules e) (import_rules e (base_of e) bytes) none in
    (image-meets e (base_of e) machine both.0 (table-stands e.number e.loads (base_of e) (memory_of (bytes_in bytes) e.loads) (table_of e.symbols) both.1) refl).meets

x64-case : (e : Taken) (o : Option Taken) (b : Bool) → is_machine X64 e.machine ≡ b → IfSome o (λ e. e.machine ≡ X64) → IfSome (cond b (Some e) o) (λ e. e.machine ≡ X64)
x64-case e o true is rest = sym (is_machine-same X64 e.machine is)
x64-case e o false is rest = rest

x64-machine : (inputs : List Taken) → IfSome (x64_of inputs) (λ e. e.machine ≡ X64)
x64-machine [] = tt
x64-machine (e ∷ inputs) = x64-case e (x64_of inputs) (is_machine X64 e.machine) refl (x64-machine inputs)

-- where Windows was chosen, the input for x86-64 meets what it asks
pub windows-ready : (options : Options) (inputs : List Taken) (bytes : List ℕ) → first_fault (windows_rules options inputs bytes) ≡ None → AreReady options inputs
windows-ready options inputs bytes none = λ on.
    x64-ready (x64_of inputs) bytes (x64-machine inputs) (ap first_fault (sym (chosen options inputs bytes (x64_of inputs) on refl)) ∙ none)

-- ---- bytes in memory

pub sized-slice : (o : Option Taken) (bytes : List ℕ) → IfSome o (λ e. e.size ≡ length bytes) → IfSome o (λ e. HasSize (slice_state bytes).kept [] e.size)
sized-slice None bytes h = tt
sized-slice (Some e) bytes h = subst (λ size. HasSize (slice_state bytes).kept [] size) (sym h) (slice_sized bytes)
