-- How long the PE headers and the Mach-O header are at most.
use Rattle.std.proofs.Common.{ℕ, ◌+◌, ◌*◌, ◌≤◌, Bool, true, false, cond, List, [], ◌∷◌, length, All, Option, Some, None, arith}
use Rattle.std.specs.Prelude.{nat_lt, IfSome}
use Rattle.std.proofs.lemmas.List.Elements.{All-head, All-tail}
use Rattle.ap_fields.specs.Granules.{floor_of, ceil_of}
use Rattle.ap_check.specs.declared.load.Load.{Load}
use Rattle.ap_check.specs.declared.options.Options.{Options}
use Rattle.ap_elf.specs.declared.machine.Machine.TheVariants.{X64}
use Rattle.ap_elf.specs.Machines.{granule_of, is_machine}
use Rattle.ap_fields.specs.declared.sizes.TheConstants.{PE_SPAN, WINDOW}
use Rattle.ap_check.specs.Options.{for_windows, for_mac}
use Rattle.ap_check.specs.Inputs.{Taken, Meets}
use Rattle.ap_check.specs.Windows.{x64_of, base_of}
use Rattle.ap_layout.specs.declared.sizes.TheConstants.{MOST_HEADERS, MOST_MACH}
use Rattle.ap_layout.specs.Headers.{section_count, headers_length, pe_length}
use Rattle.ap_layout.specs.MachPlaces.{mach_input, place_of, length_of, mach_start, mach_length}

either-most : (b : Bool) → cond b 2 1 ≤ 2
either-most true = omega arith
either-most false = omega arith

-- two sections a load
pub count-most : (g end : ℕ) (loads : List Load) → section_count g end loads ≤ 2 * length loads
count-most g end [] = omega arith
count-most g end (p ∷ loads) =
    let one = either-most (nat_lt end (floor_of p.vaddr g)) in
    let more = count-most g (ceil_of (p.vaddr + p.memsz) g) loads in
    omega arith

-- what holds of each input holds of the one for x86-64
x64-case : (P : Taken → Type 0) (b : Bool) (e : Taken) (o : Option Taken) → P e → IfSome o P → IfSome (cond b (Some e) o) P
x64-case P true e o h rest = h
x64-case P false e o h rest = rest

pub x64_of-all : (P : Taken → Type 0) (inputs : List Taken) → All P inputs → IfSome (x64_of inputs) P
x64_of-all P [] all = tt
x64_of-all P (e ∷ inputs) all =
    x64-case P (is_machine X64 e.machine) e (x64_of inputs) (All-head P e inputs all) (x64_of-all P inputs (All-tail P e inputs all))

headers-most : (o : Option Taken) → IfSome o Meets → headers_length o ≤ MOST_HEADERS
headers-most None m = omega arith
headers-most (Some e) m =
    let few = m.few in
    let count = count-most (granule_of e.machine) (base_of e + PE_SPAN) e.loads in
    omega arith

if-most : (b : Bool) (n most : ℕ) → n ≤ most → cond b n 0 ≤ most
if-most true n most h = h
if-most false n most h = omega arith

pub pe_length-most : (options : Options) (inputs : List Taken) → All Meets inputs → pe_length options inputs ≤ MOST_HEADERS
pe_length-most options inputs all =
    if-most (for_windows options) (headers_length (x64_of inputs)) MOST_HEADERS (headers-most (x64_of inputs) (x64_of-all Meets inputs all))

-- the Mach-O header
mach-most : (o : Option Taken) → IfSome o Meets → place_of o + length_of o ≤ WINDOW + MOST_MACH
mach-most None m = omega arith
mach-most (Some e) m = let few = m.few in omega arith

chosen-all : (P : Taken → Type 0) (b : Bool) (o : Option Taken) → IfSome o P → IfSome (cond b o None) P
chosen-all P true o h = h
chosen-all P false o h = tt

pub mach-inside : (options : Options) (inputs : List Taken) → All Meets inputs → mach_start options inputs + mach_length options inputs ≤ WINDOW + MOST_MACH
mach-inside options inputs all = mach-most (mach_input options inputs) (chosen-all Meets (for_mac options) (x64_of inputs) (x64_of-all Meets inputs all))
