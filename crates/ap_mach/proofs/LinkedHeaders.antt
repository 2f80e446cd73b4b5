-- What of a linked file is for macOS: how long it is, and where it stands.
use Rattle.std.proofs.Common.{◌≡◌, ℕ, ◌+◌, ◌-◌, ◌*◌, ◌≤◌, Bool, true, false, cond, List, [], ◌∷◌, ◌++◌, length, Option, Some, None, refl, sym, ap, ◌∙◌, arith, length-append}
use Rattle.std.specs.Prelude.{IfSome}
use Rattle.std.specs.Option.{is_some, option_map}
use Rattle.ap_fields.specs.declared.sizes.TheConstants.{BLOCK, WINDOW}
use Rattle.ap_fields.proofs.FieldReads.{length-structure}
use Rattle.ap_elf.specs.declared.machine.Machine.TheVariants.{X64}
use Rattle.ap_check.specs.declared.load.Load.{Load}
use Rattle.ap_check.specs.declared.options.Options.{Options}
use Rattle.ap_check.specs.Options.{for_mac}
use Rattle.ap_check.specs.Inputs.{Taken}
use Rattle.ap_check.specs.Mac.{mach_entry_of}
use Rattle.ap_check.specs.Windows.{x64_of}
use Rattle.ap_layout.specs.declared.layout.Area.{Area}
use Rattle.ap_layout.specs.declared.sizes.TheConstants.{MACH_HEADER, SEGMENT_COMMAND, THREAD_COMMAND, MOST_MACH}
use Rattle.ap_layout.specs.Areas.{new_areas}
use Rattle.ap_layout.specs.MachPlaces.{mach_input, place_of, length_of}
use Rattle.ap_layout.specs.Positions.{Positions, PlacedInput, Fits, placed_inputs, all_areas}
use Rattle.ap_layout.specs.Jobs.{placed_for}
use Rattle.ap_layout.proofs.Fitting.{serve-same}
use Rattle.ap_layout.proofs.X64Places.{IsFound, found-in}
use Rattle.ap_mach.specs.declared.constants.TheConstants.{ZERO_NAME}
use Rattle.ap_mach.specs.Segments.{zero_segment, load_segments, segment_command, segment_table}
use Rattle.ap_mach.specs.Written.{header_rows, thread_rows, header, thread_command, headers_with, mach_headers}
use Rattle.ap_mach.proofs.SegmentTables.{length-segment_command, length-load_segments, length-segment_table}
use Rattle.ap_mach.specs.Linked.{mach_place, header_text, mach_text}

-- ---- how long headers are

pub length-mach_headers : (start : ℕ) (loads : List Load) (areas : List Area) → length areas ≡ length loads → length (mach_headers start loads areas) ≡ MACH_HEADER + SEGMENT_COMMAND * (1 + length loads) + THREAD_COMMAND
unfolding headers_with header thread_command
length-mach_headers start loads areas same =
    let segments = load_segments loads areas in
    let zero = segment_command ZERO_NAME 0 (zero_segment loads) in
    let head = length-structure 32 (header_rows (length segments)) refl in
    let first = length-segment_command ZERO_NAME 0 (zero_segment loads) in
    let thread = length-structure 184 (thread_rows start) refl in
    let table = length-segment_table 1 segments in
    let count = length-load_segments loads areas same in
    let a = length-append (header (length segments)) (zero ++ (segment_table 1 segments ++ thread_command start)) in
    let b = length-append zero (segment_table 1 segments ++ thread_command start) in
    let c = length-append (segment_table 1 segments) (thread_command start) in
    omega arith

-- ---- the header of a linked file

header-long : (news : List Area) (o : Option PlacedInput) → IfSome o (IsFound news) → length (header_text o) ≡ length_of (option_map (λ p. p.input) o)
header-long news None is = refl
header-long news (Some p) is = length-mach_headers (mach_entry_of p.input) p.input.loads p.areas (serve-same 4096 news p.input.loads p.areas is.served)

chosen-found : (b : Bool) (P : PlacedInput → Type 0) (o : Option PlacedInput) → IfSome o P → IfSome (cond b o None) P
chosen-found true P o h = h
chosen-found false P o h = tt

chosen-same : (b : Bool) (o : Option PlacedInput) (e : Option Taken) → option_map (λ p. p.input) o ≡ e → option_map (λ p. p.input) (cond b o None) ≡ cond b e None
chosen-same true o e h = h
chosen-same false o e h = refl

-- the input that has a header, with its places
pub place-found : (options : Options) (inputs : List Taken) (l : Positions) → Fits options inputs l
    → IfSome (mach_place options inputs l) (IsFound (new_areas BLOCK (all_areas (placed_inputs inputs l)))) × (option_map (λ p. p.input) (mach_place options inputs l) ≡ mach_input options inputs)
place-found options inputs l fits =
    let h = found-in options inputs l fits in (
      chosen-found (for_mac options) (IsFound (new_areas BLOCK (all_areas (placed_inputs inputs l)))) (placed_for X64 (placed_inputs inputs l)) h.0,
      chosen-same (for_mac options) (placed_for X64 (placed_inputs inputs l)) (x64_of inputs) h.1,
    )

-- it has the length that the positions tell
pub length-mach_text : (options : Options) (inputs : List Taken) (l : Positions) → Fits options inputs l → length (mach_text options inputs l) ≡ l.mach_len
length-mach_text options inputs l fits =
    let h = place-found options inputs l fits in
    header-long (new_areas BLOCK (all_areas (placed_inputs inputs l))) (mach_place options inputs l) h.0 ∙ ap length_of h.1 ∙ sym fits.mach_len

some-place : (o : Option PlacedInput) → is_some o ≡ true → place_of (option_map (λ p. p.input) o) ≡ WINDOW
some-place None some = absurd (cc)
some-place (Some p) some = refl

-- and stands at the start of the block's second half, where there is one
pub place-is : (options : Options) (inputs : List Taken) (l : Positions) → Fits options inputs l → is_some (mach_place options inputs l) ≡ true → l.mach_at ≡ WINDOW
place-is options inputs l fits some =
    let h = place-found options inputs l fits in
    fits.mach_at ∙ ap place_of (sym h.1) ∙ some-place (mach_place options inputs l) some

none-long : (o : Option PlacedInput) (at len : ℕ) → (is_some o ≡ true → at ≡ WINDOW) → length (header_text o) ≡ len → at + len ≤ WINDOW + MOST_MACH → len ≤ MOST_MACH
none-long None at len is long low = omega arith
none-long (Some p) at len is long low = let place = is refl in omega arith

-- where it has room
pub text-room : (options : Options) (inputs : List Taken) (l : Positions) → Fits options inputs l → length (mach_text options inputs l) ≤ BLOCK - WINDOW
text-room options inputs l fits =
    let long = length-mach_text options inputs l fits in
    let few = none-long (mach_place options inputs l) l.mach_at l.mach_len (place-is options inputs l fits) long fits.mach in
    omega arith
