-- What of a linked file is for Windows: how long it is, and that it leaves zeros.
use Rattle.std.proofs.Common.{◌≡◌, ℕ, ◌+◌, ◌-◌, ◌*◌, ◌%◌, ◌^◌, ◌<◌, ◌≤◌, ◌==◌, ◌&&◌, nat_le, nat_lt, inl, inr, Bool, true, false, cond, List, [], ◌∷◌, ◌++◌, length, Option, Some, None, refl, sym, ap, ◌∙◌, subst, arith, length-append}
use Rattle.std.specs.Prelude.{All, IfSome, IsSomeAnd}
use Rattle.std.specs.Option.{option_map}
use Rattle.std.proofs.lemmas.Bool.{cases_Bool, and_parts, leb-true}
use Rattle.ap_fields.specs.declared.sizes.TheConstants.{BLOCK, PE_SPAN}
use Rattle.ap_fields.specs.Granules.{floor_of, ceil_of}
use Rattle.ap_fields.proofs.FieldReads.{length-structure}
use Rattle.ap_fields.proofs.Sparse.{Sparse, lower}
use Rattle.ap_elf.specs.declared.types.Entry.{Entry}
use Rattle.ap_elf.specs.declared.machine.Machine.{Machine}
use Rattle.ap_elf.specs.declared.machine.Machine.TheVariants.{X64}
use Rattle.ap_elf.specs.Machines.{granule_of, is_machine}
use Rattle.ap_elf.proofs.Machines.{is_machine-same}
use Rattle.ap_check.specs.declared.load.Load.{Load}
use Rattle.ap_check.specs.declared.imports.ImportTable.{ImportTable}
use Rattle.ap_check.specs.declared.options.Options.{Options}
use Rattle.ap_check.specs.Options.{for_windows}
use Rattle.ap_check.specs.Inputs.{Taken, Meets, AreLoads, first_start, last_stop}
use Rattle.ap_check.specs.ImportRule.{table_of, AreStanding}
use Rattle.ap_check.specs.Windows.{x64_of, base_of, MeetsWindows}
use Rattle.ap_layout.specs.declared.layout.Area.{Area}
use Rattle.ap_layout.specs.Areas.{ServeAll, new_areas}
use Rattle.ap_layout.specs.Headers.{section_count, headers_length, pe_length}
use Rattle.ap_layout.specs.Positions.{Positions, PlacedInput, Fits, AreServed, placed_inputs, only_inputs, all_areas}
use Rattle.ap_layout.specs.Jobs.{placed_for}
use Rattle.ap_layout.specs.Stacks.{stack_size}
use Rattle.ap_layout.proofs.Fitting.{serve-same}
use Rattle.ap_layout.proofs.HeaderLengths.{count-most, x64_of-all}
use Rattle.ap_layout.proofs.X64Places.{IsFound, found-in}
use Rattle.ap_pe.specs.declared.program.Program.{Program}
use Rattle.ap_pe.specs.Sections.{Named, load_section, section_header, section_table, sections_behind}
use Rattle.ap_pe.specs.Written.{sections_of, end_of, file_rows, file_header, optional_rows, optional_header, headers_with, pe_headers, is_code, is_data, stack_of}
use Rattle.ap_pe.specs.Linked.{program_of, table_directory, slots_directory, headers_of, pe_text}
use Rattle.ap_pe.proofs.HeaderReads.{length-section_header}
use Rattle.ap_pe.proofs.HeaderZeros.{SectionsZeros, headers-sparse}
use Rattle.ap_pe.proofs.SectionZeros.{sections-zeros, sum-even, first-even}

-- ---- how long the headers are

length-section_table : (k : ℕ) (sections : List Named) → length (section_table k sections) ≡ 40 * length sections
length-section_table k [] = refl
length-section_table k (s ∷ sections) =
    let one = length-section_header k s in
    let more = length-section_table (k + 1) sections in
    let both = length-append (section_header k s) (section_table (k + 1) sections) in
    omega arith

length-headers_with : (p : Program) (end : ℕ) (sections : List Named) → length (headers_with p end sections) ≡ 264 + 40 * length sections
unfolding headers_with file_header optional_header
length-headers_with p end sections =
    let file = length-structure 24 (file_rows (length sections)) refl in
    let optional = length-structure 240 (optional_rows p end sections) refl in
    let table = length-section_table 1 sections in
    let inner = length-append (optional_header p end sections) (section_table 1 sections) in
    let outer = length-append (file_header (length sections)) (optional_header p end sections ++ section_table 1 sections) in
    omega arith

with-gap : (b : Bool) (s t : Named) (sections : List Named) → length ((cond b (s ∷ []) []) ++ (t ∷ sections)) ≡ cond b 2 1 + length sections
with-gap true s t sections = omega arith
with-gap false s t sections = omega arith

length-sections : (base end : ℕ) (loads : List Load) (areas : List Area) → length areas ≡ length loads → length (sections_behind base end loads areas) ≡ section_count 4096 end loads
length-sections base end [] areas same = refl
length-sections base end (p ∷ loads) [] same = absurd (omega arith)
length-sections base end (p ∷ loads) (x ∷ areas) same =
    with-gap (nat_lt end (floor_of p.vaddr 4096)) (103, _) (97, load_section base p x) (sections_behind base (ceil_of (p.vaddr + p.memsz) 4096) loads areas)
    ∙ ap (λ n. cond (nat_lt end (floor_of p.vaddr 4096)) 2 1 + n) (length-sections base (ceil_of (p.vaddr + p.memsz) 4096) loads areas (omega arith))

-- ---- lengths

headers-long : (news : List Area) (o : Option PlacedInput) → IfSome o (IsFound news) → length (headers_of o) ≡ headers_length (option_map (λ p. p.input) o)
headers-long news None is = refl
headers-long news (Some p) is =
    let e : Taken = p.input in
    let loads : List Load = e.loads in
    let whole = length-headers_with (program_of e) (end_of (base_of e) loads) (sections_of (base_of e) loads p.areas) in
    let count = length-sections (base_of e) (base_of e + PE_SPAN) loads p.areas (serve-same 4096 news loads p.areas is.served) in
    whole
    ∙ ap (λ n. 264 + 40 * n) count
    ∙ ap (λ (m : Machine). 264 + 40 * section_count (granule_of m) (base_of e + PE_SPAN) loads) (sym is.machine)

chosen-long : (b : Bool) (text : List ℕ) (n : ℕ) → length text ≡ n → length (cond b text []) ≡ cond b n 0
chosen-long true text n h = h
chosen-long false text n h = refl

pub length-pe_text : (options : Options) (inputs : List Taken) (l : Positions) → Fits options inputs l → length (pe_text options inputs l) ≡ pe_length options inputs
length-pe_text options inputs l fits =
    let ps = placed_inputs inputs l in
    let at = found-in options inputs l fits in
    chosen-long (for_windows options) (headers_of (placed_for X64 ps)) (headers_length (x64_of inputs))
    (headers-long (new_areas BLOCK (all_areas ps)) (placed_for X64 ps) at.0 ∙ ap headers_length at.1)

-- ---- zeros

last-even : (low : ℕ) (loads : List Load) → low % 4096 ≡ 0 → last_stop 4096 low loads % 4096 ≡ 0
last-even low [] even = even
last-even low (p ∷ loads) even = last-even (ceil_of (p.vaddr + p.memsz) 4096) loads (omega arith)

stack-even : (o : Option Entry) → stack_size o % 256 ≡ 0
stack-even None = refl
stack-even (Some p) = omega arith

reserve-even : (p : Program) → p.stack % 256 ≡ 0 → stack_of p % 256 ≡ 0
reserve-even p even = elim (cases_Bool (p.stack == 0)) [
  | inl none ↦ rw none refl
  | inr some ↦ rw some even
]

range-short : (from to least : ℕ) (rest : Bool) → (nat_le (from + least) to && (nat_le (to - from) 1048576 && rest)) ≡ true → to - from < 256 ^ 3
range-short from to least rest h =
    let first = and_parts (nat_le (from + least) to) (nat_le (to - from) 1048576 && rest) h in
    let most = leb-true (to - from) 1048576 (and_parts (nat_le (to - from) 1048576) rest first.1).0 in
    omega arith

table-short : (base : ℕ) (loads : List Load) (o : Option ImportTable) → IfSome o (AreStanding loads) → (table_directory base o).length < 256 ^ 3
table-short base loads None h = omega arith
table-short base loads (Some t) h = range-short t.idata t.idata_end 20 _ h.table

slots-short : (base : ℕ) (loads : List Load) (o : Option ImportTable) → IfSome o (AreStanding loads) → (slots_directory base o).length < 256 ^ 3
slots-short base loads None h = omega arith
slots-short base loads (Some t) h = range-short t.iat t.iat_end 1 _ h.slots

-- loads in order begin behind the headers
pub from-headers : (size low : ℕ) (loads : List Load) → 0 < length loads → AreLoads 4096 size 0 loads → low ≤ first_start 4096 loads → AreLoads 4096 size low loads
from-headers size low [] some order room = absurd (omega arith)
from-headers size low (p ∷ loads) some order room =
    let h = order.0 in
    (record { some = h.some; sizes = h.sizes; part = h.part; base = h.base; top = h.top; order = room; perms = h.perms; readable = h.readable }, order.1)

-- an input for x86-64 that meets what Windows asks
text-sparse : (e : Taken) (news areas : List Area) (ys : List ℕ) → Meets e → MeetsWindows e → ServeAll 4096 news e.loads areas → Sparse 2 ys → Sparse 0 (pe_headers (program_of e) e.loads areas ++ ys)
text-sparse e news areas ys meets windows served rest =
    let base : ℕ = base_of e in
    let loads : List Load = e.loads in
    let end : ℕ = end_of base loads in
    let named : List Named = sections_of base loads areas in
    let even = windows.granule in
    let order : AreLoads 4096 e.size 0 loads = subst (λ (m : Machine). AreLoads (granule_of m) e.size 0 loads) windows.machine meets.loads in
    let room : base + 8192 ≤ first_start 4096 loads = subst (λ (m : Machine). base + 8192 ≤ first_start (granule_of m) loads) windows.machine windows.room in
    let start = from-headers e.size (base + 8192) loads meets.some order room in
    let few = meets.few in
    let long = length-sections base (base + PE_SPAN) loads areas (serve-same 4096 news loads areas served) in
    let most = count-most 4096 (base + PE_SPAN) loads in
    let each : SectionsZeros named = sections-zeros base e.size (base + 8192) news loads areas even (omega arith) (omega arith) start served in
    let stop = last-even (base + PE_SPAN) loads (omega arith) in
    headers-sparse (program_of e) end named ys (omega arith)
    (record {
      code = sum-even is_code named each;
      plain = sum-even is_data named each;
      base = even;
      first = first-even named each;
      stop = omega arith;
      stack = reserve-even (program_of e) (stack-even e.stack);
      imports = table-short base loads (table_of e.symbols) windows.imports;
      slots = slots-short base loads (table_of e.symbols) windows.imports;
    })
    each rest

headers-sparse-if : (news : List Area) (o : Option PlacedInput) (ys : List ℕ) → IfSome o (IsFound news) → IfSome (option_map (λ p. p.input) o) Meets → IsSomeAnd (option_map (λ p. p.input) o) MeetsWindows → Sparse 2 ys
    → Sparse 0 (headers_of o ++ ys)
headers-sparse-if news None ys is meets windows rest = absurd windows
headers-sparse-if news (Some p) ys is meets windows rest = text-sparse p.input news p.areas ys meets windows is.served rest

chosen-sparse : (b : Bool) (text ys : List ℕ) → (b ≡ true → Sparse 0 (text ++ ys)) → Sparse 2 ys → Sparse 0 ((cond b text []) ++ ys)
chosen-sparse true text ys h rest = h refl
chosen-sparse false text ys h rest = lower 2 0 ys (omega arith) rest

-- the PE headers, where there are some, in front of what begins with a zero among its first bytes
pub pe_text-sparse : (options : Options) (inputs : List Taken) (l : Positions) (ys : List ℕ) → All Meets inputs → Fits options inputs l → Sparse 2 ys → Sparse 0 (pe_text options inputs l ++ ys)
pe_text-sparse options inputs l ys meets fits rest =
    let ps = placed_inputs inputs l in
    let at = found-in options inputs l fits in
    chosen-sparse (for_windows options) (headers_of (placed_for X64 ps)) ys
    (λ chosen. headers-sparse-if (new_areas BLOCK (all_areas ps)) (placed_for X64 ps) ys at.0
    (subst (λ (o : Option Taken). IfSome o Meets) (sym at.1) (x64_of-all Meets inputs meets))
    (subst (λ (o : Option Taken). IsSomeAnd o MeetsWindows) (sym at.1) (fits.windows chosen)) rest)
    rest
