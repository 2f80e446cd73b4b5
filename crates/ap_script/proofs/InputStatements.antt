-- The statement of each input: its header, its place among the others, and what it embeds.
use Rattle.std.proofs.Common.{◌≡◌, ◌≢◌, inl, inr, ℕ, suc, ◌+◌, ◌<◌, cond, true, false, List, [], ◌∷◌, ◌++◌, length, Option, Some, None, refl, sym, ap, ◌∙◌, arith, length-append, subst}
use Rattle.std.specs.Prelude.{All, IfSome}
use Rattle.ap_octal.specs.Embedded.{Embeds}
use Rattle.ap_octal.specs.Statement.{octals_of, statement_of}
use Rattle.ap_check.specs.declared.options.Options.{Options}
use Rattle.ap_elf.specs.declared.machine.Machine.{Machine}
use Rattle.ap_elf.specs.declared.machine.Machine.TheVariants.{X64, A64}
use Rattle.ap_check.specs.Inputs.{Taken}
use Rattle.ap_layout.specs.Positions.{Positions, PlacedInput, Fits, only_inputs, placed_inputs}
use Rattle.ap_layout.specs.Jobs.{placed_for}
use Rattle.ap_script.specs.Tables.{embedded_bytes}
use Rattle.ap_elf.specs.Machines.{is_machine}
use Rattle.ap_script.specs.Script.{machine_start, machine_end, machine_lines, header_for}
use Rattle.ap_script.specs.Blocks.{block_of}
use Rattle.ap_script.specs.Stands.{MachinesDiffer, IsOneOf, machines_start, statement_place, statement_places, place_if}
use Rattle.ap_script.proofs.ScriptParts.{IsHeader, header-is}
use Rattle.ap_script.proofs.StatementPlaces.{parts-block, place-within, embeds-parts}

-- ---- the header of each input

is_machine-self : (m : Machine) → is_machine m m ≡ true
is_machine-self X64 = refl
is_machine-self A64 = refl

is_machine-other : (m n : Machine) → n ≢ m → is_machine m n ≡ false
is_machine-other X64 X64 other = absurd (other refl)
is_machine-other A64 A64 other = absurd (other refl)
is_machine-other X64 A64 other = refl
is_machine-other A64 X64 other = refl

has-apart : (ps : List PlacedInput) (m : Machine) (q : PlacedInput) → All (λ e. m ≢ e.machine) (only_inputs ps) → IsOneOf q ps → m ≢ q.input.machine
has-apart [] m q apart has = absurd has
has-apart (p ∷ ps) m q apart (inl is) = λ same. apart 0 p.input (omega arith) (same ∙ ap (λ (x : PlacedInput). x.input.machine) (sym is))
has-apart (p ∷ ps) m q apart (inr later) = has-apart ps m q (λ k d low. apart (suc k) d (omega arith)) later

header_of-input : (ps : List PlacedInput) (q : PlacedInput) → MachinesDiffer (only_inputs ps) → IsOneOf q ps → header_for q.input.machine ps ≡ Some (embedded_bytes q.input q.table)
header_of-input [] q differ has = absurd has
header_of-input (p ∷ ps) q differ (inl is) =
    ap (λ (x : PlacedInput). header_for x.input.machine (p ∷ ps)) (sym is)
    ∙ ap (λ b. cond b (Some (embedded_bytes p.input p.table)) (header_for p.input.machine ps)) (is_machine-self p.input.machine)
    ∙ ap (λ (x : PlacedInput). Some (embedded_bytes x.input x.table)) is
header_of-input (p ∷ ps) q differ (inr later) =
    ap (λ b. cond b (Some (embedded_bytes p.input p.table)) (header_for q.input.machine ps))
    (is_machine-other q.input.machine p.input.machine (has-apart ps p.input.machine q differ.0 later))
    ∙ header_of-input ps q differ.1 later

pub header_for-input : (options : Options) (inputs : List Taken) (l : Positions) (p : PlacedInput) → MachinesDiffer inputs → Fits options inputs l → IsOneOf p (placed_inputs inputs l)
    → header_for p.input.machine (placed_inputs inputs l) ≡ Some (embedded_bytes p.input p.table)
header_for-input options inputs l p differ fits has = header_of-input (placed_inputs inputs l) p (subst MachinesDiffer (sym fits.all) differ) has

-- and so is the input itself
placed_of-input : (ps : List PlacedInput) (q : PlacedInput) → MachinesDiffer (only_inputs ps) → IsOneOf q ps → placed_for q.input.machine ps ≡ Some q
placed_of-input [] q differ has = absurd has
placed_of-input (p ∷ ps) q differ (inl is) =
    ap (λ (x : PlacedInput). placed_for x.input.machine (p ∷ ps)) (sym is)
    ∙ ap (λ b. cond b (Some p) (placed_for p.input.machine ps)) (is_machine-self p.input.machine)
    ∙ ap Some is
placed_of-input (p ∷ ps) q differ (inr later) =
    ap (λ b. cond b (Some p) (placed_for q.input.machine ps)) (is_machine-other q.input.machine p.input.machine (has-apart ps p.input.machine q differ.0 later))
    ∙ placed_of-input ps q differ.1 later

pub placed_for-input : (options : Options) (inputs : List Taken) (l : Positions) (p : PlacedInput) → MachinesDiffer inputs → Fits options inputs l → IsOneOf p (placed_inputs inputs l)
    → placed_for p.input.machine (placed_inputs inputs l) ≡ Some p
placed_for-input options inputs l p differ fits has = placed_of-input (placed_inputs inputs l) p (subst MachinesDiffer (sym fits.all) differ) has

pub none-for : (m : Machine) (ps : List PlacedInput) → All (λ e. m ≢ e.machine) (only_inputs ps) → header_for m ps ≡ None
none-for m [] apart = refl
none-for m (p ∷ ps) apart =
    ap (λ b. cond b (Some (embedded_bytes p.input p.table)) (header_for m ps)) (is_machine-other m p.input.machine (λ same. apart 0 p.input (omega arith) (sym same)))
    ∙ none-for m ps (λ k d low. apart (suc k) d (omega arith))

-- ---- one statement for each input

abbrev some_if : Option (List ℕ) → ℕ
some_if None = 0
some_if (Some header) = 1

length-places : (x y : Option (List ℕ)) (p q : ℕ) → length (place_if x p ++ place_if y q) ≡ some_if x + some_if y
length-places None None p q = refl
length-places None (Some b) p q = refl
length-places (Some a) None p q = refl
length-places (Some a) (Some b) p q = refl

one-more : (m : Machine) (header : List ℕ) (x y : Option (List ℕ)) → (m ≡ X64 → x ≡ None) → (m ≡ A64 → y ≡ None)
    → some_if (cond (is_machine X64 m) (Some header) x) + some_if (cond (is_machine A64 m) (Some header) y) ≡ suc (some_if x + some_if y)
one-more X64 header x y first second = (let none : some_if x ≡ 0 = ap some_if (first refl) in omega arith)
one-more A64 header x y first second = (let none : some_if y ≡ 0 = ap some_if (second refl) in omega arith)

count-headers : (ps : List PlacedInput) → MachinesDiffer (only_inputs ps) → some_if (header_for X64 ps) + some_if (header_for A64 ps) ≡ length (only_inputs ps)
count-headers [] differ = refl
count-headers (p ∷ ps) differ =
    one-more p.input.machine (embedded_bytes p.input p.table) (header_for X64 ps) (header_for A64 ps)
    (λ same. none-for X64 ps (subst (λ m. All (λ f. m ≢ f.machine) (only_inputs ps)) same differ.0))
    (λ same. none-for A64 ps (subst (λ m. All (λ f. m ≢ f.machine) (only_inputs ps)) same differ.0))
    ∙ ap suc (count-headers ps differ.1)

pub count-places : (options : Options) (inputs : List Taken) (l : Positions) → MachinesDiffer inputs → Fits options inputs l → length (statement_places options inputs l) ≡ length inputs
count-places options inputs l differ fits =
    let ps = placed_inputs inputs l in
    length-places (header_for X64 ps) (header_for A64 ps) (statement_place options inputs l X64) (statement_place options inputs l A64)
    ∙ count-headers ps (subst MachinesDiffer (sym fits.all) differ)
    ∙ ap length fits.all

-- ---- the places

starts-order : length (machine_start X64) < length (machine_start A64)
unfolding machine_start
starts-order = omega arith

places-order-by : (x : Option (List ℕ)) (start : ℕ) → start + length (machine_start X64) < start + (length (machine_lines X64 x) + length (machine_start A64))
places-order-by None start = (let starts = starts-order in omega arith)
places-order-by (Some header) start =
    let starts = starts-order in
    let lines = length-append (machine_start X64) (statement_of header ++ machine_end) in
    omega arith

-- they ascend, whatever inputs there are
pub places-order : (options : Options) (inputs : List Taken) (l : Positions) → statement_place options inputs l X64 < statement_place options inputs l A64
places-order options inputs l = places-order-by (header_for X64 (placed_inputs inputs l)) (machines_start options inputs l)

-- ---- what the statement of an input embeds

is-some : (m : Machine) (found : Option (List ℕ)) (header : List ℕ) → IfSome found (IsHeader m) → found ≡ Some header → IsHeader m header
is-some m found header h is = subst (λ o. IfSome o (IsHeader m)) is h

pub header-says : (m : Machine) (ps : List PlacedInput) (header : List ℕ) → header_for m ps ≡ Some header → IsHeader m header
header-says m ps header is = is-some m (header_for m ps) header (header-is m ps) is

pub embeds-block : (options : Options) (inputs : List Taken) (l : Positions) (rest : List ℕ) (m : Machine) (header : List ℕ) → Fits options inputs l → header_for m (placed_inputs inputs l) ≡ Some header
    → Embeds (block_of options inputs l ++ rest) (statement_place options inputs l m) (statement_place options inputs l m + 8 + length (octals_of header)) header
embeds-block options inputs l rest m header fits is =
    embeds-parts (block_of options inputs l ++ rest) (statement_place options inputs l m) m header (parts-block options inputs l rest m header fits is)
    (place-within options inputs l m header fits is) (header-says m (placed_inputs inputs l) header is)
