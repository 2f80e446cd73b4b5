-- `printf '` stands in the window of a linked file where the script has its statements, and nowhere else.
use Rattle.std.proofs.Common.{◌≡◌, ◌⊎◌, inl, inr, ℕ, zero, suc, ◌+◌, ◌-◌, ◌/◌, ◌≤◌, ◌<◌, List, [], ◌∷◌, ◌++◌, length, get_or, Option, Some, None, refl, sym, ap, ◌∙◌, arith, length-append, append_assoc, subst}
use Rattle.std.specs.Prelude.{codes, All, Contains, ◌↔◌, slice_range}
use Rattle.std.proofs.lemmas.List.{get_or_append_left, get_or-append_right}
use Rattle.ap_fields.specs.declared.sizes.TheConstants.{WINDOW}
use Rattle.ap_fields.specs.Bytes.{Holds}
use Rattle.ap_octal.specs.Embedded.{Opens, Closes, Embeds}
use Rattle.ap_octal.specs.OctalText.{IsOctal}
use Rattle.ap_octal.specs.Statement.{octals_of, statement_of}
use Rattle.ap_octal.proofs.OctalLemmas.{octal-bytes}
use Rattle.ap_octal.proofs.DdTexts.{range-part}
use Rattle.ap_check.specs.declared.options.Options.{Options}
use Rattle.ap_elf.specs.declared.machine.Machine.{Machine}
use Rattle.ap_elf.specs.declared.machine.Machine.TheVariants.{X64, A64}
use Rattle.ap_check.specs.Inputs.{Taken, Meets}
use Rattle.ap_layout.specs.Positions.{Positions, Fits, placed_inputs}
use Rattle.ap_script.specs.Script.{machine_start, machine_lines, script_of, header_for}
use Rattle.ap_script.specs.Delimiter.{delimiter_number}
use Rattle.ap_script.specs.Blocks.{opening, body_of, closing, script_for, shell_text, spaces, second_half, block_of}
use Rattle.ap_script.specs.Stands.{machines_start, statement_place, place_if, statement_places}
use Rattle.ap_script.proofs.Quotes.{has_no_quote-says, bare-no_quote, bare-octals, no_quote-spaces}
use Rattle.ap_script.proofs.Openings.{word, holds-cut, not-in-zeros, apart-zero, apart-newline, parted, Marked, marked-append, marked-quiet, marks-clear, marks-hold, Parts, parts-behind, parts-front, parts-holds}
use Rattle.ap_script.proofs.ScriptParts.{MarksLines, lines_from, place_behind, marked-script, parts-x64, parts-a64, IsHeader, length-statement}
use Rattle.ap_script.proofs.TableZeros.{body-zeros}
use Rattle.ap_script.proofs.BlockParts.{small-units, length-opening, length-body, length-closing, window_text, length-window, block-parts, window-parts, behind_body, clear-opening, quiet-closing, starts-closing, starts-body}

-- ---- the list of places

abbrev pub place_x64 : ℕ → ℕ
place_x64 start = start + length (machine_start X64)

abbrev pub place_a64 : Option (List ℕ) → ℕ → ℕ
place_a64 x start = start + (length (machine_lines X64 x) + length (machine_start A64))

abbrev pub places_by : Option (List ℕ) → Option (List ℕ) → ℕ → List ℕ
places_by x y start = place_if x (place_x64 start) ++ place_if y (place_a64 x start)

-- a blank's place is that of a statement's
abbrev IsBlank : Option (List ℕ) → Option (List ℕ) → ℕ → ℕ → Type 0
IsBlank x y start i = (k : ℕ) → k + 6 ≡ i → Contains (places_by x y start) k

contains-first : (p k : ℕ) (places : List ℕ) → k ≡ p → Contains (p ∷ places) k
contains-first p k places is = (0, omega arith, sym is)

contains-second : (p q k : ℕ) → k ≡ q → Contains (p ∷ q ∷ []) k
contains-second p q k is = (1, omega arith, sym is)

marks-x64 : (x y : Option (List ℕ)) (start lines : ℕ) → lines ≡ start → MarksLines (IsBlank x y start) lines X64 x
marks-x64 None y start lines same = tt
marks-x64 (Some header) y start lines same = λ k is. contains-first (place_x64 start) k (place_if y (place_a64 (Some header) start)) (omega arith)

marks-a64 : (x y : Option (List ℕ)) (start lines : ℕ) → lines ≡ start → MarksLines (IsBlank x y start) (lines + length (machine_lines X64 x)) A64 y
marks-a64 x None start lines same = tt
marks-a64 None (Some header) start lines same = λ k is. contains-first (place_a64 None start) k [] (omega arith)
marks-a64 (Some first) (Some header) start lines same = λ k is. contains-second (place_x64 start) (place_a64 (Some first) start) k (omega arith)

-- what is among them
pub contained : (x y : Option (List ℕ)) (start k : ℕ) → Contains (places_by x y start) k
    → ((h : List ℕ) × (x ≡ Some h) × (k ≡ place_x64 start)) ⊎ ((h : List ℕ) × (y ≡ Some h) × (k ≡ place_a64 x start))
contained None None start k c = absurd (let low = c.1 in omega arith)
contained (Some a) None start k (zero, low, is) = inl (a, refl, sym is)
contained (Some a) None start k (suc i, low, is) = absurd (omega (arith, low))
contained None (Some b) start k (zero, low, is) = inr (b, refl, sym is)
contained None (Some b) start k (suc i, low, is) = absurd (omega (arith, low))
contained (Some a) (Some b) start k (zero, low, is) = inl (a, refl, sym is)
contained (Some a) (Some b) start k (suc zero, low, is) = inr (b, refl, sym is)
contained (Some a) (Some b) start k (suc (suc i), low, is) = absurd (omega (arith, low))

-- ---- nowhere else

-- the parts of the window: the opening, the body, the delimiter's line with the script and the spaces behind it
marked-behind : (options : Options) (inputs : List Taken) (l : Positions) → Fits options inputs l
    → Marked (IsBlank (header_for X64 (placed_inputs inputs l)) (header_for A64 (placed_inputs inputs l)) (machines_start options inputs l)) l.body_end (behind_body options inputs l)
marked-behind options inputs l fits =
    let x = header_for X64 (placed_inputs inputs l) in
    let y = header_for A64 (placed_inputs inputs l) in
    let start : ℕ = machines_start options inputs l in
    let number = delimiter_number (body_of options inputs l) in
    let line = length-closing number in
    let fill = spaces (WINDOW - length (shell_text options inputs l)) in
    let skip : ℕ = l.mach_at / 8 in
    let count : ℕ = l.mach_len / 8 in
    let at : ℕ = l.body_end + length (closing number) in
    let lines : ℕ = lines_from options.systems x skip count at in
    let same : lines ≡ start = omega arith in
    marked-append (IsBlank x y start) l.body_end (closing number) (script_of options.systems x y skip count ++ fill)
    (marked-quiet (IsBlank x y start) l.body_end (closing number) (quiet-closing number))
    (marked-script (IsBlank x y start) at options.systems x y skip count fill (small-units options inputs l fits) (no_quote-spaces (WINDOW - length (shell_text options inputs l)))
    (marks-x64 x y start lines same) (marks-a64 x y start lines same))

none-opening : (options : Options) (number k : ℕ) → Holds (opening options number) k word → ⊥
none-opening options number k h = marks-hold (λ i. ⊥) 0 (opening options number) k (marks-clear (λ i. ⊥) 0 (opening options number) (clear-opening options number)) h

holds-places : (options : Options) (inputs : List Taken) (l : Positions) (k : ℕ) → All Meets inputs → Fits options inputs l → Holds (window_text options inputs l) k word → Contains (statement_places options inputs l) k
holds-places options inputs l k meets fits h =
    let number = delimiter_number (body_of options inputs l) in
    let body = body_of options inputs l in
    let behind = behind_body options inputs l in
    let o = length-opening options number in
    let b = length-body options inputs l fits in
    let split : Holds (opening options number ++ (body ++ behind)) k word = subst (λ w. Holds w k word) (window-parts options inputs l) h in
    elim (parted (opening options number) (body ++ behind) k (apart-zero (body ++ behind) (starts-body options inputs l behind)) split) [
      | inl front ↦ absurd (none-opening options number k front)
      | inr (past, later) ↦ elim (parted body behind (k - length (opening options number)) (apart-newline behind (starts-closing number (script_for options inputs l ++ spaces (WINDOW - length (shell_text options inputs l))))) later) [
        | inl inside ↦ absurd (not-in-zeros body (k - length (opening options number)) (body-zeros options inputs l meets fits) inside)
        | inr (beyond, last) ↦
            (let i : ℕ = k - length (opening options number) - length body in
            marks-hold (IsBlank (header_for X64 (placed_inputs inputs l)) (header_for A64 (placed_inputs inputs l)) (machines_start options inputs l)) l.body_end behind i
            (marked-behind options inputs l fits).marks last k (omega arith))
      ]
    ]

pub opens-places : (options : Options) (inputs : List Taken) (l : Positions) (rest : List ℕ) (k : ℕ) → All Meets inputs → Fits options inputs l → Opens (block_of options inputs l ++ rest) k → Contains (statement_places options inputs l) k
opens-places options inputs l rest k meets fits o =
    let long = length-window options inputs l fits in
    let within = o.within in
    holds-places options inputs l k meets fits
    (holds-cut (window_text options inputs l) (second_half options inputs l ++ rest) k (omega arith) (subst (λ w. Holds w k word) (block-parts options inputs l rest) o.stands))

-- ---- there

parts-script : (options : Options) (inputs : List Taken) (l : Positions) (place : ℕ) (header : List ℕ) → Fits options inputs l → Parts (script_for options inputs l) place header
    → Parts (window_text options inputs l) (l.body_end + (17 + place)) header
parts-script options inputs l place header fits p =
    let number = delimiter_number (body_of options inputs l) in
    let body = body_of options inputs l in
    let script = script_for options inputs l in
    let fill = spaces (WINDOW - length (shell_text options inputs l)) in
    let o = length-opening options number in
    let b = length-body options inputs l fits in
    let c = length-closing number in
    let where_is : length (opening options number) + (length body + (length (closing number) + place)) ≡ l.body_end + (17 + place) = omega arith in
    subst (λ w. Parts w (l.body_end + (17 + place)) header) (sym (window-parts options inputs l))
    (subst (λ n. Parts (opening options number ++ (body ++ (closing number ++ (script ++ fill)))) n header) where_is
    (parts-behind (opening options number) (body ++ (closing number ++ (script ++ fill))) (length body + (length (closing number) + place)) header
    (parts-behind body (closing number ++ (script ++ fill)) (length (closing number) + place) header
    (parts-behind (closing number) (script ++ fill) place header (parts-front script fill place header p)))))

pub parts-window : (options : Options) (inputs : List Taken) (l : Positions) (m : Machine) (header : List ℕ) → Fits options inputs l → header_for m (placed_inputs inputs l) ≡ Some header
    → Parts (window_text options inputs l) (statement_place options inputs l m) header
parts-window options inputs l X64 header fits is =
    let x = header_for X64 (placed_inputs inputs l) in
    let place : ℕ = place_behind options.systems x (l.mach_at / 8) (l.mach_len / 8) (length (machine_start X64)) in
    let same : l.body_end + (17 + place) ≡ statement_place options inputs l X64 = omega arith in
    subst (λ n. Parts (window_text options inputs l) n header) same
    (parts-script options inputs l place header fits (parts-x64 options.systems x (header_for A64 (placed_inputs inputs l)) (l.mach_at / 8) (l.mach_len / 8) header is))
parts-window options inputs l A64 header fits is =
    let x = header_for X64 (placed_inputs inputs l) in
    let place : ℕ = place_behind options.systems x (l.mach_at / 8) (l.mach_len / 8) (length (machine_lines X64 x) + length (machine_start A64)) in
    let same : l.body_end + (17 + place) ≡ statement_place options inputs l A64 = omega arith in
    subst (λ n. Parts (window_text options inputs l) n header) same
    (parts-script options inputs l place header fits (parts-a64 options.systems x (header_for A64 (placed_inputs inputs l)) (l.mach_at / 8) (l.mach_len / 8) header is))

pub parts-block : (options : Options) (inputs : List Taken) (l : Positions) (rest : List ℕ) (m : Machine) (header : List ℕ) → Fits options inputs l → header_for m (placed_inputs inputs l) ≡ Some header
    → Parts (block_of options inputs l ++ rest) (statement_place options inputs l m) header
parts-block options inputs l rest m header fits is =
    subst (λ w. Parts w (statement_place options inputs l m) header) (sym (block-parts options inputs l rest))
    (parts-front (window_text options inputs l) (second_half options inputs l ++ rest) (statement_place options inputs l m) header (parts-window options inputs l m header fits is))

-- it ends in the window
pub place-within : (options : Options) (inputs : List Taken) (l : Positions) (m : Machine) (header : List ℕ) → Fits options inputs l → header_for m (placed_inputs inputs l) ≡ Some header
    → statement_place options inputs l m + length (statement_of header) ≤ WINDOW
place-within options inputs l m header fits is =
    let p = parts-window options inputs l m header fits is in
    let long = length-window options inputs l fits in
    let whole = ap length p.whole in
    let a = length-append p.front (statement_of header ++ p.behind) in
    let b = length-append (statement_of header) p.behind in
    let front = p.long in
    omega arith

-- ---- a statement in a file

pub opens-parts : (file : List ℕ) (place : ℕ) (header : List ℕ) → Parts file place header → place + length (statement_of header) ≤ WINDOW → Opens file place
unfolding statement_of
opens-parts file place header p within =
    let rest = octals_of header ++ codes "'" in
    let whole = parts-holds file place header p in
    let long = length-append (codes "printf '") rest in
    record {
      stands = record {
        fits = (let f = whole.fits in omega arith);
        same = λ k low. whole.same k (omega arith) ∙ get_or_append_left (codes "printf '") rest 0 k low;
      };
      within = omega arith;
    }

-- a byte behind the first quote
in-octals : (file : List ℕ) (place : ℕ) (header : List ℕ) (i : ℕ) → Parts file place header → i < 1 + length (octals_of header) → get_or file (place + 8 + i) 0 ≡ get_or (octals_of header ++ codes "'") i 0
unfolding statement_of
in-octals file place header i p low =
    let rest = octals_of header ++ codes "'" in
    let whole = parts-holds file place header p in
    let a = length-append (codes "printf '") rest in
    let b = length-append (octals_of header) (codes "'") in
    let there : place + 8 + i ≡ place + (8 + i) = omega arith in
    let back : 8 + i - 8 ≡ i = omega arith in
    ap (λ n. get_or file n 0) there
    ∙ whole.same (8 + i) (omega arith)
    ∙ get_or-append_right (codes "printf '") rest 8 (8 + i) 0 refl (omega arith)
    ∙ ap (λ n. get_or rest n 0) back

octal-parts : (file : List ℕ) (place : ℕ) (header : List ℕ) (p : Parts file place header) → file ≡ (p.front ++ codes "printf '") ++ (octals_of header ++ (codes "'" ++ p.behind))
unfolding statement_of
octal-parts file place header p =
    p.whole
    ∙ ap (λ r. p.front ++ r) (append_assoc (codes "printf '") (octals_of header ++ codes "'") p.behind ∙ ap (λ r. codes "printf '" ++ r) (append_assoc (octals_of header) (codes "'") p.behind))
    ∙ sym (append_assoc p.front (codes "printf '") (octals_of header ++ (codes "'" ++ p.behind)))

range-there : (file : List ℕ) (place : ℕ) (header : List ℕ) → Parts file place header → slice_range file (place + 8) (place + 8 + length (octals_of header)) ≡ octals_of header
range-there file place header p =
    let a = length-append p.front (codes "printf '") in
    let l = p.long in
    ap (λ (w : List ℕ). slice_range w (place + 8) (place + 8 + length (octals_of header))) (octal-parts file place header p)
    ∙ range-part (p.front ++ codes "printf '") (octals_of header) (codes "'" ++ p.behind) (place + 8) (place + 8 + length (octals_of header)) (omega arith) refl

closes-there : (file : List ℕ) (place : ℕ) (header : List ℕ) → Parts file place header → place + length (statement_of header) ≤ WINDOW → Closes file (place + 8) (place + 8 + length (octals_of header))
closes-there file place header p within =
    let octals = octals_of header in
    let n : ℕ = length octals in
    let long = length-statement header in
    let fits = (parts-holds file place header p).fits in
    let none : n - n ≡ 0 = omega arith in
    record {
      behind = omega arith;
      fits = omega arith;
      within = omega arith;
      quote = in-octals file place header n p (omega arith) ∙ get_or-append_right octals (codes "'") n n 0 refl (omega arith) ∙ ap (λ i. get_or (codes "'") i 0) none;
      first = λ k low below e.
          let i : ℕ = k - (place + 8) in
          let at : place + 8 + i ≡ k = omega arith in
          let inside : i < n = omega arith in
          has_no_quote-says octals i (bare-no_quote octals (bare-octals header))
          (sym (get_or_append_left octals (codes "'") 0 i inside) ∙ sym (in-octals file place header i p (omega arith)) ∙ ap (λ j. get_or file j 0) at ∙ e);
    }

pub embeds-parts : (file : List ℕ) (place : ℕ) (m : Machine) (header : List ℕ) → Parts file place header → place + length (statement_of header) ≤ WINDOW → IsHeader m header
    → Embeds file place (place + 8 + length (octals_of header)) header
embeds-parts file place m header p within is =
    let long = is.long in
    record {
      closes = closes-there file place header p within;
      octal = subst (λ t. IsOctal t header) (sym (range-there file place header p)) (octal-bytes header is.bytes);
      enough = omega arith;
    }

-- ---- exactly there

pub opens-block : (options : Options) (inputs : List Taken) (l : Positions) (rest : List ℕ) (m : Machine) (header : List ℕ) → Fits options inputs l → header_for m (placed_inputs inputs l) ≡ Some header
    → Opens (block_of options inputs l ++ rest) (statement_place options inputs l m)
opens-block options inputs l rest m header fits is =
    opens-parts (block_of options inputs l ++ rest) (statement_place options inputs l m) header (parts-block options inputs l rest m header fits is) (place-within options inputs l m header fits is)

places-open : (options : Options) (inputs : List Taken) (l : Positions) (rest : List ℕ) (k : ℕ) → Fits options inputs l → Contains (statement_places options inputs l) k → Opens (block_of options inputs l ++ rest) k
places-open options inputs l rest k fits c =
    elim (contained (header_for X64 (placed_inputs inputs l)) (header_for A64 (placed_inputs inputs l)) (machines_start options inputs l) k c) [
      | inl (header, is, at) ↦ subst (Opens (block_of options inputs l ++ rest)) (sym at) (opens-block options inputs l rest X64 header fits is)
      | inr (header, is, at) ↦ subst (Opens (block_of options inputs l ++ rest)) (sym at) (opens-block options inputs l rest A64 header fits is)
    ]

pub opens-only : (options : Options) (inputs : List Taken) (l : Positions) (rest : List ℕ) (k : ℕ) → All Meets inputs → Fits options inputs l
    → Opens (block_of options inputs l ++ rest) k ↔ Contains (statement_places options inputs l) k
opens-only options inputs l rest k meets fits = (opens-places options inputs l rest k meets fits, places-open options inputs l rest k fits)
