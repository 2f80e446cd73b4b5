-- The first `dd` statement in the window of a linked file.
use Rattle.std.proofs.Common.{◌≡◌, ◌≢◌, ◌⊎◌, inl, inr, ℕ, zero, suc, ◌+◌, ◌-◌, ◌/◌, ◌%◌, ◌≤◌, ◌<◌, ◌==◌, ◌&&◌, not, cond, Bool, true, false, List, [], ◌∷◌, ◌++◌, length, take, get_or, Option, Some, None, refl, sym, ap, ◌∙◌, arith, length-append, append_assoc, subst}
use Rattle.std.specs.Prelude.{codes, All}
use Rattle.std.specs.Fmt.{decimal}
use Rattle.std.specs.Option.{is_some}
use Rattle.std.proofs.lemmas.Bool.{and_parts, cases_lt}
use Rattle.std.proofs.lemmas.Bool.Decides.{nat_tests}
use Rattle.std.proofs.lemmas.Fmt.{decimal_by_steps}
use Rattle.std.proofs.lemmas.List.{get_or_append_left, get_or-append_right, take_all, take-append-le}
use Rattle.memchr.specs.Find.{Nowhere}
use Rattle.ap_fields.specs.declared.sizes.TheConstants.{BLOCK, WINDOW}
use Rattle.ap_fields.specs.Fields.{bytes_of}
use Rattle.ap_fields.specs.Bytes.{zeros}
use Rattle.ap_octal.specs.DdPlace.{FirstDd, HasDd, StandsDd}
use Rattle.ap_octal.specs.Statement.{octals_of, statement_of}
use Rattle.ap_octal.proofs.DdTexts.{written, stands_written, high_bytes, ten_bytes, begins_blank, begins_b}
use Rattle.ap_check.specs.declared.options.Options.{Options}
use Rattle.ap_check.specs.declared.options.Systems.{Systems}
use Rattle.ap_check.specs.Options.{for_windows, for_mac, has_system}
use Rattle.ap_check.specs.Windows.{x64_of}
use Rattle.ap_elf.specs.declared.machine.Machine.{Machine}
use Rattle.ap_elf.specs.declared.machine.Machine.TheVariants.{X64, A64}
use Rattle.ap_elf.specs.Machines.{is_machine}
use Rattle.ap_check.specs.Inputs.{Taken, Meets}
use Rattle.ap_layout.specs.Positions.{Positions, PlacedInput, Fits, only_inputs, placed_inputs}
use Rattle.ap_layout.specs.MachPlaces.{mach_input}
use Rattle.ap_pe.specs.Claims.{place_bytes}
use Rattle.ap_script.specs.Script.{or_tests, script_start, dd_line, darwin_x64_lines, darwin_lines, system_line, system_lines, machine_start, machine_end, machine_lines, script_end, script_of, header_for}
use Rattle.ap_script.specs.Tables.{embedded_bytes}
use Rattle.ap_script.specs.Delimiter.{digits_of, delimiter, delimiter_number}
use Rattle.ap_script.specs.Blocks.{opening, opening_line, body_of, closing, script_for, shell_text, spaces, second_half, block_of}
use Rattle.ap_script.specs.Stands.{HasZeros, dd_place, script_dd}
use Rattle.ap_script.proofs.Openings.{lacks, lacks-says}
use Rattle.ap_script.proofs.Quotes.{is_bare, bare-octals}
use Rattle.ap_script.proofs.TableZeros.{body-zeros}
use Rattle.ap_script.proofs.BlockParts.{small-units, length-opening, length-body, length-closing, window_text, length-window, block-parts, window-parts, behind_body, starts-closing, starts-body}

-- ---- whether an input has a Mach-O header

both-some : (b : Bool) (h : List ℕ) (e : Taken) (x : Option (List ℕ)) (y : Option Taken) → is_some x ≡ is_some y → is_some (cond b (Some h) x) ≡ is_some (cond b (Some e) y)
both-some true h e x y same = refl
both-some false h e x y same = same

header-some : (ps : List PlacedInput) → is_some (header_for X64 ps) ≡ is_some (x64_of (only_inputs ps))
header-some [] = refl
header-some (p ∷ ps) =
    both-some (is_machine X64 p.input.machine) (embedded_bytes p.input p.table) p.input (header_for X64 ps) (x64_of (only_inputs ps)) (header-some ps)

header-there : (options : Options) (inputs : List Taken) (l : Positions) → Fits options inputs l → is_some (header_for X64 (placed_inputs inputs l)) ≡ is_some (x64_of inputs)
header-there options inputs l fits = header-some (placed_inputs inputs l) ∙ ap (λ x. is_some (x64_of x)) fits.all

chosen-input : (mac : Bool) (x : Option Taken) (e : Taken) → cond mac x None ≡ Some e → (mac ≡ true) × (is_some x ≡ true)
chosen-input true x e is = (refl, ap is_some is)
chosen-input false x e is = absurd (cc)

no-input : (mac : Bool) (x : Option Taken) → cond mac x None ≡ None → (mac ≡ false) ⊎ (is_some x ≡ false)
no-input true x is = inr (ap is_some is)
no-input false x is = inl refl

-- ---- the script's text

-- the lines for macOS up to the operands, and behind them
abbrev mac_front : List ℕ
mac_front =
    codes "if [ \"$s\" = Darwin ]; then\nif [ \"$m\" = x86_64 ]; then\ncp \"$0\" \"$t\" || exit 121\nchmod 700 \"$t\" || exit 122\ndd if=\"$t\" of=\"$t\""

abbrev mac_behind : List ℕ → List ℕ
mac_behind z = codes " 2>/dev/null || exit 123\nexec \"$t\" \"$@\"\nfi\nexit 125\nfi\n" ++ z

assoc-four : (a y c e z : List ℕ) → (((a ++ y) ++ c) ++ e) ++ z ≡ a ++ (((y ++ c) ++ e) ++ z)
assoc-four a y c e z =
    ap (λ r. (r ++ e) ++ z) (append_assoc a y c)
    ∙ ap (λ r. r ++ z) (append_assoc a (y ++ c) e)
    ∙ append_assoc a ((y ++ c) ++ e) z

eight : decimal 8 ≡ codes "8"
eight =
    decimal_by_steps (λ m digits. m < 10 → digits ≡ (48 + m) ∷ []) (λ m low one. refl) (λ m digits high h one. absurd (omega (arith, high, one))) 8 (omega arith) (omega arith)

lines-written : (skip count : ℕ) (z : List ℕ) → darwin_lines true skip count ++ z ≡ mac_front ++ written 8 skip count (mac_behind z)
unfolding darwin_lines darwin_x64_lines dd_line
lines-written skip count z =
    let n = codes " conv=notrunc 2>/dev/null || exit 123\n" in
    let c = codes "exec \"$t\" \"$@\"\nfi\n" in
    let e = codes "exit 125\nfi\n" in
    ap (λ r. mac_front ++ (codes " bs=8 skip=" ++ r))
    (assoc-four (decimal skip) (codes " count=" ++ (decimal count ++ n)) c e z
    ∙ ap (λ r. decimal skip ++ (codes " count=" ++ r)) (assoc-four (decimal count) n c e z))
    ∙ ap (λ d. mac_front ++ (codes " bs=" ++ (d ++ (codes " skip=" ++ (decimal skip ++ (codes " count=" ++ (decimal count ++ (codes " conv=notrunc" ++ mac_behind z)))))))) (sym eight)

-- what stands in the script behind the lines for macOS
abbrev lines_behind : Systems → Option (List ℕ) → Option (List ℕ) → List ℕ → List ℕ
lines_behind systems x y fill = mac_behind (system_line systems ++ ((machine_lines X64 x ++ (machine_lines A64 y ++ script_end)) ++ fill))

lines-chosen : (mac some : Bool) (skip count : ℕ) → mac ≡ true → some ≡ true → cond mac (darwin_lines some skip count) [] ≡ darwin_lines true skip count
lines-chosen mac some skip count m s = ap (λ b. cond b (darwin_lines some skip count) []) m ∙ ap (λ b. darwin_lines b skip count) s

script-written : (systems : Systems) (x y : Option (List ℕ)) (skip count : ℕ) (fill : List ℕ) → has_system systems 16 ≡ true → is_some x ≡ true
    → script_of systems x y skip count ++ fill ≡ script_start ++ (mac_front ++ written 8 skip count (lines_behind systems x y fill))
unfolding script_of system_lines
script-written systems x y skip count fill mac some =
    let rest = machine_lines X64 x ++ (machine_lines A64 y ++ script_end) in
    let line = system_line systems in
    let darwin = cond (has_system systems 16) (darwin_lines (is_some x) skip count) [] in
    append_assoc script_start ((darwin ++ line) ++ rest) fill
    ∙ ap (λ r. script_start ++ r)
    (append_assoc (darwin ++ line) rest fill
    ∙ append_assoc darwin line (rest ++ fill)
    ∙ ap (λ r. r ++ (line ++ (rest ++ fill))) (lines-chosen (has_system systems 16) (is_some x) skip count mac some)
    ∙ lines-written skip count (line ++ (rest ++ fill)))

-- ---- no `b` stands in front of it

pub lacks-append : (b : ℕ) (xs ys : List ℕ) → lacks b xs ≡ true → lacks b ys ≡ true → lacks b (xs ++ ys) ≡ true
lacks-append b [] ys x y = y
lacks-append b (c ∷ xs) ys x y =
    let parts = and_parts (not (c == b)) (lacks b xs) x in
    rw parts.0 (lacks-append b xs ys parts.1 y)

digit-other : (x : ℕ) → x < 10 → not (48 + x == 98) ≡ true
digit-other x low = grind (arith, nat_tests, low)

lacks-digits : (n k : ℕ) → lacks 98 (digits_of n k) ≡ true
lacks-digits zero k = refl
lacks-digits (suc n) k = lacks-append 98 (digits_of n (k / 10)) ((48 + k % 10) ∷ []) (lacks-digits n (k / 10)) (rw (digit-other (k % 10) (omega arith)) refl)

lacks-delimiter : (number : ℕ) → lacks 98 (delimiter number) ≡ true
lacks-delimiter number = lacks-digits 8 number

lacks-front : (w d : Bool) (number : ℕ)
    → lacks 98 ((cond w (codes "MZqFpD='") (cond d (codes "APEDBG='") (codes "jartsr='")) ++ codes "\n") ++ (zeros 51 ++ (cond w place_bytes (zeros 4) ++ opening_line number))) ≡ true
unfolding zeros bytes_of
lacks-front true d number = lacks-append 98 (delimiter number) (codes "'\n") (lacks-delimiter number) refl
lacks-front false true number = lacks-append 98 (delimiter number) (codes "'\n") (lacks-delimiter number) refl
lacks-front false false number = lacks-append 98 (delimiter number) (codes "'\n") (lacks-delimiter number) refl

pub lacks-opening : (options : Options) (number : ℕ) → lacks 98 (opening options number) ≡ true
unfolding opening
lacks-opening options number = lacks-front (for_windows options) options.debug number

pub lacks-closing : (number : ℕ) → lacks 98 (closing number) ≡ true
unfolding closing
lacks-closing number = lacks-append 98 (delimiter number) (codes "\n") (lacks-delimiter number) refl

lacks-start : lacks 98 (script_start ++ mac_front) ≡ true
unfolding script_start
lacks-start = refl

-- ---- the parts of the window in front of the operands

abbrev quiet_part : ℕ → List ℕ
quiet_part number = closing number ++ (script_start ++ mac_front)

lacks-quiet : (number : ℕ) → lacks 98 (quiet_part number) ≡ true
lacks-quiet number = lacks-append 98 (closing number) (script_start ++ mac_front) (lacks-closing number) lacks-start

length-mac : length mac_front ≡ 124
length-mac = refl

length-quiet : (number : ℕ) → length (quiet_part number) ≡ 17 + (length script_start + 124)
length-quiet number =
    let a = length-append (closing number) (script_start ++ mac_front) in
    let b = length-append script_start mac_front in
    let c = length-closing number in
    let m = length-mac in
    omega (arith, a, b, c, m)

join-three : (c d e w : List ℕ) → c ++ (d ++ (e ++ w)) ≡ (c ++ (d ++ e)) ++ w
join-three c d e w = sym (append_assoc c (d ++ e) w ∙ ap (λ r. c ++ r) (append_assoc d e w))

-- a text in parts, of which the first two have no statement
record Fronted (text opening body behind : List ℕ) : Type 0 where
  whole : text ≡ opening ++ (body ++ behind)
  opens : lacks 98 opening ≡ true
  starts : get_or (body ++ behind) 0 0 ≡ 0
  zeros : HasZeros body
  line : get_or behind 0 0 ≡ 10

-- a byte behind a text that lacks it
past-lacking : (xs ys : List ℕ) (k : ℕ) → lacks 98 xs ≡ true → get_or ys 0 0 ≢ 98 → get_or (xs ++ ys) (k + 1) 0 ≡ 98 → length xs ≤ k
past-lacking xs ys k h start e =
    let n : ℕ = length xs in
    elim (cases_lt (k + 1) n) as (λ _. length xs ≤ k) [
      | inl low ↦ absurd (lacks-says 98 xs (k + 1) h low (sym (get_or_append_left xs ys 0 (k + 1) low) ∙ e))
      | inr high ↦ elim (cases_lt k n) as (λ _. length xs ≤ k) [
        | inr past ↦ past
        | inl last ↦
            (let none : k + 1 - n ≡ 0 = omega arith in
            absurd (start (ap (λ i. get_or ys i 0) (sym none) ∙ sym (get_or-append_right xs ys n (k + 1) 0 refl high) ∙ e)))
      ]
    ]

-- eight bytes behind a text that has zeros, and a newline behind it
past-zeros : (xs ys : List ℕ) (k : ℕ) → HasZeros xs → get_or ys 0 0 ≡ 10 → ((i : ℕ) → i < 8 → 32 ≤ get_or (xs ++ ys) (k + i) 0) → length xs ≤ k
past-zeros xs ys k has line high =
    let n : ℕ = length xs in
    elim (cases_lt k n) as (λ _. length xs ≤ k) [
      | inr past ↦ past
      | inl inside ↦ elim (cases_lt n (k + 8)) as (λ _. length xs ≤ k) [
        | inl over ↦
            (let there : k + (n - k) ≡ n = omega arith in
            let none : n - n ≡ 0 = omega arith in
            let byte : get_or (xs ++ ys) (k + (n - k)) 0 ≡ 10 =
            ap (λ i. get_or (xs ++ ys) i 0) there ∙ get_or-append_right xs ys n n 0 refl (omega arith) ∙ ap (λ i. get_or ys i 0) none ∙ line in
            let h = high (n - k) (omega arith) in
            absurd (omega (arith, h, byte)))
        | inr within ↦
            (let z = has k within in
            let byte : get_or (xs ++ ys) (k + z.0) 0 ≡ 0 = get_or_append_left xs ys 0 (k + z.0) (omega (arith, z.1, within)) ∙ z.2 in
            let h = high z.0 z.1 in
            absurd (omega (arith, h, byte)))
      ]
    ]

-- a place in a text behind a part
behind-part : (xs ys : List ℕ) (k i : ℕ) → length xs ≤ k → get_or (xs ++ ys) (k + i) 0 ≡ get_or ys (k - length xs + i) 0
behind-part xs ys k i past =
    let n : ℕ = length xs in
    let back : k + i - n ≡ k - n + i = omega arith in
    get_or-append_right xs ys n (k + i) 0 refl (omega arith) ∙ ap (λ j. get_or ys j 0) back

not-b : (c d : ℕ) → c ≡ d → d < 98 → c ≢ 98
not-b c d is low e = absurd (omega (arith, is, low, e))

-- a statement stands behind the two
record Behind (text behind : List ℕ) (k far : ℕ) : Type 0 where
  past : far ≤ k
  blank : get_or behind (k - far) 0 ≡ 32
  letter : get_or behind (k - far + 1) 0 ≡ 98

stands-behind : (text opening body behind : List ℕ) (k size skip count : ℕ) → Fronted text opening body behind → StandsDd text k size skip count
    → Behind text behind k (length opening + length body)
stands-behind text opening body behind k size skip count f s =
    let a : ℕ = length opening in
    let b : ℕ = length body in
    let there : (i : ℕ) → get_or text i 0 ≡ get_or (opening ++ (body ++ behind)) i 0 = λ i. ap (λ (w : List ℕ). get_or w i 0) f.whole in
    let p1 = past-lacking opening (body ++ behind) k f.opens (not-b (get_or (body ++ behind) 0 0) 0 f.starts (omega arith)) (sym (there (k + 1)) ∙ begins_b text k size skip count s) in
    let next : (i : ℕ) → get_or text (k + i) 0 ≡ get_or (body ++ behind) (k - a + i) 0 = λ i. there (k + i) ∙ behind-part opening (body ++ behind) k i p1 in
    let p2 = past-zeros body behind (k - a) f.zeros f.line (λ i low. subst (λ c. 32 ≤ c) (next i) (high_bytes text k size skip count i s low)) in
    let last : (i : ℕ) → get_or text (k + i) 0 ≡ get_or behind (k - a - b + i) 0 = λ i. next i ∙ behind-part body behind (k - a) i p2 in
    let same : k - a - b ≡ k - (a + b) = omega arith in
    let here : k + 0 ≡ k = omega arith in
    let none : k - a - b + 0 ≡ k - (a + b) = omega arith in
    record {
      past = omega (arith, p1, p2);
      blank = ap (λ i. get_or behind i 0) (sym none) ∙ sym (last 0) ∙ ap (λ i. get_or text i 0) here ∙ begins_blank text k size skip count s;
      letter = ap (λ i. get_or behind (i + 1) 0) (sym same) ∙ sym (last 1) ∙ begins_b text k size skip count s;
    }

-- ---- a text without statements

-- no `b` stands behind a blank in a text, nor at its start
record Calm (text : List ℕ) : Type 0 where
  starts : get_or text 0 0 ≢ 98
  calm : (i : ℕ) → get_or text i 0 ≡ 32 → get_or text (i + 1) 0 ≢ 98

lacks-everywhere : (b : ℕ) (text : List ℕ) (j : ℕ) → 0 < b → lacks b text ≡ true → get_or text j 0 ≢ b
lacks-everywhere b [] j some h e = absurd (omega (arith, some, e))
lacks-everywhere b (c ∷ text) zero some h e = lacks-says b (c ∷ text) 0 h (omega arith) e
lacks-everywhere b (c ∷ text) (suc j) some h e = lacks-everywhere b text j some (and_parts (not (c == b)) (lacks b text) h).1 e

calm-quiet : (text : List ℕ) → lacks 98 text ≡ true → Calm text
calm-quiet text h = record { starts = lacks-everywhere 98 text 0 (omega arith) h; calm = λ i blank. lacks-everywhere 98 text (i + 1) (omega arith) h }

calm-bare : (text : List ℕ) → get_or text 0 0 ≢ 98 → lacks 32 text ≡ true → Calm text
calm-bare text starts h = record { starts = starts; calm = λ i blank letter. lacks-everywhere 32 text i (omega arith) h blank }

calm-starts : (xs ys : List ℕ) → get_or xs 0 0 ≢ 98 → get_or ys 0 0 ≢ 98 → get_or (xs ++ ys) 0 0 ≢ 98
calm-starts [] ys x y = y
calm-starts (c ∷ xs) ys x y = x

calm-at : (xs ys : List ℕ) (i : ℕ) → Calm xs → Calm ys → get_or (xs ++ ys) i 0 ≡ 32 → get_or (xs ++ ys) (i + 1) 0 ≡ 98 → ⊥
calm-at xs ys i x y blank letter =
    let n : ℕ = length xs in
    elim (cases_lt i n) [
      | inl low ↦ elim (cases_lt (i + 1) n) [
        | inl next ↦ x.calm i (sym (get_or_append_left xs ys 0 i low) ∙ blank) (sym (get_or_append_left xs ys 0 (i + 1) next) ∙ letter)
        | inr end ↦
            (let none : i + 1 - n ≡ 0 = omega arith in
            y.starts (ap (λ j. get_or ys j 0) (sym none) ∙ sym (get_or-append_right xs ys n (i + 1) 0 refl end) ∙ letter))
      ]
      | inr past ↦ y.calm (i - n) (sym (get_or-append_right xs ys n i 0 refl past) ∙ blank) (sym (behind-part xs ys i 1 past) ∙ letter)
    ]

calm-append : (xs ys : List ℕ) → Calm xs → Calm ys → Calm (xs ++ ys)
calm-append xs ys x y = record { starts = calm-starts xs ys x.starts y.starts; calm = λ i blank letter. calm-at xs ys i x y blank letter }

-- the parts of the script
bare-no_blank : (text : List ℕ) → is_bare text ≡ true → lacks 32 text ≡ true
bare-no_blank [] h = refl
bare-no_blank (c ∷ text) h =
    let x = and_parts (not (c == 32)) (not (c == 39) && is_bare text) h in
    let y = and_parts (not (c == 39)) (is_bare text) x.1 in
    rw x.0 (bare-no_blank text y.1)

calm-statement : (header : List ℕ) → Calm (statement_of header)
unfolding statement_of
calm-statement header =
    calm-append (codes "printf ") (39 ∷ (octals_of header ++ codes "'")) (calm-quiet (codes "printf ") refl)
    (calm-bare (39 ∷ (octals_of header ++ codes "'")) (λ e. omega (arith, e)) (lacks-append 32 (octals_of header) (codes "'") (bare-no_blank (octals_of header) (bare-octals header)) refl))

lacks-machine : (m : Machine) → lacks 98 (machine_start m) ≡ true
unfolding machine_start
lacks-machine X64 = refl
lacks-machine A64 = refl

lacks-end : (lacks 98 machine_end ≡ true) × (lacks 98 script_end ≡ true)
unfolding machine_end script_end
lacks-end = (refl, refl)

calm-lines : (m : Machine) (header : Option (List ℕ)) → Calm (machine_lines m header)
calm-lines m None = calm-quiet [] refl
calm-lines m (Some header) =
    calm-append (machine_start m) (statement_of header ++ machine_end) (calm-quiet (machine_start m) (lacks-machine m))
    (calm-append (statement_of header) machine_end (calm-statement header) (calm-quiet machine_end lacks-end.0))

abbrev line_by : Bool → Bool → Bool → List ℕ
line_by a b c =
    codes "if " ++ (or_tests (cond a (codes "Linux" ∷ []) [] ++ (cond b (codes "FreeBSD" ∷ []) [] ++ cond c (codes "NetBSD" ∷ []) [])) ++ codes "; then\n")

lacks-line : (a b c : Bool) → lacks 98 (line_by a b c) ≡ true
lacks-line true true true = refl
lacks-line true true false = refl
lacks-line true false true = refl
lacks-line true false false = refl
lacks-line false true true = refl
lacks-line false true false = refl
lacks-line false false true = refl
lacks-line false false false = refl

lacks-system_line : (systems : Systems) → lacks 98 (system_line systems) ≡ true
unfolding system_line
lacks-system_line systems = lacks-line (has_system systems 1) (has_system systems 2) (has_system systems 4)

lacks-darwin : (skip count : ℕ) → lacks 98 (darwin_lines false skip count) ≡ true
unfolding darwin_lines
lacks-darwin skip count = refl

lacks-mac : (mac some : Bool) (skip count : ℕ) → (mac ≡ false) ⊎ (some ≡ false) → lacks 98 (cond mac (darwin_lines some skip count) []) ≡ true
lacks-mac false some skip count h = refl
lacks-mac true false skip count h = lacks-darwin skip count
lacks-mac true true skip count (inl e) = absurd (cc)
lacks-mac true true skip count (inr e) = absurd (cc)

lacks-spaces : (n : ℕ) → lacks 98 (spaces n) ≡ true
unfolding spaces
lacks-spaces zero = refl
lacks-spaces (suc n) = lacks-spaces n

lacks-script_start : lacks 98 script_start ≡ true
unfolding script_start
lacks-script_start = refl

calm-script : (systems : Systems) (x y : Option (List ℕ)) (skip count : ℕ) → (has_system systems 16 ≡ false) ⊎ (is_some x ≡ false) → Calm (script_of systems x y skip count)
unfolding script_of system_lines
calm-script systems x y skip count none =
    let darwin = cond (has_system systems 16) (darwin_lines (is_some x) skip count) [] in
    let lines = machine_lines A64 y ++ script_end in
    calm-append script_start ((darwin ++ system_line systems) ++ (machine_lines X64 x ++ lines)) (calm-quiet script_start lacks-script_start)
    (calm-append (darwin ++ system_line systems) (machine_lines X64 x ++ lines)
    (calm-quiet (darwin ++ system_line systems)
    (lacks-append 98 darwin (system_line systems) (lacks-mac (has_system systems 16) (is_some x) skip count none) (lacks-system_line systems)))
    (calm-append (machine_lines X64 x) lines (calm-lines X64 x)
    (calm-append (machine_lines A64 y) script_end (calm-lines A64 y) (calm-quiet script_end lacks-end.1))))

-- ---- the window

abbrev behind_dd : Options → List Taken → Positions → List ℕ
behind_dd options inputs l =
    lines_behind options.systems (header_for X64 (placed_inputs inputs l)) (header_for A64 (placed_inputs inputs l)) (spaces (WINDOW - length (shell_text options inputs l)))

abbrev operands_of : Options → List Taken → Positions → List ℕ
operands_of options inputs l = written 8 (l.mach_at / 8) (l.mach_len / 8) (behind_dd options inputs l)

abbrev front_of : Options → List Taken → Positions → List ℕ
front_of options inputs l =
    let k = delimiter_number (body_of options inputs l) in
    opening options k ++ (body_of options inputs l ++ quiet_part k)

behind-written : (options : Options) (inputs : List Taken) (l : Positions) → for_mac options ≡ true → is_some (header_for X64 (placed_inputs inputs l)) ≡ true
    → behind_body options inputs l ≡ quiet_part (delimiter_number (body_of options inputs l)) ++ operands_of options inputs l
behind-written options inputs l mac some =
    let k = delimiter_number (body_of options inputs l) in
    let x = header_for X64 (placed_inputs inputs l) in
    let y = header_for A64 (placed_inputs inputs l) in
    ap (λ r. closing k ++ r) (script-written options.systems x y (l.mach_at / 8) (l.mach_len / 8) (spaces (WINDOW - length (shell_text options inputs l))) mac some)
    ∙ join-three (closing k) script_start mac_front (operands_of options inputs l)

window-written : (options : Options) (inputs : List Taken) (l : Positions) → for_mac options ≡ true → is_some (header_for X64 (placed_inputs inputs l)) ≡ true
    → window_text options inputs l ≡ front_of options inputs l ++ operands_of options inputs l
window-written options inputs l mac some =
    let k = delimiter_number (body_of options inputs l) in
    let body = body_of options inputs l in
    window-parts options inputs l
    ∙ ap (λ r. opening options k ++ (body ++ r)) (behind-written options inputs l mac some)
    ∙ sym (append_assoc (opening options k) (body ++ quiet_part k) (operands_of options inputs l) ∙ ap (λ r. opening options k ++ r) (append_assoc body (quiet_part k) (operands_of options inputs l)))

length-front : (options : Options) (inputs : List Taken) (l : Positions) → Fits options inputs l → length (front_of options inputs l) ≡ dd_place l
length-front options inputs l fits =
    let k = delimiter_number (body_of options inputs l) in
    let body = body_of options inputs l in
    let a = length-append (opening options k) (body ++ quiet_part k) in
    let b = length-append body (quiet_part k) in
    let o = length-opening options k in
    let m = length-body options inputs l fits in
    let q = length-quiet k in
    omega (arith, a, b, o, m, q)

-- what stands behind the body begins with the newline in front of the delimiter
fronted : (options : Options) (inputs : List Taken) (l : Positions) → All Meets inputs → Fits options inputs l
    → Fronted (window_text options inputs l) (opening options (delimiter_number (body_of options inputs l))) (body_of options inputs l) (behind_body options inputs l)
fronted options inputs l meets fits =
    let k = delimiter_number (body_of options inputs l) in
    record {
      whole = window-parts options inputs l;
      opens = lacks-opening options k;
      starts = starts-body options inputs l (behind_body options inputs l);
      zeros = body-zeros options inputs l meets fits;
      line = starts-closing k (script_for options inputs l ++ spaces (WINDOW - length (shell_text options inputs l)));
    }

take-window : (options : Options) (inputs : List Taken) (l : Positions) (rest : List ℕ) → Fits options inputs l → take WINDOW (block_of options inputs l ++ rest) ≡ window_text options inputs l
take-window options inputs l rest fits =
    let window = window_text options inputs l in
    let behind = second_half options inputs l ++ rest in
    ap (take WINDOW) (block-parts options inputs l rest)
    ∙ ap (λ n. take n (window ++ behind)) (sym (length-window options inputs l fits))
    ∙ take-append-le (length window) window behind (omega arith)
    ∙ take_all (length window) window (omega arith)

window-stands : (options : Options) (inputs : List Taken) (l : Positions) → Fits options inputs l → for_mac options ≡ true → is_some (header_for X64 (placed_inputs inputs l)) ≡ true
    → StandsDd (window_text options inputs l) (dd_place l) 8 (l.mach_at / 8) (l.mach_len / 8)
window-stands options inputs l fits mac some =
    let small = small-units options inputs l fits in
    stands_written (window_text options inputs l) (front_of options inputs l) (behind_dd options inputs l) (dd_place l) 8 (l.mach_at / 8) (l.mach_len / 8)
    (window-written options inputs l mac some) (length-front options inputs l fits) (omega arith) (omega arith) (omega (arith, small)) (omega (arith, small))

-- none stands in front of it
first-past : (options : Options) (inputs : List Taken) (l : Positions) (k size skip count : ℕ) → All Meets inputs → Fits options inputs l → for_mac options ≡ true
    → is_some (header_for X64 (placed_inputs inputs l)) ≡ true → StandsDd (window_text options inputs l) k size skip count → dd_place l ≤ k
first-past options inputs l k size skip count meets fits mac some s =
    let number = delimiter_number (body_of options inputs l) in
    let front = opening options number in
    let body = body_of options inputs l in
    let quiet = quiet_part number in
    let operands = operands_of options inputs l in
    let far : ℕ = length front + length body in
    let b = stands-behind (window_text options inputs l) front body (behind_body options inputs l) k size skip count (fronted options inputs l meets fits) s in
    let letter = ap (λ (w : List ℕ). get_or w (k - far + 1) 0) (sym (behind-written options inputs l mac some)) ∙ b.letter in
    let past = past-lacking quiet operands (k - far) (lacks-quiet number) (λ e. omega (arith, e)) letter in
    let before = b.past in
    let o = length-opening options number in
    let m = length-body options inputs l fits in
    let q = length-quiet number in
    omega (arith, past, before, o, m, q)

-- and none anywhere without it
none-calm : (options : Options) (inputs : List Taken) (l : Positions) (k size skip count : ℕ) → All Meets inputs → Fits options inputs l
    → (for_mac options ≡ false) ⊎ (is_some (header_for X64 (placed_inputs inputs l)) ≡ false) → StandsDd (window_text options inputs l) k size skip count → ⊥
none-calm options inputs l k size skip count meets fits none s =
    let number = delimiter_number (body_of options inputs l) in
    let script = script_for options inputs l in
    let fill = spaces (WINDOW - length (shell_text options inputs l)) in
    let b = stands-behind (window_text options inputs l) (opening options number) (body_of options inputs l) (behind_body options inputs l) k size skip count (fronted options inputs l meets fits) s in
    let calm = calm-append (closing number) (script ++ fill) (calm-quiet (closing number) (lacks-closing number))
    (calm-append script fill (calm-script options.systems (header_for X64 (placed_inputs inputs l)) (header_for A64 (placed_inputs inputs l)) (l.mach_at / 8) (l.mach_len / 8) none)
    (calm-quiet fill (lacks-spaces (WINDOW - length (shell_text options inputs l))))) in
    calm.calm (k - (length (opening options number) + length (body_of options inputs l))) b.blank b.letter

-- ---- a file that begins with a block

first-by : (options : Options) (inputs : List Taken) (l : Positions) (rest : List ℕ) → All Meets inputs → Fits options inputs l → for_mac options ≡ true
    → is_some (header_for X64 (placed_inputs inputs l)) ≡ true → FirstDd (block_of options inputs l ++ rest) (script_dd l)
first-by options inputs l rest meets fits mac some =
    let window = take-window options inputs l rest fits in
    let stands = window-stands options inputs l fits mac some in
    let room = ten_bytes (window_text options inputs l) (dd_place l) 8 (l.mach_at / 8) (l.mach_len / 8) stands in
    let long = length-window options inputs l fits in (
      record {
        low = omega arith;
        high = omega (arith, room, long);
        before = λ k low below d.
            let past = first-past options inputs l k d.0 d.1 d.2 meets fits mac some (subst (λ w. StandsDd w k d.0 d.1 d.2) window d.3) in
            omega (arith, past, below);
      },
      subst (λ w. StandsDd w (dd_place l) 8 (l.mach_at / 8) (l.mach_len / 8)) (sym window) stands,
    )

pub first-block : (options : Options) (inputs : List Taken) (l : Positions) (rest : List ℕ) (e : Taken) → All Meets inputs → Fits options inputs l → mach_input options inputs ≡ Some e
    → FirstDd (block_of options inputs l ++ rest) (script_dd l)
first-block options inputs l rest e meets fits is =
    let chosen = chosen-input (for_mac options) (x64_of inputs) e is in
    first-by options inputs l rest meets fits chosen.0 (header-there options inputs l fits ∙ chosen.1)

none-there : (options : Options) (inputs : List Taken) (l : Positions) → Fits options inputs l → mach_input options inputs ≡ None
    → (for_mac options ≡ false) ⊎ (is_some (header_for X64 (placed_inputs inputs l)) ≡ false)
none-there options inputs l fits is =
    elim (no-input (for_mac options) (x64_of inputs) is) as (λ _. (for_mac options ≡ false) ⊎ (is_some (header_for X64 (placed_inputs inputs l)) ≡ false)) [
      | inl mac ↦ inl mac
      | inr some ↦ inr (header-there options inputs l fits ∙ some)
    ]

pub none-block : (options : Options) (inputs : List Taken) (l : Positions) (rest : List ℕ) → All Meets inputs → Fits options inputs l → mach_input options inputs ≡ None
    → Nowhere (HasDd (block_of options inputs l ++ rest)) 0 WINDOW
none-block options inputs l rest meets fits is k low below d =
    none-calm options inputs l k d.0 d.1 d.2 meets fits (none-there options inputs l fits is)
    (subst (λ w. StandsDd w k d.0 d.1 d.2) (take-window options inputs l rest fits) d.3)
