-- The parts of the script: how long they are, and where quotes stand in them.
use Rattle.std.proofs.Common.{◌≡◌, inl, inr, ℕ, zero, suc, ◌+◌, ◌*◌, ◌-◌, ◌%◌, ◌^◌, ◌≤◌, ◌<◌, ◌&&◌, cond, Bool, true, false, List, [], ◌∷◌, ◌++◌, length, get_or, nat_lt, Option, Some, None, refl, sym, ap, ◌∙◌, arith, length-append, append_assoc, subst}
use Rattle.std.specs.Prelude.{codes, IfSome, nat_eq}
use Rattle.std.specs.Int.{byte_at, bytes_low_first}
use Rattle.std.specs.List.{flat_map, starts_with}
use Rattle.std.specs.Option.{is_some}
use Rattle.std.specs.Fmt.{decimal}
use Rattle.std.proofs.lemmas.Bool.{and_parts, cases_lt}
use Rattle.std.proofs.lemmas.Bool.Decides.{nat_tests}
use Rattle.std.proofs.lemmas.List.{get_or_append_left, get_or-append_right}
use Rattle.std.proofs.lemmas.Fmt.{decimal_by_steps, length-decimal-le}
use Rattle.ap_fields.specs.Fields.{bytes_of, number_at}
use Rattle.ap_fields.proofs.Numbers.{byte_at-lt}
use Rattle.ap_elf.specs.Written.{header_bytes}
use Rattle.ap_octal.specs.Statement.{octal_of, octals_of, statement_of}
use Rattle.ap_octal.proofs.WriteLemmas.{length-octal_of}
use Rattle.ap_check.specs.declared.options.Systems.{Systems}
use Rattle.ap_elf.specs.declared.machine.Machine.{Machine}
use Rattle.ap_elf.specs.declared.machine.Machine.TheVariants.{X64, A64}
use Rattle.ap_elf.specs.Machines.{number_of}
use Rattle.ap_check.specs.Inputs.{Taken}
use Rattle.ap_layout.specs.Positions.{PlacedInput, entry_count}
use Rattle.ap_script.specs.Tables.{embedded_header, embedded_bytes}
use Rattle.ap_check.specs.Options.{has_system}
use Rattle.ap_elf.specs.Machines.{is_machine}
use Rattle.ap_elf.proofs.Machines.{is_machine-same}
use Rattle.ap_script.specs.Script.{script_start, or_tests, system_line, dd_line, darwin_x64_lines, darwin_lines, system_lines, machine_start, machine_end, machine_lines, script_end, script_of, header_for}
use Rattle.ap_script.proofs.Quotes.{digit-bare, has_no_quote, no_quote-append}
use Rattle.ap_script.proofs.Openings.{Marked, marked-append, marked-quiet, marked-statement, Parts, parts-behind, parts-front}

-- ---- embedded headers

pub length-embedded : (e : Taken) (t : ℕ) → length (embedded_bytes e t) ≡ 64
unfolding header_bytes embedded_header bytes_of
length-embedded e t = refl

low-bytes : (i n x k : ℕ) → get_or (bytes_low_first i n x) k 0 < 256
low-bytes i zero x k = omega arith
low-bytes i (suc n) x zero = byte_at-lt i x
low-bytes i (suc n) x (suc k) = low-bytes (suc i) n x k

abbrev AreBytes : List ℕ → Type 0
AreBytes text = (k : ℕ) → get_or text k 0 < 256

bytes-of : (n x : ℕ) → AreBytes (bytes_of n x)
unfolding bytes_of
bytes-of n x k = low-bytes 0 n x k

bytes-append : (xs ys : List ℕ) → AreBytes xs → AreBytes ys → AreBytes (xs ++ ys)
bytes-append xs ys x y k =
    elim (cases_lt k (length xs)) [
      | inl low ↦ subst (λ n. n < 256) (sym (get_or_append_left xs ys 0 k low)) (x k)
      | inr high ↦ subst (λ n. n < 256) (sym (get_or-append_right xs ys (length xs) k 0 refl high)) (y (k - length xs))
    ]

-- a number's bytes in front of bytes
bytes-more : (n x : ℕ) (rest : List ℕ) → AreBytes rest → AreBytes (bytes_of n x ++ rest)
bytes-more n x rest r = bytes-append (bytes_of n x) rest (bytes-of n x) r

abbrev are_low : List ℕ → Bool
are_low [] = true
are_low (c ∷ text) = nat_lt c 256 && are_low text

low-all : (text : List ℕ) → are_low text ≡ true → AreBytes text
low-all [] h k = omega arith
low-all (c ∷ text) h zero = grind (arith, nat_tests, (and_parts (nat_lt c 256) (are_low text) h).0)
low-all (c ∷ text) h (suc k) = low-all text (and_parts (nat_lt c 256) (are_low text) h).1 k

bytes-embedded : (e : Taken) (t : ℕ) → AreBytes (embedded_bytes e t)
unfolding header_bytes embedded_header
bytes-embedded e t =
    bytes-append (127 ∷ 69 ∷ 76 ∷ 70 ∷ 2 ∷ 1 ∷ 1 ∷ 9 ∷ 0 ∷ 0 ∷ 0 ∷ 0 ∷ 0 ∷ 0 ∷ 0 ∷ 0 ∷ []) _
    (low-all (127 ∷ 69 ∷ 76 ∷ 70 ∷ 2 ∷ 1 ∷ 1 ∷ 9 ∷ 0 ∷ 0 ∷ 0 ∷ 0 ∷ 0 ∷ 0 ∷ 0 ∷ 0 ∷ []) refl)
    (bytes-more 2 2 _
    (bytes-more 2 (number_of e.machine) _
    (bytes-more 4 1 _
    (bytes-more 8 e.entry _
    (bytes-more 8 t _
    (bytes-more 8 0 _
    (bytes-more 4 0 _
    (bytes-more 2 64 _
    (bytes-more 2 56 _
    (bytes-more 2 (entry_count e) _
    (bytes-more 2 0 _
    (bytes-more 2 0 _
    (bytes-of 2 0)))))))))))))

machine-small : (m : Machine) → number_of m < 256
machine-small X64 = omega arith
machine-small A64 = omega arith

two-bytes : (x : ℕ) → x < 256 → 0 + byte_at 0 x * 256 ^ 0 + byte_at 1 x * 256 ^ 1 ≡ x
two-bytes x h = omega arith

embedded-number : (e : Taken) (t : ℕ) → number_at 2 18 (embedded_bytes e t) ≡ number_of e.machine
unfolding number_at header_bytes embedded_header bytes_of
embedded-number e t = two-bytes (number_of e.machine) (machine-small e.machine)

embedded-begins : (e : Taken) (t : ℕ) → starts_with nat_eq (embedded_bytes e t) (127 ∷ 69 ∷ 76 ∷ 70 ∷ 2 ∷ 1 ∷ []) ≡ true
unfolding header_bytes embedded_header
embedded-begins e t = refl

-- what a header for a machine is
pub record IsHeader (m : Machine) (header : List ℕ) : Type 0 where
  pub long : length header ≡ 64
  pub bytes : (k : ℕ) → get_or header k 0 < 256
  pub begins : starts_with nat_eq header (127 ∷ 69 ∷ 76 ∷ 70 ∷ 2 ∷ 1 ∷ []) ≡ true
  pub number : number_at 2 18 header ≡ number_of m

is-header : (m : Machine) (e : Taken) (t : ℕ) → m ≡ e.machine → IsHeader m (embedded_bytes e t)
is-header m e t same = record {
  long = length-embedded e t;
  bytes = bytes-embedded e t;
  begins = embedded-begins e t;
  number = embedded-number e t ∙ ap number_of (sym same);
}

header-by : (b : Bool) (m : Machine) (e : Taken) (t : ℕ) (later : Option (List ℕ)) → (b ≡ true → m ≡ e.machine) → IfSome later (IsHeader m) → IfSome (cond b (Some (embedded_bytes e t)) later) (IsHeader m)
header-by true m e t later same rest = is-header m e t (same refl)
header-by false m e t later same rest = rest

pub header-is : (m : Machine) (ps : List PlacedInput) → IfSome (header_for m ps) (IsHeader m)
header-is m [] = tt
header-is m (p ∷ ps) = header-by (is_machine m p.input.machine) m p.input p.table (header_for m ps) (is_machine-same m p.input.machine) (header-is m ps)

-- ---- statements

pub length-octals : (header : List ℕ) → length (octals_of header) ≤ 4 * length header
length-octals [] = omega arith
length-octals (c ∷ header) =
    let here = length-octal_of c in
    let rest = length-octals header in
    let joined = length-append (octal_of c) (flat_map octal_of header) in
    omega arith

pub length-statement : (header : List ℕ) → length (statement_of header) ≡ 9 + length (octals_of header)
unfolding statement_of
length-statement header =
    let whole = length-append (codes "printf '") (octals_of header ++ codes "'") in
    let behind = length-append (octals_of header) (codes "'") in
    omega arith

-- ---- texts without quotes

-- a text has no quote, and so many bytes at most
pub record IsPlain (most : ℕ) (text : List ℕ) : Type 0 where
  pub few : length text ≤ most
  pub quiet : has_no_quote text ≡ true

plain-literal : (text : List ℕ) → has_no_quote text ≡ true → IsPlain (length text) text
plain-literal text quiet = record { few = omega arith; quiet = quiet }

plain-append : (m n : ℕ) (xs ys : List ℕ) → IsPlain m xs → IsPlain n ys → IsPlain (m + n) (xs ++ ys)
plain-append m n xs ys x y = record {
  few = (let a = length-append xs ys in let h = x.few in let k = y.few in omega arith);
  quiet = no_quote-append xs ys x.quiet y.quiet;
}

-- a literal in front of a text
plain-front : (front : List ℕ) (n : ℕ) (text : List ℕ) → has_no_quote front ≡ true → IsPlain n text → IsPlain (length front + n) (front ++ text)
plain-front front n text quiet h = plain-append (length front) n front text (plain-literal front quiet) h

plain-chosen : (b : Bool) (n : ℕ) (text : List ℕ) → IsPlain n text → IsPlain n (cond b text [])
plain-chosen true n text h = h
plain-chosen false n text h = record { few = omega arith; quiet = refl }

digit-quiet : (x : ℕ) → has_no_quote ((48 + x) ∷ []) ≡ true
digit-quiet x = rw (digit-bare x).1 refl

plain-number : (n : ℕ) → n ≤ 2048 → IsPlain 4 (decimal n)
plain-number n small = record {
  few = length-decimal-le 4 n (omega arith) (omega arith) (omega arith);
  quiet =
      decimal_by_steps (λ m digits. has_no_quote digits ≡ true) (λ m low. digit-quiet m)
      (λ m digits high h. no_quote-append digits ((48 + m % 10) ∷ []) h (digit-quiet (m % 10))) n (omega arith);
}

pub plain-script_start : IsPlain 117 script_start
unfolding script_start
plain-script_start = plain-literal script_start refl

plain-dd_line : (skip count : ℕ) → skip + count ≤ 2048 → IsPlain 82 (dd_line skip count)
unfolding dd_line
plain-dd_line skip count small =
    let end = codes " conv=notrunc 2>/dev/null || exit 123\n" in
    let numbers = decimal skip ++ (codes " count=" ++ (decimal count ++ end)) in
    plain-front (codes "dd if=\"$t\" of=\"$t\" bs=8 skip=") 53 numbers refl
    (plain-append 4 49 (decimal skip) (codes " count=" ++ (decimal count ++ end)) (plain-number skip (omega arith))
    (plain-front (codes " count=") 42 (decimal count ++ end) refl (plain-append 4 38 (decimal count) end (plain-number count (omega arith)) (plain-literal end refl))))

plain-darwin_x64 : (skip count : ℕ) → skip + count ≤ 2048 → IsPlain 179 (darwin_x64_lines skip count)
unfolding darwin_x64_lines
plain-darwin_x64 skip count small =
    let start = codes "if [ \"$m\" = x86_64 ]; then\ncp \"$0\" \"$t\" || exit 121\nchmod 700 \"$t\" || exit 122\n" in
    let end = codes "exec \"$t\" \"$@\"\nfi\n" in
    plain-front start 100 (dd_line skip count ++ end) refl (plain-append 82 18 (dd_line skip count) end (plain-dd_line skip count small) (plain-literal end refl))

plain-darwin : (x64 : Bool) (skip count : ℕ) → skip + count ≤ 2048 → IsPlain 218 (darwin_lines x64 skip count)
unfolding darwin_lines
plain-darwin x64 skip count small =
    let lines = cond x64 (darwin_x64_lines skip count) [] in
    let end = codes "exit 125\nfi\n" in
    plain-front (codes "if [ \"$s\" = Darwin ]; then\n") 191 (lines ++ end) refl
    (plain-append 179 12 lines end (plain-chosen x64 179 (darwin_x64_lines skip count) (plain-darwin_x64 skip count small)) (plain-literal end refl))

abbrev line_by : Bool → Bool → Bool → List ℕ
line_by a b c =
    codes "if " ++ (or_tests (cond a (codes "Linux" ∷ []) [] ++ (cond b (codes "FreeBSD" ∷ []) [] ++ cond c (codes "NetBSD" ∷ []) [])) ++ codes "; then\n")

plain-line : (a b c : Bool) → IsPlain 69 (line_by a b c)
plain-line true true true = record { few = omega arith; quiet = refl }
plain-line true true false = record { few = omega arith; quiet = refl }
plain-line true false true = record { few = omega arith; quiet = refl }
plain-line true false false = record { few = omega arith; quiet = refl }
plain-line false true true = record { few = omega arith; quiet = refl }
plain-line false true false = record { few = omega arith; quiet = refl }
plain-line false false true = record { few = omega arith; quiet = refl }
plain-line false false false = record { few = omega arith; quiet = refl }

plain-system_line : (systems : Systems) → IsPlain 69 (system_line systems)
unfolding system_line
plain-system_line systems = plain-line (has_system systems 1) (has_system systems 2) (has_system systems 4)

pub plain-system_lines : (systems : Systems) (x : Option (List ℕ)) (skip count : ℕ) → skip + count ≤ 2048 → IsPlain 287 (system_lines systems x skip count)
unfolding system_lines
plain-system_lines systems x skip count small =
    let darwin = darwin_lines (is_some x) skip count in
    plain-append 218 69 (cond (has_system systems 16) darwin []) (system_line systems) (plain-chosen (has_system systems 16) 218 darwin (plain-darwin (is_some x) skip count small)) (plain-system_line systems)

pub plain-machine_start : (m : Machine) → IsPlain 100 (machine_start m)
unfolding machine_start
plain-machine_start X64 = (let l : length (machine_start X64) ≡ 99 = refl in record { few = omega arith; quiet = refl })
plain-machine_start A64 = plain-literal (machine_start A64) refl

plain-machine_end : IsPlain 39 machine_end
unfolding machine_end
plain-machine_end = plain-literal machine_end refl

plain-script_end : IsPlain 12 script_end
unfolding script_end
plain-script_end = plain-literal script_end refl

-- ---- lengths of texts with statements

pub length-machine_lines : (m : Machine) (header : Option (List ℕ)) → IfSome header (IsHeader m) → length (machine_lines m header) ≤ 404
length-machine_lines m None h = omega arith
length-machine_lines m (Some header) h =
    let a = length-append (machine_start m) (statement_of header ++ machine_end) in
    let b = length-append (statement_of header) machine_end in
    let s = (plain-machine_start m).few in
    let t = length-statement header in
    let o = length-octals header in
    let long = h.long in
    let e = plain-machine_end.few in
    omega arith

-- the script has at most 1224 bytes
pub length-script : (systems : Systems) (x y : Option (List ℕ)) (skip count : ℕ) → IfSome x (IsHeader X64) → IfSome y (IsHeader A64) → skip + count ≤ 2048 → length (script_of systems x y skip count) ≤ 1224
unfolding script_of
length-script systems x y skip count hx hy small =
    let lines = system_lines systems x skip count in
    let a = length-append script_start (lines ++ (machine_lines X64 x ++ (machine_lines A64 y ++ script_end))) in
    let b = length-append lines (machine_lines X64 x ++ (machine_lines A64 y ++ script_end)) in
    let c = length-append (machine_lines X64 x) (machine_lines A64 y ++ script_end) in
    let d = length-append (machine_lines A64 y) script_end in
    let l1 = plain-script_start.few in
    let l2 = (plain-system_lines systems x skip count small).few in
    let l3 = length-machine_lines X64 x hx in
    let l4 = length-machine_lines A64 y hy in
    let l5 = plain-script_end.few in
    omega arith

-- ---- quotes

-- where there is a header, its statement is marked
abbrev pub MarksLines : (ℕ → Type 0) → ℕ → Machine → Option (List ℕ) → Type 0
MarksLines P at m None = Unit {0}
MarksLines P at m (Some header) = P (at + length (machine_start m) + 6)

marked-lines : (P : ℕ → Type 0) (at : ℕ) (m : Machine) (header : Option (List ℕ)) → MarksLines P at m header → Marked P at (machine_lines m header)
marked-lines P at m None h = marked-quiet P at [] refl
marked-lines P at m (Some header) h =
    let place : ℕ = at + length (machine_start m) in
    marked-append P at (machine_start m) (statement_of header ++ machine_end) (marked-quiet P at (machine_start m) (plain-machine_start m).quiet)
    (marked-append P place (statement_of header) machine_end (marked-statement P place header h)
    (marked-quiet P (place + length (statement_of header)) machine_end plain-machine_end.quiet))

-- where the lines for machines start in a script that starts at a place
abbrev pub lines_from : Systems → Option (List ℕ) → ℕ → ℕ → ℕ → ℕ
lines_from systems x skip count at = at + length script_start + length (system_lines systems x skip count)

-- the script, and a text without quotes behind it
pub marked-script : (P : ℕ → Type 0) (at : ℕ) (systems : Systems) (x y : Option (List ℕ)) (skip count : ℕ) (behind : List ℕ) → skip + count ≤ 2048 → has_no_quote behind ≡ true
    → MarksLines P (lines_from systems x skip count at) X64 x → MarksLines P (lines_from systems x skip count at + length (machine_lines X64 x)) A64 y → Marked P at (script_of systems x y skip count ++ behind)
unfolding script_of
marked-script P at systems x y skip count behind small quiet hx hy =
    let test = system_lines systems x skip count in
    let lines = lines_from systems x skip count at in
    let end = script_end ++ behind in
    let parts : script_of systems x y skip count ++ behind ≡ script_start ++ (test ++ (machine_lines X64 x ++ (machine_lines A64 y ++ end))) =
    append_assoc script_start (test ++ (machine_lines X64 x ++ (machine_lines A64 y ++ script_end))) behind
    ∙ ap (λ r. script_start ++ r)
    (append_assoc test (machine_lines X64 x ++ (machine_lines A64 y ++ script_end)) behind
    ∙ ap (λ r. test ++ r)
    (append_assoc (machine_lines X64 x) (machine_lines A64 y ++ script_end) behind
    ∙ ap (λ r. machine_lines X64 x ++ r) (append_assoc (machine_lines A64 y) script_end behind))) in
    subst (Marked P at) (sym parts)
    (marked-append P at script_start (test ++ (machine_lines X64 x ++ (machine_lines A64 y ++ end))) (marked-quiet P at script_start plain-script_start.quiet)
    (marked-append P (at + length script_start) test (machine_lines X64 x ++ (machine_lines A64 y ++ end))
    (marked-quiet P (at + length script_start) test (plain-system_lines systems x skip count small).quiet)
    (marked-append P lines (machine_lines X64 x) (machine_lines A64 y ++ end) (marked-lines P lines X64 x hx)
    (marked-append P (lines + length (machine_lines X64 x)) (machine_lines A64 y) end (marked-lines P (lines + length (machine_lines X64 x)) A64 y hy)
    (marked-quiet P (lines + length (machine_lines X64 x) + length (machine_lines A64 y)) end (no_quote-append script_end behind plain-script_end.quiet quiet))))))

-- ---- where the statements stand

-- a place in the script, so far behind the lines that test the system
abbrev pub place_behind : Systems → Option (List ℕ) → ℕ → ℕ → ℕ → ℕ
place_behind systems x skip count far = length script_start + (length (system_lines systems x skip count) + far)

parts-lines : (m : Machine) (lines : Option (List ℕ)) (header : List ℕ) → lines ≡ Some header → Parts (machine_lines m lines) (length (machine_start m)) header
parts-lines m lines header is =
    subst (λ o. Parts (machine_lines m o) (length (machine_start m)) header) (sym is) (record { front = machine_start m; behind = machine_end; long = refl; whole = refl })

pub parts-x64 : (systems : Systems) (x y : Option (List ℕ)) (skip count : ℕ) (header : List ℕ) → x ≡ Some header
    → Parts (script_of systems x y skip count) (place_behind systems x skip count (length (machine_start X64))) header
unfolding script_of
parts-x64 systems x y skip count header is =
    let test = system_lines systems x skip count in
    let rest = machine_lines A64 y ++ script_end in
    let place : ℕ = length (machine_start X64) in
    parts-behind script_start (test ++ (machine_lines X64 x ++ rest)) (length test + place) header
    (parts-behind test (machine_lines X64 x ++ rest) place header
    (parts-front (machine_lines X64 x) rest place header (parts-lines X64 x header is)))

pub parts-a64 : (systems : Systems) (x y : Option (List ℕ)) (skip count : ℕ) (header : List ℕ) → y ≡ Some header
    → Parts (script_of systems x y skip count) (place_behind systems x skip count (length (machine_lines X64 x) + length (machine_start A64))) header
unfolding script_of
parts-a64 systems x y skip count header is =
    let test = system_lines systems x skip count in
    let rest = machine_lines A64 y ++ script_end in
    let place : ℕ = length (machine_start A64) in
    parts-behind script_start (test ++ (machine_lines X64 x ++ rest)) (length test + (length (machine_lines X64 x) + place)) header
    (parts-behind test (machine_lines X64 x ++ rest) (length (machine_lines X64 x) + place) header
    (parts-behind (machine_lines X64 x) rest place header
    (parts-front (machine_lines A64 y) script_end place header (parts-lines A64 y header is))))
