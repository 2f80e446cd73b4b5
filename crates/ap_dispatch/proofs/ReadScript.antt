-- The script is read as its items, whatever stands behind it.
use Rattle.std.proofs.Common.{◌≡◌, ◌∙◌, ap, sym, subst, refl, ℕ, suc, ◌+◌, ◌/◌, ◌%◌, List, [], ◌∷◌, ◌++◌, Bool, true, false, cond, codes, append_assoc}
use Rattle.std.specs.Prelude.{Option, Some, None}
use Rattle.std.specs.Option.{is_some}
use Rattle.ap_elf.specs.declared.machine.Machine.TheVariants.{X64, A64}
use Rattle.ap_octal.specs.Statement.{is_letter, octals_of, statement_of}
use Rattle.ap_script.specs.Script.{machine_end, machine_lines, machine_start, or_tests}
use Rattle.ap_script.proofs.Quotes.{bare-no_quote, bare-octals}
use Rattle.ap_shparse.specs.Bytes.{Text, ends_word, gap, has, is_plain, past_comment}
use Rattle.ap_shparse.specs.Pieces.{dollar, escaped, inside, name, outside, pieces, plain, quoted, unit, units, variable}
use Rattle.ap_shparse.specs.Places.{newlines, newlines_from}
use Rattle.ap_shparse.specs.Words.{begins_word, is_assignment, pieced, plain_word}
use Rattle.ap_shparse.specs.Redirects.{redirects}
use Rattle.ap_shparse.specs.Commands.{alone, element, elements, is_reserved, next_word, simple}
use Rattle.ap_shparse.specs.Lists.{Lists, chain, command, items, items_from, join, list, next_item, others}
use Rattle.ap_shparse.specs.declared.tree.Chain.{Chain}
use Rattle.ap_shparse.proofs.QuotedTexts.{lacks}
use Rattle.ap_dispatch.proofs.Tree.{copy_items, if_item, is_any, machine_items, statement_item, system_test}
use Rattle.ap_dispatch.proofs.ReadLines.{a64_test_reads, end_reads, x64_test_reads}
use Rattle.ap_dispatch.proofs.ReadItems.{statement_reads}
use Rattle.ap_dispatch.proofs.ReadBranches.{IsIf, copy_lines, copy_list, if_first_step, if_reads, if_step, list_reads}
use Rattle.ap_dispatch.proofs.ReadWords.{lacks_quote}

-- ---- the octal text of a header

abbrev IsSome : Text → Type 0
IsSome t = (b : ℕ) × (u : Text) × (t ≡ b ∷ u)

octal_some_by : (b : Bool) (c : ℕ) (t : Text) → IsSome (cond b (c ∷ []) (92 ∷ (48 + c / 64) ∷ (48 + c / 8 % 8) ∷ (48 + c % 8) ∷ []) ++ t)
octal_some_by true c t = (c, t, refl)
octal_some_by false c t = (92, (48 + c / 64) ∷ (48 + c / 8 % 8) ∷ (48 + c % 8) ∷ t, refl)

octals_some : (c : ℕ) (header : Text) → IsSome (octals_of (c ∷ header))
octals_some c header = octal_some_by (is_letter c) c (octals_of header)

octals_quiet : (header : Text) → lacks 39 (octals_of header) ≡ true
octals_quiet header = lacks_quote (octals_of header) (bare-no_quote (octals_of header) (bare-octals header))

-- ---- the lines for a machine

statement_line : Text → Text → Text
statement_line octals rest = codes "printf '" ++ (octals ++ (codes "' 1<>\"$t\" || exit 124\n" ++ rest))

line_reads_by : (below : Lists) (octals : Text) → IsSome octals → lacks 39 octals ≡ true
    → (n : ℕ) (found : List Chain) (more : Text) → items_from below (suc n) found (alone (statement_line octals more)) ≡ items_from below n (found ++ statement_item octals ∷ []) (alone more)
unfolding statement_line
line_reads_by below octals some quiet n found more =
    subst (λ o. lacks 39 o ≡ true → items_from below (suc n) found (alone (codes "printf '" ++ (o ++ (codes "' 1<>\"$t\" || exit 124\n" ++ more)))) ≡ items_from below n (found ++ statement_item o ∷ []) (alone more))
    (sym some.2) (statement_reads below n found some.0 some.1 more) quiet

line_reads : (below : Lists) (c : ℕ) (header : Text) (n : ℕ) (found : List Chain) (more : Text)
    → items_from below (suc n) found (alone (statement_line (octals_of (c ∷ header)) more)) ≡ items_from below n (found ++ statement_item (octals_of (c ∷ header)) ∷ []) (alone more)
line_reads below c header = line_reads_by below (octals_of (c ∷ header)) (octals_some c header) (octals_quiet (c ∷ header))

x64_text : Text → Text → Text
x64_text header rest = codes "[ \"$m\" = x86_64 ] || [ \"$m\" = amd64 ]; then\n" ++ copy_lines (statement_line (octals_of header)) rest

a64_text : Text → Text → Text
a64_text header rest = codes "[ \"$m\" = aarch64 ] || [ \"$m\" = arm64 ]; then\n" ++ copy_lines (statement_line (octals_of header)) rest

x64_if : (d c : ℕ) (header rest : Text)
    → IsIf (list (suc d)) (x64_text (c ∷ header) rest) (if_item (is_any (codes "m") (codes "x86_64") (codes "amd64" ∷ [])) (copy_items (statement_item (octals_of (c ∷ header))))) rest
unfolding x64_text
x64_if d c header rest =
    let lines = copy_lines (statement_line (octals_of (c ∷ header))) rest in
    let item = statement_item (octals_of (c ∷ header)) in
    if_reads d (codes "[ \"$m\" = x86_64 ] || [ \"$m\" = amd64 ]; then\n" ++ lines) (is_any (codes "m") (codes "x86_64") (codes "amd64" ∷ [])) (copy_items item) lines rest
    (x64_test_reads d lines) (copy_list d (statement_line (octals_of (c ∷ header))) item rest (line_reads (list d) c header))

a64_if : (d c : ℕ) (header rest : Text)
    → IsIf (list (suc d)) (a64_text (c ∷ header) rest) (if_item (is_any (codes "m") (codes "aarch64") (codes "arm64" ∷ [])) (copy_items (statement_item (octals_of (c ∷ header))))) rest
unfolding a64_text
a64_if d c header rest =
    let lines = copy_lines (statement_line (octals_of (c ∷ header))) rest in
    let item = statement_item (octals_of (c ∷ header)) in
    if_reads d (codes "[ \"$m\" = aarch64 ] || [ \"$m\" = arm64 ]; then\n" ++ lines) (is_any (codes "m") (codes "aarch64") (codes "arm64" ∷ [])) (copy_items item) lines rest
    (a64_test_reads d lines) (copy_list d (statement_line (octals_of (c ∷ header))) item rest (line_reads (list d) c header))

machine_text_by : (octals rest : Text) → ((octals ++ codes "'") ++ machine_end) ++ rest ≡ octals ++ (codes "'" ++ (machine_end ++ rest))
machine_text_by octals rest = append_assoc (octals ++ codes "'") machine_end rest ∙ append_assoc octals (codes "'") (machine_end ++ rest)

x64_lines_are : (header rest : Text) → machine_lines X64 (Some header) ++ rest ≡ codes "if " ++ x64_text header rest
unfolding machine_start machine_end statement_of statement_line x64_text
x64_lines_are header rest =
    ap (λ t. codes "if [ \"$m\" = x86_64 ] || [ \"$m\" = amd64 ]; then\ncp \"$0\" \"$t\" || exit 121\nchmod 700 \"$t\" || exit 122\nprintf '" ++ t) (machine_text_by (octals_of header) rest)

a64_lines_are : (header rest : Text) → machine_lines A64 (Some header) ++ rest ≡ codes "if " ++ a64_text header rest
unfolding machine_start machine_end statement_of statement_line a64_text
a64_lines_are header rest =
    ap (λ t. codes "if [ \"$m\" = aarch64 ] || [ \"$m\" = arm64 ]; then\ncp \"$0\" \"$t\" || exit 121\nchmod 700 \"$t\" || exit 122\nprintf '" ++ t) (machine_text_by (octals_of header) rest)

-- ---- the lines of both machines, of which there is one

-- a header has bytes, if there is one
abbrev pub HasBytes : Option Text → Type 0
HasBytes None = Unit {0}
HasBytes (Some []) = ⊥
HasBytes (Some (c ∷ header)) = Unit {0}

abbrev pub machines_text : Option Text → Option Text → Text → Text
machines_text x64 a64 rest = machine_lines X64 x64 ++ (machine_lines A64 a64 ++ (codes "fi\n" ++ rest))

pub machines_list : (d : ℕ) (x64 a64 : Option Text) (rest : Text) → HasBytes x64 → HasBytes a64 → (is_some x64 ≡ false → is_some a64 ≡ false → ⊥)
    → list (suc (suc d)) (alone (10 ∷ machines_text x64 a64 rest)) ≡ Some (machine_items X64 x64 ++ machine_items A64 a64, alone (codes "fi\n" ++ rest))
machines_list d None None rest x a one = absurd (one refl refl)
machines_list d (Some []) a64 rest x a one = absurd x
machines_list d None (Some []) rest x a one = absurd a
machines_list d (Some (c ∷ header)) (Some []) rest x a one = absurd a
machines_list d (Some (c ∷ header)) None rest x a one =
    let end = codes "fi\n" ++ rest in
    let item = if_item (is_any (codes "m") (codes "x86_64") (codes "amd64" ∷ [])) (copy_items (statement_item (octals_of (c ∷ header)))) in
    ap (λ t. list (suc (suc d)) (alone (10 ∷ t))) (x64_lines_are (c ∷ header) end)
    ∙ list_reads (suc d) (codes "\nif " ++ x64_text (c ∷ header) end) item [] end
    (if_first_step (list (suc d)) _ [] (x64_text (c ∷ header) end) end item (x64_if d c header end) ∙ end_reads (list (suc d)) _ _ rest)
machines_list d None (Some (g ∷ other)) rest x a one =
    let end = codes "fi\n" ++ rest in
    let item = if_item (is_any (codes "m") (codes "aarch64") (codes "arm64" ∷ [])) (copy_items (statement_item (octals_of (g ∷ other)))) in
    ap (λ t. list (suc (suc d)) (alone (10 ∷ t))) (a64_lines_are (g ∷ other) end)
    ∙ list_reads (suc d) (codes "\nif " ++ a64_text (g ∷ other) end) item [] end
    (if_first_step (list (suc d)) _ [] (a64_text (g ∷ other) end) end item (a64_if d g other end) ∙ end_reads (list (suc d)) _ _ rest)
machines_list d (Some (c ∷ header)) (Some (g ∷ other)) rest x a one =
    let end = codes "fi\n" ++ rest in
    let more = codes "if " ++ a64_text (g ∷ other) end in
    let item = if_item (is_any (codes "m") (codes "x86_64") (codes "amd64" ∷ [])) (copy_items (statement_item (octals_of (c ∷ header)))) in
    let second = if_item (is_any (codes "m") (codes "aarch64") (codes "arm64" ∷ [])) (copy_items (statement_item (octals_of (g ∷ other)))) in
    ap (λ t. list (suc (suc d)) (alone (10 ∷ (machine_lines X64 (Some (c ∷ header)) ++ t)))) (a64_lines_are (g ∷ other) end)
    ∙ ap (λ t. list (suc (suc d)) (alone (10 ∷ t))) (x64_lines_are (c ∷ header) more)
    ∙ list_reads (suc d) (codes "\nif " ++ x64_text (c ∷ header) more) item (second ∷ []) end
    (if_first_step (list (suc d)) _ [] (x64_text (c ∷ header) more) more item (x64_if d c header more)
    ∙ if_step (list (suc d)) _ _ (a64_text (g ∷ other) end) end second (a64_if d g other end) ∙ end_reads (list (suc d)) _ _ rest)

-- ---- the test of the systems

abbrev pub kernels : Bool → Bool → Bool → List Text
kernels linux freebsd netbsd = cond linux (codes "Linux" ∷ []) [] ++ (cond freebsd (codes "FreeBSD" ∷ []) [] ++ cond netbsd (codes "NetBSD" ∷ []) [])

pub system_test_reads : (d : ℕ) (linux freebsd netbsd : Bool) (more : Text)
    → list (suc d) (alone (32 ∷ (or_tests (kernels linux freebsd netbsd) ++ (codes "; then\n" ++ more)))) ≡ Some (system_test (kernels linux freebsd netbsd) ∷ [], alone (codes "then\n" ++ more))
unfolding list items items_from next_item chain command others join newlines newlines_from simple is_reserved elements element next_word plain_word pieced begins_word is_assignment units unit pieces outside inside dollar variable name plain escaped quoted has is_plain ends_word gap past_comment redirects
system_test_reads d true true true more = refl
system_test_reads d true true false more = refl
system_test_reads d true false true more = refl
system_test_reads d true false false more = refl
system_test_reads d false true true more = refl
system_test_reads d false true false more = refl
system_test_reads d false false true more = refl
system_test_reads d false false false more = refl
