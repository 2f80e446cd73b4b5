-- The script's lines behind the here-document, read to `exit 126`.
use Rattle.std.proofs.Common.{◌≡◌, ◌∙◌, ap, sym, subst, ℕ, suc, ◌<◌, ◌^◌, List, [], ◌∷◌, ◌++◌, Bool, true, false, cond, codes, append_assoc}
use Rattle.std.specs.Prelude.{Option, Some}
use Rattle.std.specs.Option.{is_some}
use Rattle.std.specs.Fmt.{decimal}
use Rattle.ap_check.specs.declared.options.Systems.{Systems}
use Rattle.ap_check.specs.Options.{has_system}
use Rattle.ap_elf.specs.declared.machine.Machine.TheVariants.{X64, A64}
use Rattle.ap_script.specs.Script.{darwin_lines, darwin_x64_lines, dd_line, kernels_of, machine_lines, or_tests, script_end, script_of, script_start, system_line, system_lines}
use Rattle.ap_shparse.specs.Bytes.{Text}
use Rattle.ap_shparse.specs.Commands.{alone}
use Rattle.ap_shparse.specs.Lists.{Lists, items_from, list}
use Rattle.ap_shparse.specs.declared.tree.Chain.{Chain}
use Rattle.ap_dispatch.proofs.Tree.{ape_item, ape_start, ape_test, copy_item, copy_items, darwin_item, darwin_x64_items, dd_item, exit_item, if_item, is_any, machine_items, script_items, system_items, system_test, systems_item, uname_item}
use Rattle.ap_dispatch.proofs.ReadLines.{ReadsTo, ape_reads, ape_test_reads, copy_reads, darwin_test_reads, end_reads, exit_reads, first_exit_reads, last_reads, mac_machine_test_reads, machine_reads, system_reads}
use Rattle.ap_dispatch.proofs.ReadItems.{dd_reads}
use Rattle.ap_dispatch.proofs.ReadBranches.{IsIf, copy_lines, copy_list, if_ends, if_first_step, if_reads, list_reads}
use Rattle.ap_dispatch.proofs.ReadScript.{HasBytes, machines_list, machines_text, system_test_reads}

-- ---- `ape`

ape_if : (d : ℕ) (rest : Text) → IsIf (list (suc d)) (codes "command -v ape >/dev/null 2>&1; then\nexec ape \"$0\" \"$@\"\nfi\n" ++ rest) ape_item rest
ape_if d rest =
    let more = codes "exec ape \"$0\" \"$@\"\nfi\n" ++ rest in
    if_reads d (codes "command -v ape >/dev/null 2>&1; then\n" ++ more) ape_test (ape_start ∷ []) more rest (ape_test_reads d more)
    (list_reads d (codes "\nexec ape \"$0\" \"$@\"\nfi\n" ++ rest) ape_start [] (codes "fi\n" ++ rest) (ape_reads (list d) _ [] (codes "fi\n" ++ rest) ∙ end_reads (list d) _ _ rest))

-- ---- the systems that run ELF files

systems_text : Systems → Option Text → Option Text → Text → Text
systems_text systems x64 a64 rest = or_tests (kernels_of systems) ++ (codes "; then\n" ++ machines_text x64 a64 rest)

systems_if : (d : ℕ) (systems : Systems) (x64 a64 : Option Text) (rest : Text) → HasBytes x64 → HasBytes a64 → (is_some x64 ≡ false → is_some a64 ≡ false → ⊥)
    → IsIf (list (suc (suc d))) (systems_text systems x64 a64 rest) (systems_item systems x64 a64) rest
unfolding systems_text
systems_if d systems x64 a64 rest x a one =
    if_reads (suc d) (systems_text systems x64 a64 rest) (system_test (kernels_of systems)) (machine_items X64 x64 ++ machine_items A64 a64) (machines_text x64 a64 rest) rest
    (system_test_reads (suc d) (has_system systems 1) (has_system systems 2) (has_system systems 4) (machines_text x64 a64 rest))
    (machines_list d x64 a64 rest x a one)

-- ---- macOS

dd_text : ℕ → ℕ → Text → Text
dd_text skip count rest =
    codes "dd if=\"$t\" of=\"$t\" bs=8 skip=" ++ (decimal skip ++ (codes " count=" ++ (decimal count ++ (codes " conv=notrunc 2>/dev/null || exit 123\n" ++ rest))))

flat : (a b c d e : Text) → (a ++ (b ++ (c ++ d))) ++ e ≡ a ++ (b ++ (c ++ (d ++ e)))
flat a b c d e =
    append_assoc a (b ++ (c ++ d)) e ∙ ap (λ t. a ++ t) (append_assoc b (c ++ d) e) ∙ ap (λ t. a ++ (b ++ t)) (append_assoc c d e)

dd_line_is : (skip count : ℕ) (rest : Text) → dd_line skip count ++ rest ≡ dd_text skip count rest
unfolding dd_line dd_text
dd_line_is skip count rest =
    ap (λ t. codes "dd if=\"$t\" of=\"$t\" bs=8 skip=" ++ t) (flat (decimal skip) (codes " count=") (decimal count) (codes " conv=notrunc 2>/dev/null || exit 123\n") rest)

dd_line_reads : (below : Lists) (skip count : ℕ) → skip < 2 ^ 64 → count < 2 ^ 64
    → (n : ℕ) (found : List Chain) (more : Text) → items_from below (suc n) found (alone (dd_text skip count more)) ≡ items_from below n (found ++ dd_item skip count ∷ []) (alone more)
unfolding dd_text
dd_line_reads below skip count small few n found more = dd_reads below n found skip count more small few

mac_text : ℕ → ℕ → Text → Text
mac_text skip count rest = codes "[ \"$m\" = x86_64 ]; then\n" ++ copy_lines (dd_text skip count) rest

mac_if : (d skip count : ℕ) (rest : Text) → skip < 2 ^ 64 → count < 2 ^ 64
    → IsIf (list (suc d)) (mac_text skip count rest) (if_item (is_any (codes "m") (codes "x86_64") []) (copy_items (dd_item skip count))) rest
unfolding mac_text
mac_if d skip count rest small few =
    let lines = copy_lines (dd_text skip count) rest in
    if_reads d (codes "[ \"$m\" = x86_64 ]; then\n" ++ lines) (is_any (codes "m") (codes "x86_64") []) (copy_items (dd_item skip count)) lines rest
    (mac_machine_test_reads d lines) (copy_list d (dd_text skip count) (dd_item skip count) rest (dd_line_reads (list d) skip count small few))

mac_lines_are : (skip count : ℕ) (rest : Text) → darwin_x64_lines skip count ++ rest ≡ codes "if " ++ mac_text skip count rest
unfolding darwin_x64_lines mac_text
mac_lines_are skip count rest =
    ap (λ t. codes "if [ \"$m\" = x86_64 ]; then\ncp \"$0\" \"$t\" || exit 121\nchmod 700 \"$t\" || exit 122\n" ++ t)
    (append_assoc (dd_line skip count) (codes "exec \"$t\" \"$@\"\nfi\n") rest ∙ dd_line_is skip count (codes "exec \"$t\" \"$@\"\nfi\n" ++ rest))

darwin_text : Bool → ℕ → ℕ → Text → Text
darwin_text x64 skip count rest = codes "[ \"$s\" = Darwin ]; then\n" ++ (cond x64 (darwin_x64_lines skip count) [] ++ (codes "exit 125\nfi\n" ++ rest))

darwin_list : (d : ℕ) (x64 : Bool) (skip count : ℕ) (rest : Text) → skip < 2 ^ 64 → count < 2 ^ 64
    → list (suc (suc d)) (alone (10 ∷ (cond x64 (darwin_x64_lines skip count) [] ++ (codes "exit 125\nfi\n" ++ rest))))
    ≡ Some (darwin_x64_items x64 skip count ++ exit_item (codes "125") ∷ [], alone (codes "fi\n" ++ rest))
darwin_list d false skip count rest small few =
    list_reads (suc d) (codes "\nexit 125\nfi\n" ++ rest) (exit_item (codes "125")) [] (codes "fi\n" ++ rest)
    (first_exit_reads (list (suc d)) _ [] (codes "fi\n" ++ rest) ∙ end_reads (list (suc d)) _ _ rest)
darwin_list d true skip count rest small few =
    let end = codes "exit 125\nfi\n" ++ rest in
    let item = if_item (is_any (codes "m") (codes "x86_64") []) (copy_items (dd_item skip count)) in
    ap (λ t. list (suc (suc d)) (alone (10 ∷ t))) (mac_lines_are skip count end)
    ∙ list_reads (suc d) (codes "\nif " ++ mac_text skip count end) item (exit_item (codes "125") ∷ []) (codes "fi\n" ++ rest)
    (if_first_step (list (suc d)) _ [] (mac_text skip count end) end item (mac_if d skip count end small few)
    ∙ exit_reads (list (suc d)) _ _ (codes "fi\n" ++ rest) ∙ end_reads (list (suc d)) _ _ rest)

darwin_if : (d : ℕ) (x64 : Bool) (skip count : ℕ) (rest : Text) → skip < 2 ^ 64 → count < 2 ^ 64
    → IsIf (list (suc (suc d))) (darwin_text x64 skip count rest) (darwin_item x64 skip count) rest
unfolding darwin_text
darwin_if d x64 skip count rest small few =
    let lines = cond x64 (darwin_x64_lines skip count) [] ++ (codes "exit 125\nfi\n" ++ rest) in
    if_reads (suc d) (codes "[ \"$s\" = Darwin ]; then\n" ++ lines) (is_any (codes "s") (codes "Darwin") []) (darwin_x64_items x64 skip count ++ exit_item (codes "125") ∷ []) lines rest
    (darwin_test_reads (suc d) lines) (darwin_list d x64 skip count rest small few)

-- ---- texts as they stand

darwin_lines_are : (x64 : Bool) (skip count : ℕ) (rest : Text) → darwin_lines x64 skip count ++ rest ≡ codes "if " ++ darwin_text x64 skip count rest
unfolding darwin_lines darwin_text
darwin_lines_are x64 skip count rest =
    ap (λ t. codes "if [ \"$s\" = Darwin ]; then\n" ++ t) (append_assoc (cond x64 (darwin_x64_lines skip count) []) (codes "exit 125\nfi\n") rest)

systems_lines_are : (systems : Systems) (x64 a64 : Option Text) (rest : Text)
    → system_line systems ++ (machine_lines X64 x64 ++ (machine_lines A64 a64 ++ (script_end ++ rest))) ≡ codes "if " ++ systems_text systems x64 a64 (codes "exit 126\n" ++ rest)
unfolding system_line script_end systems_text
systems_lines_are systems x64 a64 rest =
    ap (λ t. codes "if " ++ t)
    (append_assoc (or_tests (kernels_of systems)) (codes "; then\n") (machine_lines X64 x64 ++ (machine_lines A64 a64 ++ (codes "fi\nexit 126\n" ++ rest))))

script_is : (systems : Systems) (x64 a64 : Option Text) (skip count : ℕ) (rest : Text)
    → script_of systems x64 a64 skip count ++ rest
    ≡ script_start ++ (cond (has_system systems 16) (darwin_lines (is_some x64) skip count) [] ++ (codes "if " ++ systems_text systems x64 a64 (codes "exit 126\n" ++ rest)))
unfolding script_of system_lines
script_is systems x64 a64 skip count rest =
    let mac = cond (has_system systems 16) (darwin_lines (is_some x64) skip count) [] in
    let machines = machine_lines X64 x64 ++ (machine_lines A64 a64 ++ script_end) in
    append_assoc script_start ((mac ++ system_line systems) ++ machines) rest
    ∙ ap (λ t. script_start ++ t) (append_assoc (mac ++ system_line systems) machines rest ∙ append_assoc mac (system_line systems) (machines ++ rest))
    ∙ ap (λ t. script_start ++ (mac ++ (system_line systems ++ t))) (append_assoc (machine_lines X64 x64) (machine_lines A64 a64 ++ script_end) rest ∙ ap (λ t. machine_lines X64 x64 ++ t) (append_assoc (machine_lines A64 a64) script_end rest))
    ∙ ap (λ t. script_start ++ (mac ++ t)) (systems_lines_are systems x64 a64 rest)

-- ---- the whole

mac_ends : (d n : ℕ) (mac : Bool) (systems : Systems) (x64 a64 : Option Text) (skip count : ℕ) (rest : Text) (found : List Chain)
    → HasBytes x64 → HasBytes a64 → (is_some x64 ≡ false → is_some a64 ≡ false → ⊥) → skip < 2 ^ 64 → count < 2 ^ 64
    → ReadsTo (list (suc (suc d))) (suc (suc (suc n))) (cond mac (darwin_lines (is_some x64) skip count) [] ++ (codes "if " ++ systems_text systems x64 a64 (codes "exit 126\n" ++ rest))) found
    (found ++ (cond mac (darwin_item (is_some x64) skip count ∷ []) [] ++ systems_item systems x64 a64 ∷ exit_item (codes "126") ∷ []))
mac_ends d n false systems x64 a64 skip count rest found x a one small few =
    let below = list (suc (suc d)) in
    let end = codes "exit 126\n" ++ rest in
    let all = found ++ systems_item systems x64 a64 ∷ exit_item (codes "126") ∷ [] in
    if_ends below (suc (suc n)) (systems_text systems x64 a64 end) end found all (systems_item systems x64 a64) (systems_if d systems x64 a64 end x a one)
    (subst (λ z. ReadsTo below (suc (suc n)) end (found ++ systems_item systems x64 a64 ∷ []) z) (append_assoc found (systems_item systems x64 a64 ∷ []) (exit_item (codes "126") ∷ []))
    (last_reads below (suc n) rest (found ++ systems_item systems x64 a64 ∷ [])))
mac_ends d n true systems x64 a64 skip count rest found x a one small few =
    let below = list (suc (suc d)) in
    let end = codes "exit 126\n" ++ rest in
    let more = codes "if " ++ systems_text systems x64 a64 end in
    let first = darwin_item (is_some x64) skip count in
    let front = found ++ first ∷ [] in
    let all = found ++ first ∷ systems_item systems x64 a64 ∷ exit_item (codes "126") ∷ [] in
    subst (λ t. ReadsTo below (suc (suc (suc n))) t found all) (sym (darwin_lines_are (is_some x64) skip count more))
    (if_ends below (suc (suc n)) (darwin_text (is_some x64) skip count more) more found all first (darwin_if d (is_some x64) skip count more small few)
    (if_ends below (suc n) (systems_text systems x64 a64 end) end front all (systems_item systems x64 a64) (systems_if d systems x64 a64 end x a one)
    (subst (λ z. ReadsTo below (suc n) end (front ++ systems_item systems x64 a64 ∷ []) z)
    (append_assoc front (systems_item systems x64 a64 ∷ []) (exit_item (codes "126") ∷ []) ∙ append_assoc found (first ∷ []) (systems_item systems x64 a64 ∷ exit_item (codes "126") ∷ []))
    (last_reads below n rest (front ++ systems_item systems x64 a64 ∷ [])))))

pub script_ends : (d n : ℕ) (systems : Systems) (x64 a64 : Option Text) (skip count : ℕ) (rest : Text) (first : Chain)
    → HasBytes x64 → HasBytes a64 → (is_some x64 ≡ false → is_some a64 ≡ false → ⊥) → skip < 2 ^ 64 → count < 2 ^ 64
    → ReadsTo (list (suc (suc d))) (suc (suc (suc (suc (suc (suc (suc n))))))) (script_of systems x64 a64 skip count ++ rest) (first ∷ []) (first ∷ script_items systems x64 a64 skip count)
unfolding script_items script_start
script_ends d n systems x64 a64 skip count rest first x a one small few =
    let below = list (suc (suc d)) in
    let tail = cond (has_system systems 16) (darwin_lines (is_some x64) skip count) [] ++ (codes "if " ++ systems_text systems x64 a64 (codes "exit 126\n" ++ rest)) in
    let copy = codes "t=\"${TMPDIR:-/tmp}/ape.$$\"\n" ++ tail in
    let system = codes "s=$(uname -s)\n" ++ copy in
    let machine = codes "m=$(uname -m)\n" ++ system in
    let all = first ∷ ape_item ∷ uname_item (codes "m") (codes "-m") ∷ uname_item (codes "s") (codes "-s") ∷ copy_item ∷ system_items systems x64 a64 skip count in
    subst (λ t. ReadsTo below (suc (suc (suc (suc (suc (suc (suc n))))))) t (first ∷ []) all) (sym (script_is systems x64 a64 skip count rest))
    (if_ends below (suc (suc (suc (suc (suc (suc n)))))) (codes "command -v ape >/dev/null 2>&1; then\nexec ape \"$0\" \"$@\"\nfi\n" ++ machine) machine (first ∷ []) all ape_item (ape_if (suc d) machine)
    (machine_reads below (suc (suc (suc (suc (suc n))))) system (first ∷ ape_item ∷ []) all
    (system_reads below (suc (suc (suc (suc n)))) copy (first ∷ ape_item ∷ uname_item (codes "m") (codes "-m") ∷ []) all
    (copy_reads below (suc (suc (suc n))) tail (first ∷ ape_item ∷ uname_item (codes "m") (codes "-m") ∷ uname_item (codes "s") (codes "-s") ∷ []) all
    (mac_ends d n (has_system systems 16) systems x64 a64 skip count rest (first ∷ ape_item ∷ uname_item (codes "m") (codes "-m") ∷ uname_item (codes "s") (codes "-s") ∷ copy_item ∷ []) x a one small few)))))
