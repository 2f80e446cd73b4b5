-- No NUL stands in the script, nor in a delimiter.
use Rattle.std.proofs.Common.{◌≡◌, ◌∙◌, ap, refl, ℕ, zero, suc, ◌+◌, ◌/◌, ◌%◌, ◌<◌, ◌^◌, ◌==◌, not, [], ◌∷◌, ◌++◌, Bool, true, false, cond, codes, arith}
use Rattle.std.specs.Prelude.{Option, Some, None}
use Rattle.std.specs.Option.{is_some}
use Rattle.std.specs.Fmt.{decimal}
use Rattle.std.proofs.lemmas.Bool.Decides.{nat_tests}
use Rattle.std.proofs.lemmas.Fmt.{decimal_by_steps}
use Rattle.ap_check.specs.declared.options.Systems.{Systems}
use Rattle.ap_check.specs.Options.{has_system}
use Rattle.ap_elf.specs.declared.machine.Machine.{Machine}
use Rattle.ap_elf.specs.declared.machine.Machine.TheVariants.{X64, A64}
use Rattle.ap_octal.specs.Statement.{is_letter, octals_of, statement_of}
use Rattle.ap_script.specs.Delimiter.{delimiter, digits_of, without_nul}
use Rattle.ap_script.specs.Script.{darwin_lines, darwin_x64_lines, dd_line, kernels_of, machine_end, machine_lines, machine_start, or_tests, script_end, script_of, script_start, system_line, system_lines}
use Rattle.ap_script.proofs.DelimiterWords.{without_nul-append}
use Rattle.ap_shell.specs.Files.{Text}

-- no NUL stands in a text
abbrev pub IsFree : Text → Type 0
IsFree t = without_nul t ≡ t

pub free_append : (a b : Text) → IsFree a → IsFree b → IsFree (a ++ b)
free_append a b x y = without_nul-append a b ∙ ap (λ t. t ++ without_nul b) x ∙ ap (λ t. a ++ t) y

-- NUL is taken out behind a text without it
pub free_front : (a b : Text) → IsFree a → without_nul (a ++ b) ≡ a ++ without_nul b
free_front a b x = without_nul-append a b ∙ ap (λ t. t ++ without_nul b) x

-- ---- digits and octal text

free_digit : (x : ℕ) (t : Text) → IsFree t → IsFree ((48 + x) ∷ t)
free_digit x t free =
    let some : (48 + x == 0) ≡ false = grind (arith, nat_tests) in
    ap (λ b. cond (not b) ((48 + x) ∷ without_nul t) (without_nul t)) some ∙ ap (λ u. (48 + x) ∷ u) free

free_decimal : (n : ℕ) → n < 2 ^ 64 → IsFree (decimal n)
free_decimal n small =
    decimal_by_steps (λ m ds. IsFree ds) (λ m low. free_digit m [] refl) (λ m ds high free. free_append ds ((48 + m % 10) ∷ []) free (free_digit (m % 10) [] refl)) n small

free_digits : (n k : ℕ) → IsFree (digits_of n k)
free_digits zero k = refl
free_digits (suc n) k = free_append (digits_of n (k / 10)) ((48 + k % 10) ∷ []) (free_digits n (k / 10)) (free_digit (k % 10) [] refl)

pub free_delimiter : (number : ℕ) → IsFree (delimiter number)
free_delimiter number = free_append (codes "apelink") (digits_of 8 number) refl (free_digits 8 number)

letter_some : (c : ℕ) → is_letter c ≡ true → (c == 0) ≡ false
letter_some c h = grind (arith, nat_tests)

free_octal_by : (b : Bool) (c : ℕ) → is_letter c ≡ b → IsFree (cond b (c ∷ []) (92 ∷ (48 + c / 64) ∷ (48 + c / 8 % 8) ∷ (48 + c % 8) ∷ []))
free_octal_by true c h = ap (λ b. cond (not b) (c ∷ []) []) (letter_some c h)
free_octal_by false c h = ap (λ t. 92 ∷ t) (free_digit (c / 64) _ (free_digit (c / 8 % 8) _ (free_digit (c % 8) [] refl)))

free_octals : (header : Text) → IsFree (octals_of header)
free_octals [] = refl
free_octals (c ∷ header) = free_append _ (octals_of header) (free_octal_by (is_letter c) c refl) (free_octals header)

-- ---- the script

free_kernels : (linux freebsd netbsd : Bool)
    → IsFree (codes "if " ++ (or_tests (cond linux (codes "Linux" ∷ []) [] ++ (cond freebsd (codes "FreeBSD" ∷ []) [] ++ cond netbsd (codes "NetBSD" ∷ []) [])) ++ codes "; then\n"))
free_kernels true true true = refl
free_kernels true true false = refl
free_kernels true false true = refl
free_kernels true false false = refl
free_kernels false true true = refl
free_kernels false true false = refl
free_kernels false false true = refl
free_kernels false false false = refl

free_dd : (skip count : ℕ) → skip < 2 ^ 64 → count < 2 ^ 64 → IsFree (dd_line skip count)
unfolding dd_line
free_dd skip count small few =
    let end = codes " conv=notrunc 2>/dev/null || exit 123\n" in
    free_append (codes "dd if=\"$t\" of=\"$t\" bs=8 skip=") (decimal skip ++ (codes " count=" ++ (decimal count ++ end))) refl
    (free_append (decimal skip) (codes " count=" ++ (decimal count ++ end)) (free_decimal skip small)
    (free_append (codes " count=") (decimal count ++ end) refl (free_append (decimal count) end (free_decimal count few) refl)))

free_mac : (x64 : Bool) (skip count : ℕ) → skip < 2 ^ 64 → count < 2 ^ 64 → IsFree (cond x64 (darwin_x64_lines skip count) [])
unfolding darwin_x64_lines
free_mac false skip count small few = refl
free_mac true skip count small few =
    free_append (codes "if [ \"$m\" = x86_64 ]; then\ncp \"$0\" \"$t\" || exit 121\nchmod 700 \"$t\" || exit 122\n") (dd_line skip count ++ codes "exec \"$t\" \"$@\"\nfi\n") refl
    (free_append (dd_line skip count) (codes "exec \"$t\" \"$@\"\nfi\n") (free_dd skip count small few) refl)

free_darwin : (mac x64 : Bool) (skip count : ℕ) → skip < 2 ^ 64 → count < 2 ^ 64 → IsFree (cond mac (darwin_lines x64 skip count) [])
unfolding darwin_lines
free_darwin false x64 skip count small few = refl
free_darwin true x64 skip count small few =
    free_append (codes "if [ \"$s\" = Darwin ]; then\n") (cond x64 (darwin_x64_lines skip count) [] ++ codes "exit 125\nfi\n") refl
    (free_append (cond x64 (darwin_x64_lines skip count) []) (codes "exit 125\nfi\n") (free_mac x64 skip count small few) refl)

free_machine_start : (m : Machine) → IsFree (machine_start m)
unfolding machine_start
free_machine_start X64 = refl
free_machine_start A64 = refl

free_machine : (m : Machine) (o : Option Text) → IsFree (machine_lines m o)
unfolding statement_of machine_end
free_machine m None = refl
free_machine m (Some header) =
    free_append (machine_start m) ((codes "printf '" ++ (octals_of header ++ codes "'")) ++ machine_end) (free_machine_start m)
    (free_append (codes "printf '" ++ (octals_of header ++ codes "'")) machine_end
    (free_append (codes "printf '") (octals_of header ++ codes "'") refl (free_append (octals_of header) (codes "'") (free_octals header) refl)) refl)

pub free_script : (systems : Systems) (x64 a64 : Option Text) (skip count : ℕ) → skip < 2 ^ 64 → count < 2 ^ 64 → IsFree (script_of systems x64 a64 skip count)
unfolding script_of script_start system_lines system_line script_end
free_script systems x64 a64 skip count small few =
    let mac = cond (has_system systems 16) (darwin_lines (is_some x64) skip count) [] in
    let test = codes "if " ++ (or_tests (kernels_of systems) ++ codes "; then\n") in
    let machines = machine_lines X64 x64 ++ (machine_lines A64 a64 ++ script_end) in
    free_append script_start ((mac ++ test) ++ machines) refl
    (free_append (mac ++ test) machines
    (free_append mac test (free_darwin (has_system systems 16) (is_some x64) skip count small few) (free_kernels (has_system systems 1) (has_system systems 2) (has_system systems 4)))
    (free_append (machine_lines X64 x64) (machine_lines A64 a64 ++ script_end) (free_machine X64 x64) (free_append (machine_lines A64 a64) script_end (free_machine A64 a64) refl)))
