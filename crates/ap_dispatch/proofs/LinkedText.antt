-- A file that begins with the text for a shell is a script, whether NUL bytes are kept or dropped.
use Rattle.std.proofs.Common.{◌≡◌, ◌≢◌, ◌∙◌, ap, sym, refl, ℕ, zero, suc, ◌+◌, ◌/◌, ◌%◌, ◌<◌, ◌==◌, not, List, [], ◌∷◌, ◌++◌, Bool, true, false, cond, codes, arith, append_assoc}
use Rattle.std.specs.Prelude.{Option, Some, None, IfSome}
use Rattle.std.specs.Option.{is_some}
use Rattle.std.proofs.lemmas.Bool.{and_parts}
use Rattle.std.proofs.lemmas.Bool.Decides.{nat_tests}
use Rattle.ap_fields.specs.Bytes.{zeros}
use Rattle.ap_fields.specs.Fields.{bytes_of}
use Rattle.ap_check.specs.declared.options.Options.{Options}
use Rattle.ap_check.specs.Options.{for_windows}
use Rattle.ap_check.specs.Inputs.{Taken}
use Rattle.ap_elf.specs.declared.machine.Machine.{Machine}
use Rattle.ap_elf.specs.declared.machine.Machine.TheVariants.{X64, A64}
use Rattle.ap_elf.specs.Machines.{is_machine}
use Rattle.ap_layout.specs.Positions.{Fits, PlacedInput, Positions, only_inputs, placed_inputs}
use Rattle.ap_octal.specs.Statement.{octals_of}
use Rattle.ap_octal.proofs.OctalLemmas.{octal-bytes}
use Rattle.ap_octal.proofs.OctalReads.{octal_bytes_of-some}
use Rattle.ap_pe.specs.Claims.{place_bytes}
use Rattle.ap_pe.specs.Linked.{headers_place}
use Rattle.ap_script.specs.Blocks.{body_of, closing, magic, opening, script_for, shell_text}
use Rattle.ap_script.specs.Delimiter.{delimiter, delimiter_number, digits_of, without_nul}
use Rattle.ap_script.specs.Script.{header_for}
use Rattle.ap_script.specs.Tables.{embedded_bytes}
use Rattle.ap_script.proofs.BlockParts.{length-body, small-units}
use Rattle.ap_script.proofs.DelimiterWords.{free-delimiter, without_nul-append}
use Rattle.ap_script.proofs.ScriptParts.{IsHeader, header-is}
use Rattle.ap_shell.specs.Files.{Text}
use Rattle.ap_shparse.specs.Grammar.{IsScript}
use Rattle.ap_shparse.specs.Scripts.{script}
use Rattle.ap_shparse.specs.declared.tree.Chain.{Chain}
use Rattle.ap_shparse.specs.declared.tree.Nul.{Nul}
use Rattle.ap_shparse.specs.declared.tree.Nul.TheVariants as nul
use Rattle.ap_shparse.proofs.QuotedTexts.{StandsNowhere, lacks}
use Rattle.ap_dispatch.proofs.FreeTexts.{IsFree, free_delimiter, free_front, free_script}
use Rattle.ap_dispatch.proofs.ReadOpening.{IsDelimiter, all_items, magic_name, opening_text, text_reads}
use Rattle.ap_dispatch.proofs.ReadScript.{HasBytes}
use Rattle.ap_dispatch.proofs.SystemItems.{IsSpelled}

-- ---- delimiters

lacks_append : (k : ℕ) (a b : Text) → lacks k a ≡ true → lacks k b ≡ true → lacks k (a ++ b) ≡ true
lacks_append k [] b x y = y
lacks_append k (c ∷ a) b x y =
    let parts = and_parts (not (c == k)) (lacks k a) x in
    rw parts.0 (lacks_append k a b parts.1 y)

digit_other : (k x : ℕ) → k < 48 → not (48 + x == k) ≡ true
digit_other k x low = grind (arith, nat_tests)

lacks_digits : (k n x : ℕ) → k < 48 → lacks k (digits_of n x) ≡ true
lacks_digits k zero x low = refl
lacks_digits k (suc n) x low = lacks_append k (digits_of n (x / 10)) ((48 + x % 10) ∷ []) (lacks_digits k n (x / 10) low) (rw (digit_other k (x % 10) low) refl)

no_nil : (c : ℕ) (t : Text) → c ∷ t ≢ []
no_nil c t = λ e. cc

delimits : (number : ℕ) (body : Text) → StandsNowhere (delimiter number) body → IsDelimiter (delimiter number) body
delimits number body nowhere = record {
  some = no_nil 97 _;
  no_quote = lacks_append 39 (codes "apelink") (digits_of 8 number) refl (lacks_digits 39 8 number (omega arith));
  no_newline = lacks_append 10 (codes "apelink") (digits_of 8 number) refl (lacks_digits 10 8 number (omega arith));
  nowhere = nowhere;
}

-- ---- the text as it stands

-- what the magic's quotes hold behind the newline
abbrev pub quoted_text : Options → Text
quoted_text options = zeros 51 ++ headers_place options

flat_text : (m n z h q d e b s r : Text)
    → (((m ++ n) ++ (z ++ (h ++ (q ++ (d ++ e))))) ++ (b ++ ((n ++ (d ++ n)) ++ s))) ++ r ≡ m ++ (n ++ ((z ++ h) ++ (q ++ (d ++ (e ++ (b ++ (n ++ (d ++ (n ++ (s ++ r))))))))))
flat_text m n z h q d e b s r = simp append_assoc refl

magic_is : (windows debug : Bool) (t : Text)
    → cond windows (codes "MZqFpD='") (cond debug (codes "APEDBG='") (codes "jartsr='")) ++ (codes "\n" ++ t) ≡ magic_name windows debug ++ (codes "='\n" ++ t)
magic_is true debug t = refl
magic_is false true t = refl
magic_is false false t = refl

text_is : (options : Options) (inputs : List Taken) (l : Positions) (rest : Text)
    → shell_text options inputs l ++ rest
    ≡ opening_text (magic_name (for_windows options) options.debug) (quoted_text options) (delimiter (delimiter_number (body_of options inputs l))) (body_of options inputs l)
    (script_for options inputs l ++ rest)
unfolding shell_text opening closing
text_is options inputs l rest =
    let d = delimiter (delimiter_number (body_of options inputs l)) in
    let b = body_of options inputs l in
    let s = script_for options inputs l in
    flat_text (magic options) (codes "\n") (zeros 51) (headers_place options) (codes "' <<'") d (codes "'\n") b s rest
    ∙ magic_is (for_windows options) options.debug (quoted_text options ++ (codes "' <<'" ++ (d ++ (codes "'\n" ++ (b ++ (codes "\n" ++ (d ++ (codes "\n" ++ (s ++ rest)))))))))

-- ---- without NUL

free_name : (windows debug : Bool) → IsFree (magic_name windows debug)
free_name true debug = refl
free_name false true = refl
free_name false false = refl

dropped : (windows debug : Bool) (value d body t : Text) → IsFree d
    → without_nul (opening_text (magic_name windows debug) value d body t) ≡ opening_text (magic_name windows debug) (without_nul value) d (without_nul body) (without_nul t)
dropped windows debug value d body t free =
    let name = magic_name windows debug in
    let tail = d ++ (codes "\n" ++ t) in
    let inner = d ++ (codes "'\n" ++ (body ++ (codes "\n" ++ tail))) in
    free_front name (codes "='\n" ++ (value ++ (codes "' <<'" ++ inner))) (free_name windows debug)
    ∙ ap (λ u. name ++ (codes "='\n" ++ u)) (without_nul-append value (codes "' <<'" ++ inner))
    ∙ ap (λ u. name ++ (codes "='\n" ++ (without_nul value ++ (codes "' <<'" ++ u)))) (free_front d (codes "'\n" ++ (body ++ (codes "\n" ++ tail))) free)
    ∙ ap (λ u. name ++ (codes "='\n" ++ (without_nul value ++ (codes "' <<'" ++ (d ++ (codes "'\n" ++ u)))))) (without_nul-append body (codes "\n" ++ tail))
    ∙ ap (λ u. name ++ (codes "='\n" ++ (without_nul value ++ (codes "' <<'" ++ (d ++ (codes "'\n" ++ (without_nul body ++ (codes "\n" ++ u)))))))) (free_front d (codes "\n" ++ t) free)

quiet_by : (windows : Bool) → lacks 39 (zeros 51 ++ cond windows place_bytes (zeros 4)) ≡ true
unfolding zeros bytes_of
quiet_by true = refl
quiet_by false = refl

quiet_without_nul : (windows : Bool) → lacks 39 (without_nul (zeros 51 ++ cond windows place_bytes (zeros 4))) ≡ true
unfolding zeros bytes_of
quiet_without_nul true = refl
quiet_without_nul false = refl

-- ---- headers

bytes_by : (m : Machine) (o : Option Text) → IfSome o (IsHeader m) → HasBytes o
bytes_by m None is = tt
bytes_by m (Some []) is = absurd (omega (arith, is.long))
bytes_by m (Some (c ∷ header)) is = tt

spelled_by : (m : Machine) (o : Option Text) → IfSome o (IsHeader m) → IsSpelled o
spelled_by m None is = tt
spelled_by m (Some header) is = octal_bytes_of-some (octals_of header) header (octal-bytes header is.bytes)

pub spelled_header : (m : Machine) (ps : List PlacedInput) → IsSpelled (header_for m ps)
spelled_header m ps = spelled_by m (header_for m ps) (header-is m ps)

not_true : true ≡ false → ⊥
not_true e = let f : ◌≡◌ {A = Bool} true false = e in cc

some_by : (m : Machine) (p : PlacedInput) (ps : List PlacedInput) → p.input.machine ≡ m → is_some (header_for X64 (p ∷ ps)) ≡ false → is_some (header_for A64 (p ∷ ps)) ≡ false → ⊥
some_by X64 p ps is none other = not_true (ap (λ k. is_some (cond (is_machine X64 k) (Some (embedded_bytes p.input p.table)) (header_for X64 ps))) (sym is) ∙ none)
some_by A64 p ps is none other = not_true (ap (λ k. is_some (cond (is_machine A64 k) (Some (embedded_bytes p.input p.table)) (header_for A64 ps))) (sym is) ∙ other)

-- there is a header for one of the machines
some_header : (ps : List PlacedInput) → only_inputs ps ≢ [] → is_some (header_for X64 ps) ≡ false → is_some (header_for A64 ps) ≡ false → ⊥
some_header [] some none other = some refl
some_header (p ∷ ps) some none other = some_by p.input.machine p ps refl none other

-- ---- the script of the text

abbrev pub items_for : Nul → Options → List Taken → Positions → List Chain
items_for nul.Keep options inputs l =
    all_items (magic_name (for_windows options) options.debug) (quoted_text options) (body_of options inputs l) options.systems
    (header_for X64 (placed_inputs inputs l)) (header_for A64 (placed_inputs inputs l)) (l.mach_at / 8) (l.mach_len / 8)
items_for nul.Drop options inputs l =
    all_items (magic_name (for_windows options) options.debug) (without_nul (quoted_text options)) (without_nul (body_of options inputs l)) options.systems
    (header_for X64 (placed_inputs inputs l)) (header_for A64 (placed_inputs inputs l)) (l.mach_at / 8) (l.mach_len / 8)

pub text_script : (n : Nul) (options : Options) (inputs : List Taken) (l : Positions) (rest : Text) → Fits options inputs l → inputs ≢ []
    → IsScript n (shell_text options inputs l ++ rest) (items_for n options inputs l)
text_script nul.Keep options inputs l rest fits some =
    let ps = placed_inputs inputs l in
    let body = body_of options inputs l in
    let long = length-body options inputs l fits in
    let most = fits.body in
    let units = small-units options inputs l fits in
    let free = free-delimiter body (omega arith) in
    ap script (text_is options inputs l rest)
    ∙ text_reads (for_windows options) options.debug (quoted_text options) (delimiter (delimiter_number body)) body options.systems (header_for X64 ps) (header_for A64 ps) (l.mach_at / 8) (l.mach_len / 8)
    (rest) (quiet_by (for_windows options)) (delimits (delimiter_number body) body (λ f m e. free.kept (f, m, e)))
    (bytes_by X64 (header_for X64 ps) (header-is X64 ps)) (bytes_by A64 (header_for A64 ps) (header-is A64 ps)) (some_header ps (λ e. some (sym fits.all ∙ e))) (omega arith) (omega arith)
text_script nul.Drop options inputs l rest fits some =
    let ps = placed_inputs inputs l in
    let body = body_of options inputs l in
    let d = delimiter (delimiter_number body) in
    let name = magic_name (for_windows options) options.debug in
    let script_text = script_for options inputs l in
    let long = length-body options inputs l fits in
    let most = fits.body in
    let units = small-units options inputs l fits in
    let free = free-delimiter body (omega arith) in
    ap (λ t. script (without_nul t)) (text_is options inputs l rest)
    ∙ ap script (dropped (for_windows options) options.debug (quoted_text options) d body (script_text ++ rest) (free_delimiter (delimiter_number body)))
    ∙ ap (λ t. script (opening_text name (without_nul (quoted_text options)) d (without_nul body) t))
    (free_front script_text (rest)
    (free_script options.systems (header_for X64 ps) (header_for A64 ps) (l.mach_at / 8) (l.mach_len / 8) (omega arith) (omega arith)))
    ∙ text_reads (for_windows options) options.debug (without_nul (quoted_text options)) d (without_nul body) options.systems (header_for X64 ps) (header_for A64 ps) (l.mach_at / 8) (l.mach_len / 8)
    (without_nul rest) (quiet_without_nul (for_windows options)) (delimits (delimiter_number body) (without_nul body) (λ f m e. free.dropped (f, m, e)))
    (bytes_by X64 (header_for X64 ps) (header-is X64 ps)) (bytes_by A64 (header_for A64 ps) (header-is A64 ps)) (some_header ps (λ e. some (sym fits.all ∙ e))) (omega arith) (omega arith)
