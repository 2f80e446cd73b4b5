-- The parts of the block: how long they are, and what they hold.
use Rattle.std.proofs.Common.{◌≡◌, ℕ, zero, suc, ◌+◌, ◌-◌, ◌/◌, ◌%◌, ◌≤◌, Bool, true, false, cond, List, [], ◌∷◌, ◌++◌, length, get_or, refl, sym, ap, ◌∙◌, arith, length-append, append_assoc, subst}
use Rattle.std.specs.Prelude.{codes}
use Rattle.std.proofs.lemmas.List.{length-replicate}
use Rattle.ap_fields.specs.declared.sizes.TheConstants.{BLOCK, WINDOW}
use Rattle.ap_fields.specs.Bytes.{zeros, Holds}
use Rattle.ap_fields.specs.Fields.{bytes_of}
use Rattle.ap_fields.proofs.Numbers.{length-bytes_of}
use Rattle.ap_fields.proofs.Bytes.{length-zeros, holds-part}
use Rattle.ap_check.specs.declared.options.Options.{Options}
use Rattle.ap_elf.specs.declared.machine.Machine.TheVariants.{X64, A64}
use Rattle.ap_check.specs.Options.{for_windows}
use Rattle.ap_check.specs.Inputs.{Taken}
use Rattle.ap_layout.specs.Areas.{new_areas}
use Rattle.ap_layout.specs.Positions.{Positions, Fits, tables_start, placed_inputs, all_areas}
use Rattle.ap_pe.specs.Claims.{place_bytes}
use Rattle.ap_pe.specs.Linked.{headers_place, pe_text}
use Rattle.ap_pe.proofs.LinkedHeaders.{length-pe_text}
use Rattle.ap_mach.specs.Linked.{mach_text}
use Rattle.ap_mach.proofs.LinkedHeaders.{text-room}
use Rattle.ap_script.specs.Script.{header_for}
use Rattle.ap_script.specs.Delimiter.{digits_of, delimiter, delimiter_number}
use Rattle.ap_script.specs.Blocks.{magic, magic_line, opening_line, opening, tables_text, body_of, closing, script_for, shell_text, spaces, second_half, block_of}
use Rattle.ap_script.specs.Stands.{HoldsTables}
use Rattle.ap_script.proofs.Quotes.{digit-bare, has_no_quote, is_clear, is_bare, bare-append, bare-clear, bare-no_quote, no_quote-append}
use Rattle.ap_script.proofs.DelimiterWords.{length-delimiter}
use Rattle.ap_script.proofs.TableLengths.{length-tables, holds-tables}
use Rattle.ap_script.proofs.ScriptParts.{header-is, length-script}

-- ---- lengths

length-magic : (w d : Bool) → length (cond w (codes "MZqFpD='") (cond d (codes "APEDBG='") (codes "jartsr='"))) ≡ 8
length-magic true d = refl
length-magic false true = refl
length-magic false false = refl

length-place : (w : Bool) → length (cond w place_bytes (zeros 4)) ≡ 4
length-place true = length-bytes_of 4 96
length-place false = length-zeros 4

pub length-magic_line : (options : Options) → length (magic_line options) ≡ 9
length-magic_line options =
    let m = length-magic (for_windows options) options.debug in
    let n = length-append (magic options) (codes "\n") in
    omega arith

pub length-opening_line : (number : ℕ) → length (opening_line number) ≡ 22
length-opening_line number =
    let d = length-delimiter number in
    let c = length-append (codes "' <<'") (delimiter number ++ codes "'\n") in
    let e = length-append (delimiter number) (codes "'\n") in
    omega arith

pub length-opening : (options : Options) (number : ℕ) → length (opening options number) ≡ 86
unfolding opening
length-opening options number =
    let z = length-zeros 51 in
    let m = length-magic_line options in
    let p = length-place (for_windows options) in
    let d = length-opening_line number in
    let a = length-append (magic_line options) (zeros 51 ++ (headers_place options ++ opening_line number)) in
    let b = length-append (zeros 51) (headers_place options ++ opening_line number) in
    let h = length-append (headers_place options) (opening_line number) in
    omega arith

pub length-body : (options : Options) (inputs : List Taken) (l : Positions) → Fits options inputs l → 86 + length (body_of options inputs l) ≡ l.body_end
unfolding body_of
length-body options inputs l fits =
    let a = length-append (zeros 10) (pe_text options inputs l ++ tables_text (placed_inputs inputs l)) in
    let b = length-append (pe_text options inputs l) (tables_text (placed_inputs inputs l)) in
    let p = length-pe_text options inputs l fits in
    let z = length-zeros 10 in
    let t = length-tables (new_areas BLOCK (all_areas (placed_inputs inputs l))) (tables_start options inputs) l.body_end (placed_inputs inputs l) fits.areas fits.tables in
    omega arith

pub length-closing : (number : ℕ) → length (closing number) ≡ 17
unfolding closing
length-closing number =
    let a = length-append (codes "\n") (delimiter number ++ codes "\n") in
    let b = length-append (delimiter number) (codes "\n") in
    let d = length-delimiter number in
    omega arith

-- the place and the length of the Mach-O header in units of eight bytes
pub small-units : (options : Options) (inputs : List Taken) (l : Positions) → Fits options inputs l → l.mach_at / 8 + l.mach_len / 8 ≤ 2048
small-units options inputs l fits = let mach = fits.mach in omega arith

pub length-script_for : (options : Options) (inputs : List Taken) (l : Positions) → Fits options inputs l → length (script_for options inputs l) ≤ 1224
length-script_for options inputs l fits =
    length-script options.systems (header_for X64 (placed_inputs inputs l)) (header_for A64 (placed_inputs inputs l)) (l.mach_at / 8) (l.mach_len / 8) (header-is X64 (placed_inputs inputs l)) (header-is A64 (placed_inputs inputs l))
    (small-units options inputs l fits)

pub length-text : (options : Options) (inputs : List Taken) (l : Positions) → Fits options inputs l → length (shell_text options inputs l) ≤ 6993
unfolding shell_text
length-text options inputs l fits =
    let k = delimiter_number (body_of options inputs l) in
    let s = script_for options inputs l in
    let a = length-append (opening options k) (body_of options inputs l ++ (closing k ++ s)) in
    let b = length-append (body_of options inputs l) (closing k ++ s) in
    let c = length-append (closing k) s in
    let o = length-opening options k in
    let m = length-body options inputs l fits in
    let e = length-closing k in
    let t = length-script_for options inputs l fits in
    let body = fits.body in
    omega arith

pub length-spaces : (n : ℕ) → length (spaces n) ≡ n
unfolding spaces
length-spaces n = length-replicate n 32

-- what stands in the window
abbrev pub window_text : Options → List Taken → Positions → List ℕ
window_text options inputs l = shell_text options inputs l ++ spaces (WINDOW - length (shell_text options inputs l))

pub length-window : (options : Options) (inputs : List Taken) (l : Positions) → Fits options inputs l → length (window_text options inputs l) ≡ WINDOW
length-window options inputs l fits =
    let n : ℕ = length (shell_text options inputs l) in
    let a = length-append (shell_text options inputs l) (spaces (WINDOW - n)) in
    let s = length-spaces (WINDOW - n) in
    let t = length-text options inputs l fits in
    omega arith

pub length-second : (options : Options) (inputs : List Taken) (l : Positions) → Fits options inputs l → length (second_half options inputs l) ≡ BLOCK - WINDOW
unfolding second_half
length-second options inputs l fits =
    let n : ℕ = length (mach_text options inputs l) in
    let a = length-append (mach_text options inputs l) (zeros (BLOCK - WINDOW - n)) in
    let z = length-zeros (BLOCK - WINDOW - n) in
    let room = text-room options inputs l fits in
    omega arith

pub block-parts : (options : Options) (inputs : List Taken) (l : Positions) (rest : List ℕ) → block_of options inputs l ++ rest ≡ window_text options inputs l ++ (second_half options inputs l ++ rest)
unfolding block_of
block-parts options inputs l rest =
    let text = shell_text options inputs l in
    let fill = spaces (WINDOW - length text) in
    ap (λ r. r ++ rest) (sym (append_assoc text fill (second_half options inputs l)))
    ∙ append_assoc (text ++ fill) (second_half options inputs l) rest

pub length-block : (options : Options) (inputs : List Taken) (l : Positions) → Fits options inputs l → length (block_of options inputs l) ≡ BLOCK
unfolding block_of
length-block options inputs l fits =
    let text = shell_text options inputs l in
    let n : ℕ = length text in
    let a = length-append text (spaces (WINDOW - n) ++ second_half options inputs l) in
    let b = length-append (spaces (WINDOW - n)) (second_half options inputs l) in
    let s = length-spaces (WINDOW - n) in
    let z = length-second options inputs l fits in
    let x = length-text options inputs l fits in
    omega arith

-- ---- the opening and the delimiter's line

bare-digits : (n k : ℕ) → is_bare (digits_of n k) ≡ true
bare-digits zero k = refl
bare-digits (suc n) k =
    let d = digit-bare (k % 10) in
    bare-append (digits_of n (k / 10)) ((48 + k % 10) ∷ []) (bare-digits n (k / 10)) (rw (d.0, d.1) refl)

bare-delimiter : (number : ℕ) → is_bare (delimiter number) ≡ true
bare-delimiter number = bare-digits 8 number

clear-front : (w d : Bool) (number : ℕ)
    → is_clear 0 ((cond w (codes "MZqFpD='") (cond d (codes "APEDBG='") (codes "jartsr='")) ++ codes "\n") ++ (zeros 51 ++ (cond w place_bytes (zeros 4) ++ opening_line number))) ≡ true
unfolding zeros bytes_of
clear-front true d number = bare-clear 39 (delimiter number) (10 ∷ []) refl (bare-delimiter number) refl
clear-front false true number = bare-clear 39 (delimiter number) (10 ∷ []) refl (bare-delimiter number) refl
clear-front false false number = bare-clear 39 (delimiter number) (10 ∷ []) refl (bare-delimiter number) refl

pub clear-opening : (options : Options) (number : ℕ) → is_clear 0 (opening options number) ≡ true
unfolding opening
clear-opening options number = clear-front (for_windows options) options.debug number

pub quiet-closing : (number : ℕ) → has_no_quote (closing number) ≡ true
unfolding closing
quiet-closing number = no_quote-append (delimiter number) (codes "\n") (bare-no_quote (delimiter number) (bare-delimiter number)) refl

pub starts-closing : (number : ℕ) (behind : List ℕ) → get_or (closing number ++ behind) 0 0 ≡ 10
unfolding closing
starts-closing number behind = refl

pub starts-body : (options : Options) (inputs : List Taken) (l : Positions) (behind : List ℕ) → get_or (body_of options inputs l ++ behind) 0 0 ≡ 0
unfolding body_of zeros
starts-body options inputs l behind = refl

-- ---- the parts of a file that begins with the block

-- what stands behind the body
abbrev pub behind_body : Options → List Taken → Positions → List ℕ
behind_body options inputs l =
    closing (delimiter_number (body_of options inputs l)) ++ (script_for options inputs l ++ spaces (WINDOW - length (shell_text options inputs l)))

pub window-parts : (options : Options) (inputs : List Taken) (l : Positions) → window_text options inputs l ≡ opening options (delimiter_number (body_of options inputs l)) ++ (body_of options inputs l ++ behind_body options inputs l)
unfolding shell_text
window-parts options inputs l =
    let k = delimiter_number (body_of options inputs l) in
    let body = body_of options inputs l in
    let s = script_for options inputs l in
    let fill = spaces (WINDOW - length (opening options k ++ (body ++ (closing k ++ s)))) in
    append_assoc (opening options k) (body ++ (closing k ++ s)) fill
    ∙ ap (λ r. opening options k ++ r) (append_assoc body (closing k ++ s) fill ∙ ap (λ r. body ++ r) (append_assoc (closing k) s fill))

-- the magic
opening-parts : (options : Options) (number : ℕ) (rest : List ℕ) → Holds (opening options number ++ rest) 0 (magic options)
unfolding opening
opening-parts options number rest =
    let behind = zeros 51 ++ (headers_place options ++ opening_line number) in
    subst (λ w. Holds w 0 (magic options)) (sym (append_assoc (magic_line options) behind rest ∙ append_assoc (magic options) (codes "\n") (behind ++ rest)))
    (holds-part [] (magic options) (codes "\n" ++ (behind ++ rest)) 0 refl)

pub front-parts : (options : Options) (inputs : List Taken) (l : Positions) (rest : List ℕ)
    → block_of options inputs l ++ rest ≡ opening options (delimiter_number (body_of options inputs l)) ++ ((body_of options inputs l ++ behind_body options inputs l) ++ (second_half options inputs l ++ rest))
front-parts options inputs l rest =
    block-parts options inputs l rest
    ∙ ap (λ r. r ++ (second_half options inputs l ++ rest)) (window-parts options inputs l)
    ∙ append_assoc (opening options (delimiter_number (body_of options inputs l))) (body_of options inputs l ++ behind_body options inputs l) (second_half options inputs l ++ rest)

pub block-begins : (options : Options) (inputs : List Taken) (l : Positions) (rest : List ℕ) → Holds (block_of options inputs l ++ rest) 0 (magic options)
block-begins options inputs l rest =
    subst (λ w. Holds w 0 (magic options)) (sym (front-parts options inputs l rest))
    (opening-parts options (delimiter_number (body_of options inputs l)) ((body_of options inputs l ++ behind_body options inputs l) ++ (second_half options inputs l ++ rest)))

-- the body
pub block-body : (options : Options) (inputs : List Taken) (l : Positions) (rest : List ℕ) → Holds (block_of options inputs l ++ rest) 86 (body_of options inputs l)
block-body options inputs l rest =
    let k = delimiter_number (body_of options inputs l) in
    let behind = behind_body options inputs l in
    let end = second_half options inputs l ++ rest in
    let parts : block_of options inputs l ++ rest ≡ opening options k ++ (body_of options inputs l ++ (behind ++ end)) =
    front-parts options inputs l rest ∙ ap (λ r. opening options k ++ r) (append_assoc (body_of options inputs l) behind end) in
    subst (λ w. Holds w 86 (body_of options inputs l)) (sym parts) (holds-part (opening options k) (body_of options inputs l) (behind ++ end) 86 (sym (length-opening options k)))

-- the tables
tables-in : (options : Options) (inputs : List Taken) (l : Positions) (number : ℕ) (behind : List ℕ)
    → opening options number ++ (body_of options inputs l ++ behind) ≡ (opening options number ++ (zeros 10 ++ pe_text options inputs l)) ++ (tables_text (placed_inputs inputs l) ++ behind)
unfolding body_of
tables-in options inputs l number behind =
    let tables = tables_text (placed_inputs inputs l) in
    let pe = pe_text options inputs l in
    ap (λ r. opening options number ++ r) (ap (λ r. r ++ behind) (sym (append_assoc (zeros 10) pe tables)) ∙ append_assoc (zeros 10 ++ pe) tables behind)
    ∙ sym (append_assoc (opening options number) (zeros 10 ++ pe) (tables ++ behind))

pub block-tables : (options : Options) (inputs : List Taken) (l : Positions) (rest : List ℕ) → Fits options inputs l → HoldsTables (block_of options inputs l ++ rest) (placed_inputs inputs l)
block-tables options inputs l rest fits =
    let k = delimiter_number (body_of options inputs l) in
    let behind = behind_body options inputs l in
    let end = second_half options inputs l ++ rest in
    let front = opening options k ++ (zeros 10 ++ pe_text options inputs l) in
    let parts : block_of options inputs l ++ rest ≡ front ++ (tables_text (placed_inputs inputs l) ++ (behind ++ end)) =
    front-parts options inputs l rest ∙ ap (λ r. opening options k ++ r) (append_assoc (body_of options inputs l) behind end) ∙ tables-in options inputs l k (behind ++ end) in
    let a = length-append (opening options k) (zeros 10 ++ pe_text options inputs l) in
    let b = length-append (zeros 10) (pe_text options inputs l) in
    let p = length-pe_text options inputs l fits in
    let o = length-opening options k in
    let z = length-zeros 10 in
    subst (λ w. HoldsTables w (placed_inputs inputs l)) (sym parts)
    (holds-tables (new_areas BLOCK (all_areas (placed_inputs inputs l))) (tables_start options inputs) l.body_end (placed_inputs inputs l) front (behind ++ end) fits.areas fits.tables (omega arith))
