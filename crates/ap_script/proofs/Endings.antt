-- What is appended to a text behind the body.
use Rattle.std.proofs.Common.{◌≡◌, ℕ, ◌+◌, ◌-◌, ◌/◌, ◌≤◌, List, [], ◌++◌, length, take, replicate, Option, refl, ap, ◌∙◌, arith, length-append, append_assoc}
use Rattle.std.specs.Prelude.{codes}
use Rattle.std.proofs.lemmas.List.{take-replicate}
use Rattle.ap_fields.specs.declared.sizes.TheConstants.{WINDOW}
use Rattle.ap_octal.specs.declared.types.TheConstants.{MOST_STATEMENT}
use Rattle.ap_elf.specs.declared.machine.Machine.{Machine}
use Rattle.ap_elf.specs.declared.machine.Machine.TheVariants.{X64, A64}
use Rattle.ap_check.specs.declared.options.Systems.{Systems}
use Rattle.ap_check.specs.declared.options.Options.{Options}
use Rattle.ap_check.specs.Inputs.{Taken}
use Rattle.ap_layout.specs.Positions.{Positions, Fits, placed_inputs}
use Rattle.ap_script.specs.Delimiter.{delimiter, delimiter_number}
use Rattle.ap_script.specs.Script.{system_lines, script_of, header_for}
use Rattle.ap_script.specs.Blocks.{closing, spaces, body_of, script_for, shell_text, ending_of}
use Rattle.ap_script.specs.Stands.{statement_place}
use Rattle.ap_script.proofs.ScriptParts.{header-is, plain-script_start, plain-system_lines, plain-machine_start, length-machine_lines}
use Rattle.ap_script.proofs.BlockParts.{length-opening, length-body, length-closing, length-script_for, length-spaces, small-units}

-- three pieces one behind the other
pub three-pieces : (old a b c x y z : List ℕ) → a ≡ old ++ x → b ≡ a ++ y → c ≡ b ++ z → c ≡ old ++ (x ++ (y ++ z))
three-pieces old a b c x y z ax by cz =
    cz ∙ ap (λ l. l ++ z) (by ∙ ap (λ l. l ++ y) ax) ∙ append_assoc (old ++ x) y z ∙ append_assoc old x (y ++ z)

pub closing-next : (old a b c word : List ℕ) (number : ℕ) → a ≡ old ++ codes "\n" → word ≡ delimiter number → b ≡ a ++ word → c ≡ b ++ codes "\n" → c ≡ old ++ closing number
unfolding closing
closing-next old a b c word number first is second third = three-pieces old a b c (codes "\n") (delimiter number) (codes "\n") first (second ∙ ap (λ w. a ++ w) is) third

-- there is room for the longest statement behind where a machine's begins
pub place-room : (options : Options) (inputs : List Taken) (l : Positions) (m : Machine) → Fits options inputs l → statement_place options inputs l m + MOST_STATEMENT ≤ WINDOW
place-room options inputs l X64 fits =
    let body = fits.body in
    let a = plain-script_start.few in
    let b = (plain-system_lines options.systems (header_for X64 (placed_inputs inputs l)) (l.mach_at / 8) (l.mach_len / 8) (small-units options inputs l fits)).few in
    let c = (plain-machine_start X64).few in
    omega arith
place-room options inputs l A64 fits =
    let body = fits.body in
    let a = plain-script_start.few in
    let b = (plain-system_lines options.systems (header_for X64 (placed_inputs inputs l)) (l.mach_at / 8) (l.mach_len / 8) (small-units options inputs l fits)).few in
    let c = length-machine_lines X64 (header_for X64 (placed_inputs inputs l)) (header-is X64 (placed_inputs inputs l)) in
    let d = (plain-machine_start A64).few in
    omega arith

-- the shell's text without spaces
length-shell_text : (options : Options) (inputs : List Taken) (l : Positions) → Fits options inputs l → length (shell_text options inputs l) ≡ l.body_end + (17 + length (script_for options inputs l))
unfolding shell_text
length-shell_text options inputs l fits =
    let number = delimiter_number (body_of options inputs l) in
    let script = script_for options inputs l in
    let a = length-append (Rattle.ap_script.specs.Blocks.opening options number) (body_of options inputs l ++ (closing number ++ script)) in
    let b = length-append (body_of options inputs l) (closing number ++ script) in
    let c = length-append (closing number) script in
    let o = length-opening options number in
    let d = length-body options inputs l fits in
    let e = length-closing number in
    omega arith

pub ending-long : (options : Options) (inputs : List Taken) (l : Positions) → Fits options inputs l → l.body_end + length (ending_of options inputs l) ≡ WINDOW
ending-long options inputs l fits =
    let number = delimiter_number (body_of options inputs l) in
    let script = script_for options inputs l in
    let fill = spaces (WINDOW - length (shell_text options inputs l)) in
    let a = length-append (closing number) (script ++ fill) in
    let b = length-append script fill in
    let c = length-closing number in
    let d = length-spaces (WINDOW - length (shell_text options inputs l)) in
    let e = length-shell_text options inputs l fits in
    let f = length-script_for options inputs l fits in
    let body = fits.body in
    omega arith

-- the delimiter's line and the script
pub script-behind : (options : Options) (inputs : List Taken) (l : Positions) (number skip count : ℕ) (x y : Option (List ℕ)) (none a b : List ℕ)
    → number ≡ delimiter_number (body_of options inputs l) → x ≡ header_for X64 (placed_inputs inputs l) → y ≡ header_for A64 (placed_inputs inputs l)
    → skip ≡ l.mach_at / 8 → count ≡ l.mach_len / 8 → none ≡ [] → a ≡ none ++ closing number → b ≡ a ++ script_of options.systems x y skip count → b ≡ closing (delimiter_number (body_of options inputs l)) ++ script_for options inputs l
script-behind options inputs l number skip count x y none a b n_is x_is y_is s_is c_is empty first second =
    second
    ∙ ap (λ t. t ++ script_of options.systems x y skip count) (first ∙ ap (λ t. t ++ closing number) empty ∙ ap closing n_is)
    ∙ rw (x_is, y_is, s_is, c_is) refl

pub ending-short : (options : Options) (inputs : List Taken) (l : Positions) (body_end : ℕ) (text : List ℕ) → Fits options inputs l → l.body_end ≡ body_end
    → text ≡ closing (delimiter_number (body_of options inputs l)) ++ script_for options inputs l → length text ≤ WINDOW - body_end
ending-short options inputs l body_end text fits at is =
    let number = delimiter_number (body_of options inputs l) in
    let a = length-append (closing number) (script_for options inputs l) in
    let b = length-closing number in
    let c = length-script_for options inputs l fits in
    let body = fits.body in
    let long = ap length is in
    omega arith

-- with spaces behind them
pub ending-made : (options : Options) (inputs : List Taken) (l : Positions) (body_end : ℕ) (text made : List ℕ) → Fits options inputs l → l.body_end ≡ body_end
    → text ≡ closing (delimiter_number (body_of options inputs l)) ++ script_for options inputs l → made ≡ text ++ spaces (WINDOW - body_end - length text) → made ≡ ending_of options inputs l
ending-made options inputs l body_end text made fits at is filled =
    let number = delimiter_number (body_of options inputs l) in
    let script = script_for options inputs l in
    let a = length-append (closing number) script in
    let b = length-closing number in
    let c = length-shell_text options inputs l fits in
    let long = ap length is in
    let count : WINDOW - body_end - length text ≡ WINDOW - length (shell_text options inputs l) = omega arith in
    filled
    ∙ ap (λ n. text ++ spaces n) count
    ∙ ap (λ t. t ++ spaces (WINDOW - length (shell_text options inputs l))) is
    ∙ append_assoc (closing number) script (spaces (WINDOW - length (shell_text options inputs l)))

pub spaces-next : (old new : List ℕ) (len w : ℕ) → len ≤ w → new ≡ old ++ take (len - length old) (replicate w 32) → new ≡ old ++ spaces (len - length old)
unfolding spaces
spaces-next old new len w room is = is ∙ ap (λ t. old ++ t) (take-replicate (len - length old) w 32 (omega arith))

pub lines-are : (systems : Systems) (x y : Option (List ℕ)) (skip s count c : ℕ) → x ≡ y → skip ≡ s → count ≡ c → length (system_lines systems x skip count) ≡ length (system_lines systems y s c)
lines-are systems x y skip s count c x_is s_is c_is = rw (x_is, s_is, c_is) refl
