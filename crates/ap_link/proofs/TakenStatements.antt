-- The statement that a loader takes of a file that begins with a block.
use Rattle.std.proofs.Common.{◌≡◌, ◌≢◌, ◌⊎◌, inl, inr, ℕ, ◌+◌, ◌<◌, ◌==◌, ◌&&◌, cond, Bool, true, false, List, ◌++◌, length, take, drop, Option, Some, None, refl, sym, ap, ◌∙◌, arith, subst, append_assoc}
use Rattle.std.specs.Prelude.{All, codes}
use Rattle.std.specs.Option.{option_and_then}
use Rattle.memchr.specs.Find.{occurs_at}
use Rattle.memchr.proofs.lemmas.MatchLemmas.{OccursAt-true}
use Rattle.std.proofs.lemmas.Bool.{cases_Bool, cases_eq}
use Rattle.std.proofs.lemmas.Bool.Decides.{nat_tests}
use Rattle.std.proofs.lemmas.List.{take_all}
use Rattle.ap_fields.specs.declared.sizes.TheConstants.{WINDOW}
use Rattle.ap_fields.specs.Bytes.{zeros}
use Rattle.ap_fields.specs.Fields.{number_at}
use Rattle.ap_octal.specs.OctalReading.{octal_bytes_of}
use Rattle.ap_octal.specs.Statement.{octals_of}
use Rattle.ap_octal.proofs.WindowLemmas.{window-opens}
use Rattle.ap_loader.specs.Embedded.{has_magic, before_quote, begins_header, header_in, header_at, taken}
use Rattle.ap_loader.proofs.HeaderLemmas.{header_at-embeds, header_at-closed, taken-some, taken-none, opens-within}
use Rattle.ap_check.specs.declared.options.Options.{Options}
use Rattle.ap_elf.specs.declared.machine.Machine.{Machine}
use Rattle.ap_elf.specs.declared.machine.Machine.TheVariants.{X64, A64}
use Rattle.ap_elf.specs.Machines.{number_of}
use Rattle.ap_check.specs.Inputs.{Taken, Meets}
use Rattle.ap_layout.specs.Positions.{Positions, PlacedInput, Fits, only_inputs, placed_inputs}
use Rattle.ap_script.specs.Script.{header_for}
use Rattle.ap_script.specs.Delimiter.{delimiter_number}
use Rattle.ap_check.specs.Options.{for_windows}
use Rattle.ap_pe.specs.Linked.{headers_place}
use Rattle.ap_script.specs.Blocks.{magic_line, opening_line, opening, body_of, second_half, block_of}
use Rattle.ap_script.specs.Stands.{machines_start, statement_place}
use Rattle.ap_script.proofs.ScriptParts.{IsHeader}
use Rattle.ap_script.proofs.BlockParts.{behind_body, front-parts}
use Rattle.ap_script.proofs.StatementPlaces.{contained, opens-places, opens-block}
use Rattle.ap_script.proofs.InputStatements.{none-for, header-says, places-order, embeds-block}

-- the magic
magic-front : (w d : Bool) (rest : List ℕ) → has_magic (((cond w (codes "MZqFpD='") (cond d (codes "APEDBG='") (codes "jartsr='"))) ++ codes "\n") ++ rest) ≡ true
magic-front true d rest = refl
magic-front false true rest = refl
magic-front false false rest = refl

opening-magic : (options : Options) (number : ℕ) (rest : List ℕ) → has_magic (opening options number ++ rest) ≡ true
unfolding opening
opening-magic options number rest =
    let line = zeros 51 ++ (headers_place options ++ opening_line number) in
    ap has_magic (append_assoc (magic_line options) line rest) ∙ magic-front (for_windows options) options.debug (line ++ rest)

pub block-magic : (options : Options) (inputs : List Taken) (l : Positions) (rest : List ℕ) → has_magic (block_of options inputs l ++ rest) ≡ true
block-magic options inputs l rest =
    ap has_magic (front-parts options inputs l rest)
    ∙ opening-magic options (delimiter_number (body_of options inputs l)) ((body_of options inputs l ++ behind_body options inputs l) ++ (second_half options inputs l ++ rest))

-- a machine's statement as a loader for a machine of a number reads it
begins-by : (m : Machine) (header : List ℕ) (n : ℕ) → IsHeader m header → begins_header n header ≡ (number_of m == n)
begins-by m header n is = ap (λ b. b && number_at 2 18 header == n) is.begins ∙ ap (λ k. k == n) is.number

header-there : (options : Options) (inputs : List Taken) (l : Positions) (rest : List ℕ) (n : ℕ) (m : Machine) (header : List ℕ) → Fits options inputs l → header_for m (placed_inputs inputs l) ≡ Some header
    → header_at n (take WINDOW (block_of options inputs l ++ rest)) (statement_place options inputs l m) ≡ cond (number_of m == n) (Some header) None
header-there options inputs l rest n m header fits is =
    let place : ℕ = statement_place options inputs l m in
    let is_header = header-says m (placed_inputs inputs l) header is in
    let long = is_header.long in
    header_at-embeds n (block_of options inputs l ++ rest) place (place + 8 + length (octals_of header)) header header (opens-block options inputs l rest m header fits is)
    (embeds-block options inputs l rest m header fits is)
    (sym (take_all 64 header (omega arith)))
    ∙ ap (λ b. cond b (Some header) None) (begins-by m header n is_header)

-- in front of the x86-64 statement there is none
before-x64 : (options : Options) (inputs : List Taken) (l : Positions) (rest : List ℕ) (j : ℕ) → All Meets inputs → Fits options inputs l
    → j < statement_place options inputs l X64 → header_at (number_of X64) (take WINDOW (block_of options inputs l ++ rest)) j ≡ None
before-x64 options inputs l rest j meets fits low =
    let ascend = places-order options inputs l in
    header_at-closed (number_of X64) (block_of options inputs l ++ rest) j (λ o.
    elim (contained (header_for X64 (placed_inputs inputs l)) (header_for A64 (placed_inputs inputs l)) (machines_start options inputs l) j (opens-places options inputs l rest j meets fits o)) [
      | inl (h, some, at) ↦ omega arith
      | inr (h, some, at) ↦ omega arith
    ])

-- in front of the AArch64 statement there is at most the x86-64 one, which is for another machine
before-a64 : (options : Options) (inputs : List Taken) (l : Positions) (rest : List ℕ) (j : ℕ) → All Meets inputs → Fits options inputs l
    → j < statement_place options inputs l A64 → header_at (number_of A64) (take WINDOW (block_of options inputs l ++ rest)) j ≡ None
before-a64 options inputs l rest j meets fits low =
    let file = block_of options inputs l ++ rest in
    elim (which (header_for X64 (placed_inputs inputs l))) [
      | inr none ↦ header_at-closed (number_of A64) file j (λ o.
          elim (contained (header_for X64 (placed_inputs inputs l)) (header_for A64 (placed_inputs inputs l)) (machines_start options inputs l) j (opens-places options inputs l rest j meets fits o)) [
            | inl (h, some, at) ↦ none h some
            | inr (h, some, at) ↦ omega arith
          ])
      | inl (first, is) ↦ elim (cases_eq j (statement_place options inputs l X64)) [
        | inl here ↦ ap (header_at (number_of A64) (take WINDOW file)) here ∙ header-there options inputs l rest (number_of A64) X64 first fits is
        | inr other ↦ header_at-closed (number_of A64) file j (λ o.
            elim (contained (header_for X64 (placed_inputs inputs l)) (header_for A64 (placed_inputs inputs l)) (machines_start options inputs l) j (opens-places options inputs l rest j meets fits o)) [
              | inl (h, some, at) ↦ other at
              | inr (h, some, at) ↦ omega arith
            ])
      ]
    ]
  where
    which : (o : Option (List ℕ)) → ((h : List ℕ) × (o ≡ Some h)) ⊎ ((h : List ℕ) → o ≢ Some h)
    which None = inr (λ h e. cc)
    which (Some h) = inl (h, refl)

pub taken-block : (options : Options) (inputs : List Taken) (l : Positions) (rest : List ℕ) (m : Machine) (header : List ℕ) → All Meets inputs → Fits options inputs l → header_for m (placed_inputs inputs l) ≡ Some header
    → taken (number_of m) (block_of options inputs l ++ rest) ≡ Some (statement_place options inputs l m, header)
taken-block options inputs l rest X64 header meets fits is =
    let file = block_of options inputs l ++ rest in
    let place : ℕ = statement_place options inputs l X64 in
    taken-some (number_of X64) file header place (block-magic options inputs l rest) (opens-within file place (opens-block options inputs l rest X64 header fits is)) (header-there options inputs l rest (number_of X64) X64 header fits is)
    (λ j low. before-x64 options inputs l rest j meets fits low)
taken-block options inputs l rest A64 header meets fits is =
    let file = block_of options inputs l ++ rest in
    let place : ℕ = statement_place options inputs l A64 in
    taken-some (number_of A64) file header place (block-magic options inputs l rest) (opens-within file place (opens-block options inputs l rest A64 header fits is)) (header-there options inputs l rest (number_of A64) A64 header fits is)
    (λ j low. before-a64 options inputs l rest j meets fits low)

-- ---- other machines

other-machine : (m : Machine) (n : ℕ) (inputs : List Taken) → All (λ e. number_of e.machine ≢ n) inputs → number_of m ≡ n → All (λ e. m ≢ e.machine) inputs
other-machine m n inputs apart is k d low = λ same. apart k d low (ap number_of (sym same) ∙ is)

-- a header in the script is for the machine of an input
header-machine : (m : Machine) (n : ℕ) (ps : List PlacedInput) (header : List ℕ) → All (λ e. number_of e.machine ≢ n) (only_inputs ps) → header_for m ps ≡ Some header → number_of m ≢ n
header-machine m n ps header apart is same = let none : None ≡ Some header = sym (none-for m ps (other-machine m n (only_inputs ps) apart same)) ∙ is in cc

nothing-there : (options : Options) (inputs : List Taken) (l : Positions) (rest : List ℕ) (n : ℕ) (m : Machine) (header : List ℕ) (j : ℕ) → Fits options inputs l → All (λ e. number_of e.machine ≢ n) inputs
    → header_for m (placed_inputs inputs l) ≡ Some header → j ≡ statement_place options inputs l m → header_at n (take WINDOW (block_of options inputs l ++ rest)) j ≡ None
nothing-there options inputs l rest n m header j fits apart is at =
    let other = header-machine m n (placed_inputs inputs l) header (subst (All (λ e. number_of e.machine ≢ n)) (sym fits.all) apart) is in
    let test : (number_of m == n) ≡ false = grind (arith, nat_tests) in
    ap (header_at n (take WINDOW (block_of options inputs l ++ rest))) at
    ∙ header-there options inputs l rest n m header fits is
    ∙ ap (λ b. cond b (Some header) None) test

nothing-at : (options : Options) (inputs : List Taken) (l : Positions) (rest : List ℕ) (n j : ℕ) → All Meets inputs → Fits options inputs l → All (λ e. number_of e.machine ≢ n) inputs
    → header_at n (take WINDOW (block_of options inputs l ++ rest)) j ≡ None
nothing-at options inputs l rest n j meets fits apart =
    elim (cases_Bool (occurs_at (take WINDOW (block_of options inputs l ++ rest)) (codes "printf '") j)) [
      | inl there ↦
          elim (contained (header_for X64 (placed_inputs inputs l)) (header_for A64 (placed_inputs inputs l)) (machines_start options inputs l) j
          (opens-places options inputs l rest j meets fits (window-opens (block_of options inputs l ++ rest) j (OccursAt-true (take WINDOW (block_of options inputs l ++ rest)) (codes "printf '") j there)))) [
            | inl (h, some, at) ↦ nothing-there options inputs l rest n X64 h j fits apart some at
            | inr (h, some, at) ↦ nothing-there options inputs l rest n A64 h j fits apart some at
          ]
      | inr missing ↦ ap (λ b. cond b (option_and_then (header_in n) (option_and_then octal_bytes_of (before_quote (drop (j + 8) (take WINDOW (block_of options inputs l ++ rest)))))) None) missing
    ]

-- a loader for a machine that no input is for takes none
pub taken-other : (options : Options) (inputs : List Taken) (l : Positions) (rest : List ℕ) (n : ℕ) → All Meets inputs → Fits options inputs l → All (λ e. number_of e.machine ≢ n) inputs
    → taken n (block_of options inputs l ++ rest) ≡ None
taken-other options inputs l rest n meets fits apart =
    taken-none n (block_of options inputs l ++ rest) (block-magic options inputs l rest) (λ k. nothing-at options inputs l rest n k meets fits apart)
