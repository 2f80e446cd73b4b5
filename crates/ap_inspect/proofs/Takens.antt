-- Where the statement stands that a reading takes.
use Rattle.std.proofs.Common.{◌≡◌, ℕ, zero, suc, ◌+◌, ◌-◌, Bool, true, false, cond, List, length, take, drop, Option, Some, None, refl, sym, ap, ◌∙◌, subst, arith, inl, inr}
use Rattle.std.specs.Prelude.{codes, slice_range}
use Rattle.std.specs.Option.{option_and_then}
use Rattle.std.proofs.lemmas.Bool.{cases_Bool}
use Rattle.std.proofs.lemmas.List.{length-take, length-drop}
use Rattle.memchr.specs.Find.{occurs_at}
use Rattle.memchr.proofs.lemmas.MatchLemmas.{OccursAt-true}
use Rattle.ap_fields.specs.declared.sizes.TheConstants.{WINDOW}
use Rattle.ap_octal.specs.Embedded.{Opens, Closes, EmbedsNothing}
use Rattle.ap_octal.specs.OctalReading.{octal_bytes_of}
use Rattle.ap_octal.proofs.WindowLemmas.{window-opens}
use Rattle.ap_loader.specs.Embedded.{has_magic, before_quote, header_in, header_at, or_later, first_header, header_of_window, taken}
use Rattle.ap_loader.proofs.HeaderLemmas.{header_at-nothing}
use Rattle.ap_loader.proofs.Quotes.{before_quote-closes}
use Rattle.ap_inspect.specs.Owners.{owner_line, quoted_owner}

abbrev IsNo : {A : Type 0} → Option A → Type 0
IsNo None = Unit {0}
IsNo (Some x) = ⊥

abbrev place_or : ℕ → Option (ℕ × List ℕ) → ℕ
place_or k None = k
place_or k (Some (at, header)) = at

abbrev HasHeader : ℕ → List ℕ → ℕ → Type 0
HasHeader machine window at = (header : List ℕ) × header_at machine window at ≡ Some header

by-header : (machine : ℕ) (window header : List ℕ) (at k : ℕ) (here : Option (List ℕ)) (later : Option (ℕ × List ℕ)) → header_at machine window at ≡ here
    → (later ≡ Some (k, header) → HasHeader machine window k) → or_later at here later ≡ Some (k, header) → HasHeader machine window k
by-header machine window header at k (Some h) later is rest e =
    let same : at ≡ k = ap (place_or 0) e in
    (h, subst (λ j. header_at machine window j ≡ Some h) same is)
by-header machine window header at k None later is rest e = rest e

first-there : (machine : ℕ) (window header : List ℕ) (at n k : ℕ) → first_header machine window at n ≡ Some (k, header) → HasHeader machine window k
first-there machine window header at zero k e = absurd (subst IsNo e tt)
first-there machine window header at (suc n) k e =
    by-header machine window header at k (header_at machine window at) (first_header machine window (at + 1) n) refl (first-there machine window header (at + 1) n k) e

by-magic : (b : Bool) (machine : ℕ) (window header : List ℕ) (k : ℕ) → cond b (header_of_window machine window) None ≡ Some (k, header) → HasHeader machine window k
by-magic true machine window header k e = first-there machine window header 0 (length window) k e
by-magic false machine window header k e = absurd (subst IsNo e tt)

-- a header stands at the place of the statement that is taken
pub taken-there : (machine : ℕ) (file header : List ℕ) (k : ℕ) → taken machine file ≡ Some (k, header) → HasHeader machine (take WINDOW file) k
unfolding taken
taken-there machine file header k e = by-magic (has_magic file) machine (take WINDOW file) header k e

-- and a statement opens there
pub header-opens : (machine : ℕ) (file : List ℕ) (at : ℕ) → HasHeader machine (take WINDOW file) at → Opens file at
header-opens machine file at (header, e) =
    let window = take WINDOW file in
    elim (cases_Bool (occurs_at window (codes "printf '") at)) [
      | inl there ↦ window-opens file at (OccursAt-true window (codes "printf '") at there)
      | inr missing ↦ absurd (subst IsNo (sym (ap (λ b. cond b (option_and_then (header_in machine) (option_and_then octal_bytes_of (before_quote (drop (at + 8) window)))) None) missing) ∙ e) tt)
    ]

-- it embeds something
pub header-embeds : (machine : ℕ) (file : List ℕ) (at : ℕ) → HasHeader machine (take WINDOW file) at → ¬ EmbedsNothing file at
header-embeds machine file at (header, e) nothing =
    subst IsNo (sym (header_at-nothing machine file at (header-opens machine file at (header, e)) nothing) ∙ e) tt

-- the line of a statement whose closing quote stands at `end`
pub quoted-line : (file : List ℕ) (at end : ℕ) → Closes file (at + 8) end
    → quoted_owner at (before_quote (drop (at + 8) (take WINDOW file))) ≡ owner_line (codes "ape") at (end + 1 - at)
quoted-line file at end c =
    let behind = c.behind in
    let fits = c.fits in
    let taken_size = length-take (end - (at + 8)) (drop (at + 8) file) in
    let rest_size = length-drop (at + 8) file in
    let size : length (slice_range file (at + 8) end) + 9 ≡ end + 1 - at = omega (arith, behind, fits, taken_size, rest_size) in
    ap (quoted_owner at) (before_quote-closes file (at + 8) end c) ∙ ap (owner_line (codes "ape") at) size
