-- A file has one report.
use Rattle.std.proofs.Common.{◌≡◌, ◌∙◌, ap, sym, refl, subst, ℕ, ◌+◌, ◌-◌, ◌++◌, ◌⊎◌, List, [], length, take, inl, inr, decimal}
use Rattle.std.specs.Prelude.{slice_range, Option, Some, None, MatchOption, codes}
use Rattle.memchr.specs.Find.{Nowhere, NoneBefore}
use Rattle.ap_fields.specs.declared.sizes.TheConstants.{WINDOW}
use Rattle.ap_octal.specs.OctalText.{IsOctal}
use Rattle.ap_octal.specs.Embedded.{Opens, EmbedsNothing, Tells}
use Rattle.ap_octal.specs.declared.types.Decoded.{Decoded}
use Rattle.ap_octal.specs.declared.types.DdStatement.{DdStatement}
use Rattle.ap_octal.proofs.OctalLemmas.{exact}
use Rattle.ap_octal.proofs.EmbedLemmas.{closes-once}
use Rattle.ap_inspect.specs.Fronts.{front_lines}
use Rattle.ap_inspect.specs.StatementLines.{AreStatements, IsStatement, machine_of, statement_line, pair_text}
use Rattle.ap_octal.proofs.DdOnce.{dd-one, first-once}
use Rattle.ap_inspect.specs.DdLines.{dd_line}
use Rattle.ap_inspect.specs.Reports.{IsReport, answers_of, answers_text}

-- ---- the lines of statements

abbrev Told : List ℕ → ℕ → Option Decoded → Type 0
Told file at x = MatchOption x (EmbedsNothing file at) (λ d. Tells file at d)

abbrev line-of : ℕ → ℕ → List ℕ → List ℕ
line-of at count first = codes "statement " ++ (decimal at ++ pair_text count (machine_of first))

decoded-one : (file : List ℕ) (at : ℕ) (x y : Option Decoded) → Told file at x → Told file at y → statement_line at x ≡ statement_line at y
unfolding statement_line
decoded-one file at None None h k = refl
decoded-one file at None (Some d) h k = absurd (h d.end k.bytes k.embeds)
decoded-one file at (Some d) None h k = absurd (k d.end h.bytes h.embeds)
decoded-one file at (Some d) (Some e) h k =
    let ends : d.end ≡ e.end = closes-once file (at + 8) d.end e.end h.embeds.closes k.embeds.closes in
    let bytes : h.bytes ≡ k.bytes = exact (slice_range file (at + 8) d.end) h.bytes k.bytes h.embeds.octal (subst (λ n. IsOctal (slice_range file (at + 8) n) k.bytes) (sym ends) k.embeds.octal) in
    let count : d.count ≡ e.count = h.count ∙ ap length bytes ∙ sym k.count in
    let first : d.first ≡ e.first = h.first ∙ ap (take 64) bytes ∙ sym k.first in
    ap (λ n. line-of at n d.first) count ∙ ap (line-of at e.count) first

line-one : (file : List ℕ) (at : ℕ) (a b : List ℕ) → IsStatement file at a → IsStatement file at b → a ≡ b
line-one file at a b h k = h.text ∙ decoded-one file at h.decoded k.decoded h.told k.told ∙ sym k.text

record First (file : List ℕ) (from : ℕ) (text : List ℕ) : Type 0 where
  at : ℕ
  line : List ℕ
  lines : List ℕ
  before : NoneBefore (Opens file) from WINDOW at
  opens : Opens file at
  is : IsStatement file at line
  rest : AreStatements file (at + 1) lines
  whole : text ≡ line ++ lines

seen : (file : List ℕ) (from : ℕ) (text : List ℕ) → AreStatements file from text → (Nowhere (Opens file) from WINDOW × (text ≡ [])) ⊎ First file from text
seen file _ _ (AreStatements.none from nowhere) = inl (nowhere, refl)
seen file _ _ (AreStatements.some from at line lines before opens is rest) =
    inr (record { at = at; line = line; lines = lines; before = before; opens = opens; is = is; rest = rest; whole = refl })

statements-one : (file : List ℕ) (from : ℕ) (a b : List ℕ) → AreStatements file from a → AreStatements file from b → a ≡ b
statements-one file _ _ b (AreStatements.none from nowhere) k = elim (seen file from b k) [
  | inl e ↦ sym e.1
  | inr f ↦ absurd (nowhere f.at f.before.low f.before.high f.opens)
]
statements-one file _ _ b (AreStatements.some from at line lines before opens is rest) k = elim (seen file from b k) [
  | inl e ↦ absurd (e.0 at before.low before.high opens)
  | inr f ↦ (
      let same : at ≡ f.at = first-once (Opens file) from WINDOW at f.at before opens f.before f.opens in
      let one = line-one file at line f.line is (subst (λ n. IsStatement file n f.line) (sym same) f.is) in
      let more = statements-one file (at + 1) lines f.lines rest (subst (λ n. AreStatements file (n + 1) f.lines) (sym same) f.rest) in
      ap (λ x. x ++ lines) one ∙ ap (λ x. f.line ++ x) more ∙ sym f.whole)
]

-- ---- the report

abbrev text-of : List ℕ → List ℕ → Option DdStatement → List ℕ
text-of file statements dd = front_lines file ++ (statements ++ (dd_line dd ++ answers_text file dd (answers_of file dd)))

pub one-report : (file a b : List ℕ) → IsReport file a → IsReport file b → a ≡ b
one-report file a b h k =
    h.lines ∙ ap (λ s. text-of file s h.dd) (statements-one file 0 h.statements k.statements h.are_statements k.are_statements)
    ∙ ap (text-of file k.statements) (dd-one file h.dd k.dd h.is_dd k.is_dd) ∙ sym k.lines
