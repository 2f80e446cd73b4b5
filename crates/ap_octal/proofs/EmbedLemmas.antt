-- A statement has one closing quote and stands for one list of bytes.
use Rattle.std.proofs.Common.{◌≡◌, ℕ, ◌+◌, ◌<◌, List, length, sym, ap, subst, arith, inl, inr}
use Rattle.std.specs.Prelude.{slice_range}
use Rattle.std.proofs.lemmas.Bool.{cases_lt}
use Rattle.ap_octal.specs.OctalText.{IsOctal}
use Rattle.ap_octal.specs.Embedded.{Closes, Embeds}
use Rattle.ap_octal.proofs.OctalLemmas.{exact}

pub closes-once : (file : List ℕ) (from a b : ℕ) → Closes file from a → Closes file from b → a ≡ b
closes-once file from a b c d =
    elim (cases_lt a b) as (λ _. a ≡ b) [
      | inl below ↦ absurd (d.first a c.behind below c.quote)
      | inr above ↦ elim (cases_lt b a) as (λ _. a ≡ b) [
        | inl below ↦ absurd (c.first b d.behind below d.quote)
        | inr under ↦ omega arith
      ]
    ]

pub embeds-none : (file : List ℕ) (at end last : ℕ) (bytes others : List ℕ) → Closes file (at + 8) end → IsOctal (slice_range file (at + 8) end) bytes → length bytes < 64
    → Embeds file at last others → ⊥
embeds-none file at end last bytes others closes octal short e =
    let same = closes-once file (at + 8) end last closes e.closes in
    let bytes-same = exact (slice_range file (at + 8) end) bytes others octal (subst (λ k. IsOctal (slice_range file (at + 8) k) others) (sym same) e.octal) in
    let long = e.enough in
    absurd (omega (arith, ap length bytes-same))
