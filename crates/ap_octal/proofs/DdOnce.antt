-- A file has one first `dd` statement at most.
use Rattle.std.proofs.Common.{◌≡◌, ◌∙◌, ℕ, List, take, Option, Some, None, refl, sym, ap, subst, inl, inr, arith}
use Rattle.std.specs.Prelude.{codes}
use Rattle.std.proofs.lemmas.Bool.{cases_lt}
use Rattle.memchr.specs.Find.{NoneBefore}
use Rattle.ap_fields.specs.declared.sizes.TheConstants.{WINDOW}
use Rattle.ap_octal.specs.DdPlace.{HasDd, HasOperand, IsDd, StandsDd}
use Rattle.ap_octal.specs.declared.types.DdStatement.{DdStatement}
use Rattle.ap_octal.proofs.DdPlaces.{operand_end, operand_number}

-- there is one first place
pub first-once : (P : ℕ → Type 0) (i j a b : ℕ) → NoneBefore P i j a → P a → NoneBefore P i j b → P b → a ≡ b
first-once P i j a b c at_a d at_b =
    elim (cases_lt a b) as (λ _. a ≡ b) [
      | inl below ↦ absurd (d.before a c.low below at_a)
      | inr above ↦ elim (cases_lt b a) as (λ _. a ≡ b) [
        | inl below ↦ absurd (c.before b d.low below at_b)
        | inr under ↦ omega arith
      ]
    ]

record SameNumbers (size skip count size' skip' count' : ℕ) : Type 0 where
  sizes : size ≡ size'
  skips : skip ≡ skip'
  counts : count ≡ count'

numbers-one : (text : List ℕ) (at size skip count size' skip' count' : ℕ) → StandsDd text at size skip count → StandsDd text at size' skip' count' → SameNumbers size skip count size' skip' count'
numbers-one text at size skip count size' skip' count' h k =
    let skip_at : k.skip_at ≡ h.skip_at = operand_end text at (codes " bs=") size' size k.skip_at h.skip_at k.bs h.bs in
    let skips = subst (λ n. HasOperand text n (codes " skip=") skip' k.count_at) skip_at k.skips in
    let count_at : k.count_at ≡ h.count_at = operand_end text h.skip_at (codes " skip=") skip' skip k.count_at h.count_at skips h.skips in
    let counts = subst (λ n. HasOperand text n (codes " count=") count' k.conv_at) count_at k.counts in
    record {
      sizes = operand_number text at (codes " bs=") size size' h.skip_at k.skip_at h.bs k.bs;
      skips = operand_number text h.skip_at (codes " skip=") skip skip' h.count_at k.count_at h.skips skips;
      counts = operand_number text h.count_at (codes " count=") count count' h.conv_at k.conv_at h.counts counts;
    }

abbrev made : ℕ → ℕ → ℕ → ℕ → Option DdStatement
made at size skip count = Some (record { at = at; size = size; skip = skip; count = count })

pub dd-one : (file : List ℕ) (x y : Option DdStatement) → IsDd file x → IsDd file y → x ≡ y
dd-one file None None h k = refl
dd-one file None (Some t) h k = absurd (h t.at k.0.low k.0.high (t.size, t.skip, t.count, k.1))
dd-one file (Some s) None h k = absurd (k s.at h.0.low h.0.high (s.size, s.skip, s.count, h.1))
dd-one file (Some s) (Some t) h k =
    let at : s.at ≡ t.at = first-once (HasDd file) 0 WINDOW s.at t.at h.0 (s.size, s.skip, s.count, h.1) k.0 (t.size, t.skip, t.count, k.1) in
    let there = subst (λ n. StandsDd (take WINDOW file) n t.size t.skip t.count) (sym at) k.1 in
    let same = numbers-one (take WINDOW file) s.at s.size s.skip s.count t.size t.skip t.count h.1 there in
    ap (λ n. made n s.size s.skip s.count) at ∙ ap (λ n. made t.at n s.skip s.count) same.sizes
    ∙ ap (λ n. made t.at t.size n s.count) same.skips ∙ ap (made t.at t.size t.skip) same.counts
