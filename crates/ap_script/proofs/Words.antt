-- A search for a word, as whether the word stands in a text.
use Rattle.std.proofs.Common.{◌≡◌, inl, inr, ℕ, zero, suc, ◌+◌, ◌<◌, ◌==◌, ◌||◌, true, List, [], ◌∷◌, length, Option, Some, None, refl, sym, ap, ◌∙◌, arith}
use Rattle.std.specs.Prelude.{slice_index}
use Rattle.std.proofs.lemmas.Bool.{and_from, and_parts, false_from_ne_true, or_cases, or_right}
use Rattle.std.proofs.lemmas.Bool.Decides.{nat_tests}
use Rattle.std.specs.Option.{is_some}
use Rattle.memchr.specs.Find.{OccursAt, FindsNeedle}
use Rattle.ap_script.specs.Delimiter.{begins_with, stands_in}

reads-later : (d : ℕ) (text : List ℕ) (k m : ℕ) → m ≡ suc k → slice_index (d ∷ text) m ≡ slice_index text k
reads-later d text k m is = ap (slice_index (d ∷ text)) is

occurs-begins : (word text : List ℕ) → OccursAt text word 0 → begins_with word text ≡ true
occurs-begins [] text o = refl
occurs-begins (c ∷ word) [] o = let f = o.fits in absurd (omega arith)
occurs-begins (c ∷ word) (d ∷ text) o =
    let f = o.fits in
    let same : d ≡ c = o.reads 0 (omega arith) in
    and_from (c == d) (begins_with word text) (grind (arith, nat_tests))
    (occurs-begins word text (record { fits = omega arith; reads = λ j h. sym (reads-later d text (0 + j) (0 + suc j) (omega arith)) ∙ o.reads (suc j) (omega arith) }))

same-reads : (c d : ℕ) (word text : List ℕ) → d ≡ c → ((j : ℕ) → j < length word → slice_index text (0 + j) ≡ slice_index word j)
    → (j : ℕ) → j < length (c ∷ word) → slice_index (d ∷ text) (0 + j) ≡ slice_index (c ∷ word) j
same-reads c d word text same rest zero h = same
same-reads c d word text same rest (suc j) h = reads-later d text (0 + j) (0 + suc j) (omega arith) ∙ rest j (omega arith)

begins-occurs : (word text : List ℕ) → begins_with word text ≡ true → OccursAt text word 0
begins-occurs [] text h = record { fits = omega arith; reads = λ j b. absurd (omega arith) }
begins-occurs (c ∷ word) [] h = absurd (cc)
begins-occurs (c ∷ word) (d ∷ text) h =
    let p = and_parts (c == d) (begins_with word text) h in
    let front : (c == d) ≡ true = p.0 in
    let same : d ≡ c = grind (arith, nat_tests) in
    let r = begins-occurs word text p.1 in
    let f = r.fits in
    record {
      fits = omega arith;
      reads = same-reads c d word text same r.reads;
    }

pub occurs-stands : (word text : List ℕ) (k : ℕ) → OccursAt text word k → stands_in word text ≡ true
occurs-stands word [] k o = let f = o.fits in occurs-begins word [] (record { fits = omega arith; reads = λ j h. absurd (omega arith) })
occurs-stands word (d ∷ text) zero o = ap (λ b. b || stands_in word text) (occurs-begins word (d ∷ text) o)
occurs-stands word (d ∷ text) (suc k) o =
    let f = o.fits in
    or_right (begins_with word (d ∷ text)) (stands_in word text) (occurs-stands word text k (record { fits = omega arith; reads = λ j h. sym (reads-later d text (k + j) (suc k + j) (omega arith)) ∙ o.reads j h }))

pub stands-occurs : (word text : List ℕ) → stands_in word text ≡ true → (k : ℕ) × OccursAt text word k
stands-occurs word [] h = (0, begins-occurs word [] h)
stands-occurs word (d ∷ text) h = elim (or_cases (begins_with word (d ∷ text)) (stands_in word text) h) [
  | inl here ↦ (0, begins-occurs word (d ∷ text) here)
  | inr later ↦
      (let r = stands-occurs word text later in
      let f = r.1.fits in
      (suc r.0, record { fits = omega arith; reads = λ j b. reads-later d text (r.0 + j) (suc r.0 + j) (omega arith) ∙ r.1.reads j b }))
]

-- what a search answers
pub finds-stands : (word text : List ℕ) (r : Option ℕ) → FindsNeedle text word 0 r → is_some r ≡ stands_in word text
finds-stands word text (Some k) h = sym (occurs-stands word text k h.1)
finds-stands word text None h =
    sym (false_from_ne_true (stands_in word text) (λ stands.
    let o = stands-occurs word text stands in
    let f = o.1.fits in
    h o.0 (omega arith) (omega arith) o.1))
