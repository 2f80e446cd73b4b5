-- Marks made piece by piece.
use Rattle.std.proofs.Common.{◌≡◌, ℕ, ◌+◌, ◌-◌, ◌<◌, ◌≤◌, Bool, true, List, length, take, drop, Some, None, subst, arith, ⊎_elim}
use Rattle.std.proofs.lemmas.Bool.{cases_lt}
use Rattle.memchr.specs.Find.{OccursAt, FindsNeedle}
use Rattle.memchr.proofs.lemmas.MatchLemmas.{occurs_at-true, OccursAt-true}
use Rattle.ap_elf.specs.Symbols.{stands_at}
use Rattle.ap_elf.specs.Seen.{may_stand, IsMarked, IsMarkedBelow, KeepsMarks}
use Rattle.ap_elf.proofs.Searches.{occurs-piece}

-- a piece whose places are marked
pub marked-next : (strings text : List ℕ) (at count : ℕ) (old new : List Bool) → at + count ≤ length strings → length text ≤ count
    → IsMarkedBelow strings text old at → KeepsMarks old new
    → ((k : ℕ) → stands_at (take count (drop at strings)) text k ≡ true → may_stand new (at + k) ≡ true)
    → IsMarkedBelow strings text new (at + (count - length text + 1))
marked-next strings text at count old new inside long before kept here k below stands =
    ⊎_elim
    (λ low. kept k (before k low stands))
    (λ high.
    let same : at + (k - at) ≡ k = omega arith in
    subst (λ j. may_stand new j ≡ true) same
    (here (k - at) (occurs_at-true (take count (drop at strings)) text (k - at)
    (occurs-piece strings text at count inside k (omega arith) (omega arith) (OccursAt-true strings text k stands)))))
    (cases_lt k at)

-- no piece is left
pub marked-all : (strings text : List ℕ) (at : ℕ) (marks : List Bool) → length strings < at + length text → IsMarkedBelow strings text marks at → IsMarked strings text marks
marked-all strings text at marks past before k stands =
    let fits = (OccursAt-true strings text k stands).fits in
    before k (omega arith) stands

-- the places of a part below one are marked
abbrev pub PartMarked : List ℕ → List ℕ → ℕ → List Bool → ℕ → Type 0
PartMarked part text at marks end = (k : ℕ) → k < end → stands_at part text k ≡ true → may_stand marks (at + k) ≡ true

module _ (part text : List ℕ) (at from : ℕ) (old : List Bool) (inside : from ≤ length part) (before : PartMarked part text at old from) where
  -- a text that stands behind these stands in what is searched
  behind : (k : ℕ) → from ≤ k → stands_at part text k ≡ true → OccursAt (take (length part - from) (drop from part)) text (k - from)
  behind k low stands =
      let there = OccursAt-true part text k stands in
      let fits = there.fits in
      occurs-piece part text from (length part - from) (omega arith) k low (omega arith) there

  -- the next place is found, and marked
  pub part-found : (i : ℕ) (new : List Bool) → FindsNeedle (take (length part - from) (drop from part)) text 0 (Some i) → KeepsMarks old new → may_stand new (at + (from + i)) ≡ true
      → PartMarked part text at new (from + (i + 1))
  part-found i new found kept here k below stands =
      ⊎_elim
      (λ low. kept (at + k) (before k low stands))
      (λ high. ⊎_elim
      (λ short. absurd (found.0.before (k - from) (omega arith) (omega arith) (behind k high stands)))
      (λ long. let same : from + i ≡ k = omega arith in subst (λ j. may_stand new (at + j) ≡ true) same here)
      (cases_lt k (from + i)))
      (cases_lt k from)

  -- none is left
  pub part-none : FindsNeedle (take (length part - from) (drop from part)) text 0 None → (k : ℕ) → stands_at part text k ≡ true → may_stand old (at + k) ≡ true
  part-none none k stands =
      ⊎_elim
      (λ low. before k low stands)
      (λ high.
      let there = behind k high stands in
      let fits = there.fits in
      absurd (none (k - from) (omega arith) (omega arith) there))
      (cases_lt k from)
