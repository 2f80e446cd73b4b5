-- Where a text was seen among strings.
use Rattle.std.proofs.Common.{◌≡◌, ℕ, suc, ◌+◌, ◌<◌, ◌==◌, List, [], ◌∷◌, ◌++◌, length, take, set, Option, Some, None, unwrap_or, refl, sym, ap, ◌∙◌, arith, ⊎_elim}
use Rattle.std.proofs.lemmas.Bool.{cases_Bool, cases_eq, cases_lt, eq-eqb, ne_eqb}
use Rattle.memchr.specs.Find.{Nowhere, OccursAt, FindsNeedle}
use Rattle.memchr.proofs.lemmas.MatchLemmas.{occurs_at-true, OccursAt-true}
use Rattle.ap_elf.specs.Symbols.{stands_at, with_nul}

-- a name and a NUL at the front of other bytes
pub take-with_nul : (name rest : List ℕ) → 0 < length rest → take (length name + 1) (set (name ++ rest) (length name) 0) ≡ with_nul name
take-with_nul [] [] h = absurd (omega arith)
take-with_nul [] (x ∷ rest) h = refl
take-with_nul (y ∷ name) rest h =
    let more : length (y ∷ name) + 1 ≡ suc (length name + 1) = omega arith in
    ap (λ k. take k (y ∷ set (name ++ rest) (length name) 0)) more ∙ ap (λ l. y ∷ l) (take-with_nul name rest h)

seen-below : (strings text : List ℕ) (first other at : ℕ) → Nowhere (OccursAt strings text) 0 first → OccursAt strings text first → Nowhere (OccursAt strings text) (first + 1) other → at < other
    → stands_at strings text at ≡ (at == first)
seen-below strings text first other at before here after below =
    ⊎_elim
    (λ same. ap (stands_at strings text) same ∙ occurs_at-true strings text first here ∙ sym (eq-eqb at first same))
    (λ apart. ⊎_elim
    (λ yes. let there = OccursAt-true strings text at yes in
    absurd (⊎_elim (λ low. before at (omega arith) low there) (λ high. after at (omega arith) below there) (cases_lt at first)))
    (λ no. no ∙ sym (ne_eqb at first apart))
    (cases_Bool (stands_at strings text at)))
    (cases_eq at first)

-- the first place, and the next or the end
pub seen-places : (strings text : List ℕ) (first end at : ℕ) (next : Option ℕ) → end ≡ length strings → FindsNeedle strings text 0 (Some first) → FindsNeedle strings text (first + 1) next
    → at < unwrap_or next end → stands_at strings text at ≡ (at == first)
seen-places strings text first end at None long found none below = seen-below strings text first (length strings + 1) at found.0.before found.1 none (omega arith)
seen-places strings text first end at (Some other) long found again below = seen-below strings text first other at found.0.before found.1 again.0.before below
