-- Steps along section headers.
use Rattle.std.proofs.Common.{◌≡◌, ℕ, zero, suc, ◌+◌, ◌*◌, ◌≤◌, List, [], ◌∷◌, ◌++◌, take, drop, refl, ap, ◌∙◌, arith}
use Rattle.ap_elf.proofs.EntryTables.{number_at-part}
use Rattle.ap_pe.specs.Format.{section_at, sections_from}

sections_from-suc : (b : List ℕ) (at n : ℕ) → sections_from b at (suc n) ≡ sections_from b at n ++ section_at b (at + 40 * n) ∷ []
sections_from-suc b at zero = ap (λ k. section_at b k ∷ []) (omega arith)
sections_from-suc b at (suc n) =
    let next : at + 40 + 40 * n ≡ at + 40 * suc n = omega arith in
    ap (λ es. section_at b at ∷ es) (sections_from-suc b (at + 40) n)
    ∙ ap (λ k. section_at b at ∷ (sections_from b (at + 40) n ++ section_at b k ∷ [])) next

-- one section more, at the end
pub sections_from-more : (b : List ℕ) (n : ℕ) → sections_from b 0 (n + 1) ≡ sections_from b 0 n ++ section_at b (40 * n) ∷ []
sections_from-more b n =
    ap (sections_from b 0) (let e : n + 1 ≡ suc n = omega arith in e)
    ∙ sections_from-suc b 0 n
    ∙ ap (λ k. sections_from b 0 n ++ section_at b k ∷ []) (let e : 0 + 40 * n ≡ 40 * n = omega arith in e)

pub ruleset table_steps = (sections_from-more)

section_at-part : (p at count : ℕ) (b : List ℕ) → p + 40 ≤ count → section_at (take count (drop at b)) p ≡ section_at b (at + p)
unfolding section_at
section_at-part p at count b h i = record {
  vsize = (number_at-part 4 (p + 8) (at + p + 8) at count b (omega arith) (omega arith)) i;
  vaddr = (number_at-part 4 (p + 12) (at + p + 12) at count b (omega arith) (omega arith)) i;
  raw = (number_at-part 4 (p + 16) (at + p + 16) at count b (omega arith) (omega arith)) i;
  at = (number_at-part 4 (p + 20) (at + p + 20) at count b (omega arith) (omega arith)) i;
  flags = (number_at-part 4 (p + 36) (at + p + 36) at count b (omega arith) (omega arith)) i;
}

sections-part : (n p at count : ℕ) (b : List ℕ) → p + 40 * n ≤ count → sections_from (take count (drop at b)) p n ≡ sections_from b (at + p) n
sections-part zero p at count b h = refl
sections-part (suc n) p at count b h =
    let rest = sections-part n (p + 40) at count b (omega arith) in
    let place : at + (p + 40) ≡ at + p + 40 = omega arith in
    ap (λ e. e ∷ sections_from (take count (drop at b)) (p + 40) n) (section_at-part p at count b (omega arith))
    ∙ ap (λ es. section_at b (at + p) ∷ es) (rest ∙ ap (λ k. sections_from b k n) place)

-- the section headers, read alone
pub table-read : (n at : ℕ) (b part : List ℕ) → part ≡ take (40 * n) (drop at b) → sections_from part 0 n ≡ sections_from b at n
table-read n at b part e =
    ap (λ x. sections_from x 0 n) e ∙ sections-part n 0 at (40 * n) b (omega arith) ∙ ap (λ k. sections_from b k n) (omega arith)
