-- Sections and symbols that were read without the rest of the file.
use Rattle.std.proofs.Common.{◌≡◌, ℕ, zero, suc, ◌+◌, ◌*◌, ◌≤◌, List, ◌∷◌, take, drop, refl, ap, ◌∙◌, arith}
use Rattle.ap_elf.specs.Symbols.{section_at, symbol_at, symbols_from}
use Rattle.ap_elf.proofs.EntryTables.{number_at-part}

section_at-part : (b : List ℕ) (at : ℕ) → section_at (take 64 (drop at b)) 0 ≡ section_at b at
unfolding section_at
section_at-part b at i = record {
  kind = (number_at-part 4 4 (at + 4) at 64 b (omega arith) (omega arith)) i;
  offset = (number_at-part 8 24 (at + 24) at 64 b (omega arith) (omega arith)) i;
  size = (number_at-part 8 32 (at + 32) at 64 b (omega arith) (omega arith)) i;
  link = (number_at-part 4 40 (at + 40) at 64 b (omega arith) (omega arith)) i;
  entsize = (number_at-part 8 56 (at + 56) at 64 b (omega arith) (omega arith)) i;
}

pub section-read : (b part : List ℕ) (at : ℕ) → part ≡ take 64 (drop at b) → section_at part 0 ≡ section_at b at
section-read b part at e = ap (λ x. section_at x 0) e ∙ section_at-part b at

symbol_at-part : (b : List ℕ) (at p n : ℕ) → p + 24 ≤ n → symbol_at (take n (drop at b)) p ≡ symbol_at b (at + p)
unfolding symbol_at
symbol_at-part b at p n h i = record {
  name = (number_at-part 4 p (at + p) at n b (omega arith) (omega arith)) i;
  section = (number_at-part 2 (p + 6) (at + p + 6) at n b (omega arith) (omega arith)) i;
  value = (number_at-part 8 (p + 8) (at + p + 8) at n b (omega arith) (omega arith)) i;
}

symbols_from-part : (b : List ℕ) (at p n k : ℕ) → p + 24 * k ≤ n → symbols_from (take n (drop at b)) p k ≡ symbols_from b (at + p) k
symbols_from-part b at p n zero h = refl
symbols_from-part b at p n (suc k) h =
    ap (λ s. s ∷ symbols_from (take n (drop at b)) (p + 24) k) (symbol_at-part b at p n (omega arith))
    ∙ ap (λ l. symbol_at b (at + p) ∷ l) (symbols_from-part b at (p + 24) n k (omega arith) ∙ ap (λ q. symbols_from b q k) (let e : at + (p + 24) ≡ at + p + 24 = omega arith in e))

-- symbols, read alone
pub symbols-read : (b part : List ℕ) (at k : ℕ) → part ≡ take (24 * k) (drop at b) → symbols_from part 0 k ≡ symbols_from b at k
symbols-read b part at k e =
    ap (λ x. symbols_from x 0 k) e ∙ symbols_from-part b at 0 (24 * k) k (omega arith) ∙ ap (λ q. symbols_from b q k) (omega arith)
