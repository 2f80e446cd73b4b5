-- Steps along a program header table.
use Rattle.std.proofs.Common.{◌≡◌, ℕ, zero, suc, ◌+◌, ◌*◌, ◌≤◌, List, [], ◌∷◌, ◌++◌, length, take, drop, slice_index, refl, ap, ◌∙◌, arith}
use Rattle.std.proofs.lemmas.List.{get_or-drop, get_or-take, take-take}
use Rattle.ap_fields.specs.Fields.{number_at}
use Rattle.ap_fields.proofs.Numbers.{number_at-same}
use Rattle.ap_elf.specs.Fields.{header_of, entry_at, entries_from}

entries_from-suc : (b : List ℕ) (at n : ℕ) → entries_from b at (suc n) ≡ entries_from b at n ++ entry_at b (at + 56 * n) ∷ []
entries_from-suc b at zero = ap (λ k. entry_at b k ∷ []) (omega arith)
entries_from-suc b at (suc n) =
    let next : at + 56 + 56 * n ≡ at + 56 * suc n = omega arith in
    ap (λ es. entry_at b at ∷ es) (entries_from-suc b (at + 56) n)
    ∙ ap (λ k. entry_at b at ∷ (entries_from b (at + 56) n ++ entry_at b k ∷ [])) next

-- one entry more, at the end
pub entries_from-more : (b : List ℕ) (at n : ℕ) → entries_from b at (n + 1) ≡ entries_from b at n ++ entry_at b (at + 56 * n) ∷ []
entries_from-more b at n = ap (entries_from b at) (let e : n + 1 ≡ suc n = omega arith in e) ∙ entries_from-suc b at n

pub length-entries_from : (b : List ℕ) (at n : ℕ) → length (entries_from b at n) ≡ n
length-entries_from b at zero = refl
length-entries_from b at (suc n) = let rest = length-entries_from b (at + 56) n in omega arith

pub ruleset table_steps = (entries_from-more)

-- a number in a part of a file
pub number_at-part : (n p q at count : ℕ) (b : List ℕ) → q ≡ at + p → p + n ≤ count → number_at n p (take count (drop at b)) ≡ number_at n q b
number_at-part n p q at count b e h =
    number_at-same n p q (take count (drop at b)) b
    (λ i l. get_or-take count (drop at b) (p + i) 0 (omega arith) ∙ get_or-drop at b (p + i) 0 ∙ ap (λ k. slice_index b k) (omega arith))

entry_at-part : (p at count : ℕ) (b : List ℕ) → p + 56 ≤ count → entry_at (take count (drop at b)) p ≡ entry_at b (at + p)
unfolding entry_at
entry_at-part p at count b h i = record {
  kind = (number_at-part 4 p (at + p) at count b (omega arith) (omega arith)) i;
  flags = (number_at-part 4 (p + 4) (at + p + 4) at count b (omega arith) (omega arith)) i;
  offset = (number_at-part 8 (p + 8) (at + p + 8) at count b (omega arith) (omega arith)) i;
  vaddr = (number_at-part 8 (p + 16) (at + p + 16) at count b (omega arith) (omega arith)) i;
  paddr = (number_at-part 8 (p + 24) (at + p + 24) at count b (omega arith) (omega arith)) i;
  filesz = (number_at-part 8 (p + 32) (at + p + 32) at count b (omega arith) (omega arith)) i;
  memsz = (number_at-part 8 (p + 40) (at + p + 40) at count b (omega arith) (omega arith)) i;
  align = (number_at-part 8 (p + 48) (at + p + 48) at count b (omega arith) (omega arith)) i;
}

entries-part : (n p at count : ℕ) (b : List ℕ) → p + 56 * n ≤ count → entries_from (take count (drop at b)) p n ≡ entries_from b (at + p) n
entries-part zero p at count b h = refl
entries-part (suc n) p at count b h =
    let rest = entries-part n (p + 56) at count b (omega arith) in
    let place : at + (p + 56) ≡ at + p + 56 = omega arith in
    ap (λ e. e ∷ entries_from (take count (drop at b)) (p + 56) n) (entry_at-part p at count b (omega arith))
    ∙ ap (λ es. entry_at b (at + p) ∷ es) (rest ∙ ap (λ k. entries_from b k n) place)

-- the table, read alone
pub table-read : (n at : ℕ) (b part : List ℕ) → part ≡ take (56 * n) (drop at b) → entries_from part 0 n ≡ entries_from b at n
table-read n at b part e =
    ap (λ x. entries_from x 0 n) e ∙ entries-part n 0 at (56 * n) b (omega arith) ∙ ap (λ k. entries_from b k n) (omega arith)

header-front : (b : List ℕ) → header_of (take 64 (drop 0 b)) ≡ header_of b
unfolding header_of
header-front b i = record {
  ident = take-take 16 64 b (omega arith) i;
  e_type = (number_at-part 2 16 16 0 64 b (omega arith) (omega arith)) i;
  e_machine = (number_at-part 2 18 18 0 64 b (omega arith) (omega arith)) i;
  e_version = (number_at-part 4 20 20 0 64 b (omega arith) (omega arith)) i;
  e_entry = (number_at-part 8 24 24 0 64 b (omega arith) (omega arith)) i;
  e_phoff = (number_at-part 8 32 32 0 64 b (omega arith) (omega arith)) i;
  e_shoff = (number_at-part 8 40 40 0 64 b (omega arith) (omega arith)) i;
  e_flags = (number_at-part 4 48 48 0 64 b (omega arith) (omega arith)) i;
  e_ehsize = (number_at-part 2 52 52 0 64 b (omega arith) (omega arith)) i;
  e_phentsize = (number_at-part 2 54 54 0 64 b (omega arith) (omega arith)) i;
  e_phnum = (number_at-part 2 56 56 0 64 b (omega arith) (omega arith)) i;
  e_shentsize = (number_at-part 2 58 58 0 64 b (omega arith) (omega arith)) i;
  e_shnum = (number_at-part 2 60 60 0 64 b (omega arith) (omega arith)) i;
  e_shstrndx = (number_at-part 2 62 62 0 64 b (omega arith) (omega arith)) i;
}

-- the header, read alone
pub header-read : (b part : List ℕ) → part ≡ take 64 (drop 0 b) → header_of part ≡ header_of b
header-read b part e = ap header_of e ∙ header-front b
