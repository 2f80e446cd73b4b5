-- What stands in a load's content.
use Rattle.std.proofs.Common.{◌≡◌, inl, inr, ℕ, ◌+◌, ◌-◌, ◌%◌, ◌<◌, ◌≤◌, cond, nat_le, nat_lt, ◌&&◌, List, ◌++◌, length, get_or, sym, ap, ◌∙◌, arith, length-append}
use Rattle.std.proofs.lemmas.Bool.{cases_Bool}
use Rattle.std.proofs.lemmas.Bool.Decides.{nat_tests}
use Rattle.std.proofs.lemmas.List.{get_or-append_right, get_or_append_left}
use Rattle.ap_fields.specs.Bytes.{zeros, listed}
use Rattle.ap_fields.specs.Granules.{IsGranule, floor_of, ceil_of}
use Rattle.ap_fields.proofs.Bytes.{length-listed, get_or-listed, length-zeros, get_or-zeros}
use Rattle.ap_check.specs.declared.load.Load.{Load}
use Rattle.ap_layout.specs.Areas.{content_of, content_length}
use Rattle.ap_link.proofs.Granules.{ceil-apart}
use Rattle.ap_fields.proofs.Granules.{ceil_of-least}

-- bytes between zeros, by the place
between : (d n z k : ℕ) (bytes : List ℕ) (f : ℕ → ℕ) → length bytes ≡ n → ((i : ℕ) → i < n → get_or bytes i 0 ≡ f i)
    → get_or (zeros d ++ (bytes ++ zeros z)) k 0 ≡ cond (nat_le d k && nat_lt k (d + n)) (f (k - d)) 0
between d n z k bytes f long is =
    elim (cases_Bool (nat_le d k)) [
      | inr before ↦
          (let low : k < d = grind (arith, nat_tests) in
          rw before (get_or_append_left (zeros d) (bytes ++ zeros z) 0 k (let l = length-zeros d in omega arith) ∙ get_or-zeros d k))
      | inl past ↦
          (let high : d ≤ k = grind (arith, nat_tests) in
          let skip : get_or (zeros d ++ (bytes ++ zeros z)) k 0 ≡ get_or (bytes ++ zeros z) (k - d) 0 = get_or-append_right (zeros d) (bytes ++ zeros z) d k 0 (length-zeros d) high in
          elim (cases_Bool (nat_lt k (d + n))) [
            | inl inside ↦
                (let lt : k - d < n = grind (arith, nat_tests) in
                rw (past, inside) (skip ∙ get_or_append_left bytes (zeros z) 0 (k - d) (omega arith) ∙ is (k - d) lt))
            | inr behind ↦
                (let ge : n ≤ k - d = grind (arith, nat_tests) in
                rw (past, behind) (skip ∙ get_or-append_right bytes (zeros z) n (k - d) 0 long ge ∙ get_or-zeros z (k - d - n)))
          ])
    ]

pub content-at : (g : ℕ) (byte : ℕ → ℕ) (p : Load) (k : ℕ)
    → get_or (content_of g byte p) k 0 ≡ cond (nat_le (p.vaddr % g) k && nat_lt k (p.vaddr % g + p.filesz)) (byte (p.offset + (k - p.vaddr % g))) 0
unfolding content_of
content-at g byte p k =
    between (p.vaddr % g) p.filesz (content_length g p - (p.vaddr % g + p.filesz)) k (listed byte p.offset p.filesz) (λ i. byte (p.offset + i))
    (length-listed byte p.offset p.filesz) (λ i h. get_or-listed byte p.offset p.filesz i h)

-- it has room for the load's bytes
pub content-room : (g : ℕ) (p : Load) → IsGranule g → p.vaddr % g + p.filesz ≤ content_length g p
unfolding content_length
content-room g p is = ceil_of-least (p.vaddr % g + p.filesz) g is

pub length-content : (g : ℕ) (byte : ℕ → ℕ) (p : Load) → IsGranule g → length (content_of g byte p) ≡ content_length g p
unfolding content_of
length-content g byte p is =
    let d = p.vaddr % g in
    let z : List ℕ = zeros (content_length g p - (d + p.filesz)) in
    let l1 = length-append (zeros d) (listed byte p.offset p.filesz ++ z) in
    let l2 = length-append (listed byte p.offset p.filesz) z in
    let l3 = length-zeros d in
    let l4 = length-zeros (content_length g p - (d + p.filesz)) in
    let l5 = length-listed byte p.offset p.filesz in
    let l6 = content-room g p is in
    omega arith

-- where the whole load has bytes in the file, the content reaches the end of the load's granules
pub content-whole : (g : ℕ) (p : Load) → IsGranule g → p.filesz ≡ p.memsz → ceil_of (p.vaddr + p.memsz) g ≡ floor_of p.vaddr g + content_length g p
unfolding content_length
content-whole g p is e = ap (λ n. ceil_of (p.vaddr + n) g) (sym e) ∙ ceil-apart p.vaddr p.filesz g is
