-- The text of areas, one area after the other.
use Rattle.std.proofs.Common.{◌≡◌, inl, inr, subst, ℕ, ◌+◌, ◌-◌, ◌%◌, ◌<◌, ◌≤◌, true, false, List, ◌∷◌, ◌++◌, length, take, drop, get_or, replicate, sym, ap, ◌∙◌, arith, append_assoc, zero, suc}
use Rattle.std.proofs.lemmas.Bool.{cond-true, cond-false}
use Rattle.std.proofs.lemmas.Bool.Decides.{nat_tests}
use Rattle.std.proofs.lemmas.List.{take-replicate, drop_more}
use Rattle.ap_fields.specs.Readings.{bytes_in}
use Rattle.ap_link.specs.Sources.{part_of}
use Rattle.ap_fields.specs.Bytes.{zeros}
use Rattle.ap_fields.specs.Granules.{IsGranule, ceil_of}
use Rattle.ap_check.specs.declared.load.Load.{Load}
use Rattle.ap_layout.specs.declared.layout.Area.{Area}
use Rattle.ap_layout.specs.Areas.{content_length, content_of, no_area, end_of, is_new}
use Rattle.ap_link.specs.Linked.{areas_text}

pub text-new : (c g : ℕ) (byte : ℕ → ℕ) (p : Load) (loads : List Load) (a : Area) (areas : List Area) → is_new c a ≡ true
    → areas_text c g byte (p ∷ loads) (a ∷ areas) ≡ (zeros (a.file - c) ++ content_of g byte p) ++ areas_text (end_of a) g byte loads areas
text-new c g byte p loads a areas on =
    cond-true (is_new c a) (zeros (a.file - c) ++ (content_of g byte p ++ areas_text (end_of a) g byte loads areas)) (areas_text c g byte loads areas) on
    ∙ sym (append_assoc (zeros (a.file - c)) (content_of g byte p) (areas_text (end_of a) g byte loads areas))

pub text-old : (c g : ℕ) (byte : ℕ → ℕ) (p : Load) (loads : List Load) (a : Area) (areas : List Area) → is_new c a ≡ false
    → areas_text c g byte (p ∷ loads) (a ∷ areas) ≡ areas_text c g byte loads areas
text-old c g byte p loads a areas off =
    cond-false (is_new c a) (zeros (a.file - c) ++ (content_of g byte p ++ areas_text (end_of a) g byte loads areas)) (areas_text c g byte loads areas) off

zeros-add : (m n : ℕ) → zeros (m + n) ≡ zeros m ++ zeros n
unfolding zeros
zeros-add zero n = let e : zero + n ≡ n = omega arith in ap (λ k. replicate k 0) e
zeros-add (suc m) n = let e : suc m + n ≡ suc (m + n) = omega arith in ap (λ k. replicate k 0) e ∙ ap (λ x. 0 ∷ x) (zeros-add m n)

-- a granule or two of zeros that are at hand
pub zeros-at-hand : (n m : ℕ) → n ≤ m → take n (replicate m 0) ≡ zeros n
unfolding zeros
zeros-at-hand n m h = take-replicate n m 0 h

-- the parts of an area: zeros, the load's bytes, zeros
pub area-parts : (g gap room : ℕ) (p : Load) (b front behind : List ℕ) → gap + p.vaddr % g ≤ room → content_length g p - (p.vaddr % g + p.filesz) ≤ room
    → front ≡ take (gap + p.vaddr % g) (replicate room 0) → behind ≡ take (content_length g p - (p.vaddr % g + p.filesz)) (replicate room 0)
    → front ++ (part_of p.offset p.filesz b ++ behind) ≡ zeros gap ++ content_of g (bytes_in b) p
unfolding content_of
area-parts g gap room p b front behind fits fits2 f e =
    let skew : ℕ = p.vaddr % g in
    let part : List ℕ = part_of p.offset p.filesz b in
    let left : ℕ = content_length g p - (skew + p.filesz) in
    ap (λ x. x ++ (part ++ behind)) (f ∙ zeros-at-hand (gap + skew) room fits ∙ zeros-add gap skew)
    ∙ ap (λ x. (zeros gap ++ zeros skew) ++ (part ++ x)) (e ∙ zeros-at-hand left room fits2)
    ∙ append_assoc (zeros gap) (zeros skew) (part ++ zeros left)

-- zeros before a load's bytes, and behind them, are fewer than two granules
pub gap-room : (g gap vaddr : ℕ) → IsGranule g → gap < g → gap + vaddr % g ≤ 32768
gap-room g gap vaddr is low = let below : vaddr % g < g = grind arith in let most : g ≤ 16384 = grind arith in omega arith

pub tail-room : (g : ℕ) (p : Load) → IsGranule g → content_length g p - (p.vaddr % g + p.filesz) ≤ 32768
unfolding content_length
tail-room g p is =
    let near : ceil_of (p.vaddr % g + p.filesz) g < p.vaddr % g + p.filesz + 16384 = ceil-near (p.vaddr % g + p.filesz) g is in
    omega arith
  where
    ceil-near : (a g : ℕ) → IsGranule g → ceil_of a g < a + 16384
    ceil-near a g is = elim is [
      | inl e ↦ (let P : ℕ → Type 0 = λ p. ceil_of a p < a + 16384 in let here : ceil_of a 4096 < a + 16384 = grind (arith, nat_tests) in subst P (sym e) here)
      | inr e ↦ (let P : ℕ → Type 0 = λ p. ceil_of a p < a + 16384 in let here : ceil_of a 16384 < a + 16384 = grind (arith, nat_tests) in subst P (sym e) here)
    ]

-- as many zeros as there are behind the content's bytes
pub tail-count : (g n : ℕ) (p : Load) → n ≡ ceil_of (p.vaddr % g + p.filesz) g → n - (p.vaddr % g + p.filesz) ≡ content_length g p - (p.vaddr % g + p.filesz)
unfolding content_length
tail-count g n p e = ap (λ x. x - (p.vaddr % g + p.filesz)) e

-- ---- what is left of the lists

abbrev pub no_load : Load
no_load = record { offset = 0; vaddr = 0; filesz = 0; memsz = 0; perms = record { 0 = 0 } }

pub load-here : (loads : List Load) (i : ℕ) → i < length loads → drop i loads ≡ get_or loads i no_load ∷ drop (i + 1) loads
load-here loads i h = drop_more loads i no_load h

pub area-here : (areas : List Area) (i n : ℕ) → i < n → n ≡ length areas → drop i areas ≡ get_or areas i no_area ∷ drop (i + 1) areas
area-here areas i n h same = drop_more areas i no_area (omega arith)
