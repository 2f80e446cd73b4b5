-- Where masks are true, an area that is shared holds the content of the load that shares it.
use Rattle.std.proofs.Common.{◌≡◌, inl, inr, ℕ, zero, suc, ◌+◌, ◌*◌, ◌/◌, ◌%◌, ◌<◌, Bool, true, false, List, [], ◌∷◌, drop, get_or, map, refl, sym, ap, ◌∙◌, subst, arith, Option, Some}
use Rattle.std.specs.Str.{bytes_eq}
use Rattle.std.proofs.lemmas.Bool.{cases_Bool, cond-true, cond-false}
use Rattle.std.proofs.lemmas.Bool.Decides.{nat_tests}
use Rattle.std.proofs.lemmas.Slice.Eq.{bytes_eq-Decides}
use Rattle.ap_fields.specs.Bytes.{Holds}
use Rattle.ap_fields.specs.Readings.{bytes_in}
use Rattle.ap_elf.specs.Machines.{granule_of}
use Rattle.ap_check.specs.declared.load.Load.{Load}
use Rattle.ap_check.specs.Inputs.{Taken}
use Rattle.ap_layout.specs.declared.layout.Area.{Area}
use Rattle.ap_layout.specs.Areas.{content_length, content_of}
use Rattle.ap_layout.specs.Positions.{areas_one}
use Rattle.ap_layout.specs.Twins.{is_shared, shared_area, sharing, no_load, are_twins, bit_if, mask_of}
use Rattle.ap_layout.proofs.SharedAreas.{drop_next}
use Rattle.ap_link.specs.LinkedIn.{IsHeld, HoldAll}
use Rattle.ap_link.proofs.PlacedTexts.{AllShared}

-- a mask, bit by bit
bit-lowest : (b : Bool) (n : ℕ) → (bit_if b + 2 * n) % 2 ≡ bit_if b
bit-lowest true n = omega arith
bit-lowest false n = omega arith

bits-left : (b : Bool) (n : ℕ) → (bit_if b + 2 * n) / 2 ≡ n
bits-left true n = omega arith
bits-left false n = omega arith

bit-set : (b : Bool) → bit_if b ≡ 1 → b ≡ true
bit-set true h = refl
bit-set false h = absurd (omega arith)

-- twins have the same content
pub twins-some : (g : ℕ) (byte : ℕ → ℕ) (p : Load) (h : ℕ) (other : ℕ → ℕ) (q : Load) → are_twins g byte p h other q ≡ true → 0 < p.filesz
twins-some g byte p h other q is = grind (arith, nat_tests)

twins-same : (g : ℕ) (byte : ℕ → ℕ) (p : Load) (h : ℕ) (other : ℕ → ℕ) (q : Load) → are_twins g byte p h other q ≡ true → bytes_eq (content_of g byte p) (content_of h other q) ≡ true
twins-same g byte p h other q is = grind (arith, nat_tests)

shared-holds : (g : ℕ) (byte : ℕ → ℕ) (file : List ℕ) (h len : ℕ) (other : ℕ → ℕ) (q : Load) (loads : List Load) (areas : List Area) (a : Area) → HoldAll g byte file loads areas
    → shared_area h len (mask_of g byte loads h other q) areas ≡ Some a → Holds file a.file (content_of h other q)
shared-holds g byte file h len other q [] [] a held is = cc
shared-holds g byte file h len other q [] (x ∷ areas) a held is = absurd held
shared-holds g byte file h len other q (p ∷ loads) [] a held is = cc
shared-holds g byte file h len other q (p ∷ loads) (x ∷ areas) a held is =
    let twins : Bool = are_twins g byte p h other q in
    let rest : ℕ = mask_of g byte loads h other q in
    let mask : ℕ = bit_if twins + 2 * rest in
    let later : Option Area = shared_area h len (mask / 2) areas in
    elim (cases_Bool (is_shared h len mask x)) [
      | inl on ↦
          (let odd : mask % 2 ≡ 1 = grind (arith, nat_tests) in
          let set : twins ≡ true = bit-set twins (sym (bit-lowest twins rest) ∙ odd) in
          let some : 0 < p.filesz = twins-some g byte p h other q set in
          let here : IsHeld g byte file p x = held.0 in
          let same : Some x ≡ Some a = sym (cond-true (is_shared h len mask x) (Some x) later on) ∙ is in
          let it : x ≡ a = cc in
          let content : content_of g byte p ≡ content_of h other q = bytes-same (content_of g byte p) (content_of h other q) (twins-same g byte p h other q set) in
          subst (λ (y : Area). Holds file y.file (content_of h other q)) it (subst (Holds file x.file) content (here.holds some)))
      | inr off ↦
          (let left : shared_area h len rest areas ≡ Some a = ap (λ n. shared_area h len n areas) (sym (bits-left twins rest)) ∙ sym (cond-false (is_shared h len mask x) (Some x) later off) ∙ is in
          shared-holds g byte file h len other q loads areas a held.1 left)
    ]
  where
    bytes-same : (xs ys : List ℕ) → bytes_eq xs ys ≡ true → xs ≡ ys
    bytes-same xs ys h = (bytes_eq-Decides xs ys).0 h

-- a load's mask, by its number
mask-here : (f : Load → ℕ) (all rest : List Load) (i : ℕ) (p : Load) → drop i all ≡ p ∷ rest → get_or (map f all) i 0 ≡ f p
mask-here f [] rest zero p h = cc
mask-here f [] rest (suc i) p h = cc
mask-here f (q ∷ all) rest zero p h = let same : q ≡ p = cc in ap f same
mask-here f (q ∷ all) rest (suc i) p h = mask-here f all rest i p h

-- each load that shares an area finds its content there
pub true-shared : (e : Taken) (a : List ℕ) (f : Taken) (b file : List ℕ) (all loads : List Load) (i : ℕ) → HoldAll (granule_of e.machine) (bytes_in a) file e.loads (areas_one e) → drop i all ≡ loads
    → AllShared (sharing (map (λ q. mask_of (granule_of e.machine) (bytes_in a) e.loads (granule_of f.machine) (bytes_in b) q) all) (areas_one e) (granule_of f.machine) all) i (granule_of f.machine) (bytes_in b) file loads
true-shared e a f b file all [] i held left = tt
true-shared e a f b file all (p ∷ loads) i held left =
    let g : ℕ = granule_of f.machine in
    let mask : Load → ℕ = λ q. mask_of (granule_of e.machine) (bytes_in a) e.loads g (bytes_in b) q in
    let next = drop_next all loads i p no_load left in
    let here : get_or (map mask all) i 0 ≡ mask p = mask-here mask all loads i p left in (
      λ x is some.
          shared-holds (granule_of e.machine) (bytes_in a) file g (content_length g (get_or all i no_load)) (bytes_in b) p e.loads (areas_one e) x held
          (ap (λ n. shared_area g (content_length g (get_or all i no_load)) n (areas_one e)) (sym here) ∙ is),
      true-shared e a f b file all loads (i + 1) held next.1,
    )
