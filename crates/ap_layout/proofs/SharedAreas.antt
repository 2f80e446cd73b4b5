-- The areas that a load shares.
use Rattle.std.proofs.Common.{◌≡◌, inl, inr, ℕ, ◌/◌, ◌+◌, ◌%◌, ◌<◌, ◌≤◌, Bool, true, false, cond, List, [], ◌∷◌, get_or, drop, suc, zero, Option, Some, None, refl, sym, ap, ◌∙◌, subst, arith}
use Rattle.std.specs.Prelude.{All, IfSome}
use Rattle.std.proofs.lemmas.Bool.{cases_Bool, cond-true, cond-false}
use Rattle.std.proofs.lemmas.Bool.Decides.{nat_tests}
use Rattle.std.proofs.lemmas.List.Elements.{All-head, All-tail, All-cons, All-nil}
use Rattle.ap_check.specs.declared.load.Load.{Load}
use Rattle.ap_layout.specs.declared.layout.Area.{Area}
use Rattle.ap_layout.specs.Areas.{area_of, end_of, after, areas_of, end_from, Among}
use Rattle.ap_layout.specs.Twins.{is_shared, shared_area, sharing}
use Rattle.ap_layout.specs.Positions.{no_sharing}
use Rattle.ap_layout.proofs.NewAreas.{end-least}

-- an area that is shared
pub record IsShared (g long : ℕ) (areas : List Area) (a : Area) : Type 0 where
  pub among : Among a areas
  pub some : 0 < a.len
  pub len : a.len ≡ long
  pub granule : a.file % g ≡ 0

pub shared-is : (g len mask : ℕ) (areas : List Area) (a : Area) → shared_area g len mask areas ≡ Some a → IsShared g len areas a
shared-is g len mask [] a h = cc
shared-is g len mask (b ∷ areas) a h =
    elim (cases_Bool (is_shared g len mask b)) [
      | inl on ↦
          (let same : Some b ≡ Some a = sym (cond-true (is_shared g len mask b) (Some b) (shared_area g len (mask / 2) areas) on) ∙ h in
          let is : b ≡ a = cc in
          let some : 0 < b.len = grind (arith, nat_tests) in
          let long : b.len ≡ len = grind (arith, nat_tests) in
          let even : b.file % g ≡ 0 = grind (arith, nat_tests) in
          subst (λ (x : Area). IsShared g len (b ∷ areas) x) is (record { among = inl refl; some = some; len = long; granule = even }))
      | inr off ↦
          (let rest = shared-is g len (mask / 2) areas a (sym (cond-false (is_shared g len mask b) (Some b) (shared_area g len (mask / 2) areas) off) ∙ h) in
          record { among = inr rest.among; some = rest.some; len = rest.len; granule = rest.granule })
    ]

-- what holds of all areas holds of the one that is shared
shared-case : (P : Area → Type 0) (b : Bool) (a : Area) (o : Option Area) → P a → IfSome o P → IfSome (cond b (Some a) o) P
shared-case P true a o h rest = h
shared-case P false a o h rest = rest

pub shared-all : (P : Area → Type 0) (g len mask : ℕ) (areas : List Area) → All P areas → IfSome (shared_area g len mask areas) P
shared-all P g len mask [] all = tt
shared-all P g len mask (a ∷ areas) all = shared-case P (is_shared g len mask a) a (shared_area g len (mask / 2) areas) (All-head P a areas all) (shared-all P g len (mask / 2) areas (All-tail P a areas all))

ends-later : (n m : ℕ) (o : Option Area) → n ≤ m → IfSome o (λ a. end_of a ≤ n) → IfSome o (λ a. end_of a ≤ m)
ends-later n m None up h = tt
ends-later n m (Some a) up h = omega arith

-- an area that is shared ends in front of the cursor
pub shared-ends : (n c g len mask : ℕ) (areas : List Area) → All (λ a. end_of a ≤ n) areas → n ≤ c → IfSome (shared_area g len mask areas) (λ a. end_of a ≤ c)
shared-ends n c g len mask areas all up = ends-later n c (shared_area g len mask areas) up (shared-all (λ a. end_of a ≤ n) g len mask areas all)

-- areas end in front of the cursor behind them
pub ends-within : (c : ℕ) (areas : List Area) → All (λ a. end_of a ≤ end_from c areas) areas
ends-within c [] = All-nil (λ a. end_of a ≤ c)
ends-within c (a ∷ areas) =
    let least = end-least (after c a) areas in
    All-cons (λ x. end_of x ≤ end_from (after c a) areas) a areas (omega arith) (ends-within (after c a) areas)

pub ends-as : (areas is : List Area) (c end : ℕ) → areas ≡ is → end ≡ end_from c is → All (λ a. end_of a ≤ end) areas
ends-as areas is c end h k = subst (λ xs. All (λ a. end_of a ≤ end) xs) (sym h) (subst (λ n. All (λ a. end_of a ≤ n) is) (sym k) (ends-within c is))

-- where there are no areas to share, none is shared
pub none-shared : (masks : List ℕ) (i g : ℕ) (all loads : List Load) (c : ℕ) → areas_of (sharing masks [] g all) i g loads c ≡ areas_of no_sharing i g loads c
none-shared masks i g all [] c = refl
none-shared masks i g all (p ∷ loads) c = ap (λ (x : List Area). area_of None g p c ∷ x) (none-shared masks (i + 1) g all loads (after c (area_of None g p c)))

-- among them, one by one
pub among-ends : (c : ℕ) (areas : List Area) (a : Area) → Among a areas → end_of a ≤ end_from c areas
among-ends c [] a h = absurd h
among-ends c (b ∷ areas) a (inl is) = let least = end-least (after c b) areas in rw is (omega arith)
among-ends c (b ∷ areas) a (inr more) = among-ends (after c b) areas a more

-- what is left of some loads
drop-one : (all rest : List Load) (i : ℕ) (p d : Load) → drop i all ≡ p ∷ rest → (get_or all i d ≡ p) × (drop (suc i) all ≡ rest)
drop-one [] rest zero p d h = cc
drop-one [] rest (suc i) p d h = cc
drop-one (q ∷ all) rest zero p d h = let same : q ≡ p = cc in let left : all ≡ rest = cc in (same, left)
drop-one (q ∷ all) rest (suc i) p d h = drop-one all rest i p d h

pub drop_next : (all rest : List Load) (i : ℕ) (p d : Load) → drop i all ≡ p ∷ rest → (get_or all i d ≡ p) × (drop (i + 1) all ≡ rest)
drop_next all rest i p d h =
    let one : suc i ≡ i + 1 = omega arith in
    let h' = drop-one all rest i p d h in
    (h'.0, sym (ap (λ n. drop n all) one) ∙ h'.1)
