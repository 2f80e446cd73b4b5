-- The areas that are new, and that they don't overlap.
use Rattle.std.proofs.Common.{◌≡◌, inl, inr, ℕ, ◌<◌, ◌≤◌, true, false, max, refl, List, [], ◌∷◌, ◌++◌, sym, ap, ◌∙◌, subst, arith}
use Rattle.std.proofs.lemmas.Bool.{cases_Bool, cond-true, cond-false}
use Rattle.std.proofs.lemmas.Bool.Decides.{nat_tests}
use Rattle.ap_layout.specs.declared.layout.Area.{Area}
use Rattle.ap_layout.specs.Areas.{end_of, after, end_from, is_new, new_areas, Among, AreApart}

-- one list of areas has all of another's
abbrev pub Within : List Area → List Area → Type 0
Within xs ys = (a : Area) → Among a xs → Among a ys

-- a new area, and the others behind it
pub new-taken : (c next : ℕ) (a : Area) (tail : List Area) → 0 < a.len → c ≤ a.file → next ≡ max c (end_of a) → new_areas c (a ∷ tail) ≡ a ∷ new_areas next tail
new-taken c next a tail some past up =
    let on : is_new c a ≡ true = grind (arith, nat_tests) in
    let same : next ≡ end_of a = omega arith in
    cond-true (is_new c a) (a ∷ new_areas (end_of a) tail) (new_areas c tail) on ∙ ap (λ (n : ℕ). a ∷ new_areas n tail) (sym same)

-- an area that stood already, or is empty
pub new-passed : (c : ℕ) (a : Area) (tail : List Area) → is_new c a ≡ false → end_of a ≤ c → new_areas c (a ∷ tail) ≡ new_areas (after c a) tail
new-passed c a tail off ends =
    let same : after c a ≡ c = omega arith in
    cond-false (is_new c a) (a ∷ new_areas (end_of a) tail) (new_areas c tail) off ∙ ap (λ (n : ℕ). new_areas n tail) (sym same)

-- new areas stand behind the cursor
pub among-after : (c : ℕ) (areas : List Area) (a : Area) → Among a (new_areas c areas) → c ≤ a.file
among-after c [] a h = absurd h
among-after c (b ∷ areas) a h =
    elim (cases_Bool (is_new c b)) [
      | inl on ↦
          (let g : Among a (b ∷ new_areas (end_of b) areas) = subst (Among a) (cond-true (is_new c b) (b ∷ new_areas (end_of b) areas) (new_areas c areas) on) h in
          let low : c ≤ b.file = grind (arith, nat_tests) in
          elim g [
            | inl e ↦ rw e low
            | inr more ↦ (let far = among-after (end_of b) areas a more in omega arith)
          ])
      | inr off ↦ among-after c areas a (subst (Among a) (cond-false (is_new c b) (b ∷ new_areas (end_of b) areas) (new_areas c areas) off) h)
    ]

-- any two of the new areas are the same or don't overlap
pub new-apart : (c : ℕ) (areas : List Area) (a b : Area) → Among a (new_areas c areas) → Among b (new_areas c areas) → AreApart a b
new-apart c [] a b h k = absurd h
new-apart c (x ∷ areas) a b h k =
    elim (cases_Bool (is_new c x)) [
      | inl on ↦
          (let e = cond-true (is_new c x) (x ∷ new_areas (end_of x) areas) (new_areas c areas) on in
          let h' : Among a (x ∷ new_areas (end_of x) areas) = subst (Among a) e h in
          let k' : Among b (x ∷ new_areas (end_of x) areas) = subst (Among b) e k in
          elim h' [
            | inl p ↦ elim k' [
              | inl q ↦ inl (p ∙ sym q)
              | inr m ↦ inr (inl (rw p (among-after (end_of x) areas b m)))
            ]
            | inr l ↦ elim k' [
              | inl q ↦ inr (inr (rw q (among-after (end_of x) areas a l)))
              | inr m ↦ new-apart (end_of x) areas a b l m
            ]
          ])
      | inr off ↦
          (let e = cond-false (is_new c x) (x ∷ new_areas (end_of x) areas) (new_areas c areas) off in
          new-apart c areas a b (subst (Among a) e h) (subst (Among b) e k))
    ]

-- where the cursor stands behind some areas
pub end-append : (c : ℕ) (xs ys : List Area) → end_from c (xs ++ ys) ≡ end_from (end_from c xs) ys
end-append c [] ys = refl
end-append c (a ∷ xs) ys = end-append (after c a) xs ys

pub end-least : (c : ℕ) (xs : List Area) → c ≤ end_from c xs
end-least c [] = omega arith
end-least c (a ∷ xs) = let h = end-least (after c a) xs in omega arith
