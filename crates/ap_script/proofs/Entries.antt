-- The program headers of loads, load by load.
use Rattle.std.proofs.Common.{◌≡◌, ℕ, zero, suc, ◌+◌, ◌-◌, ◌<◌, false, cond, List, [], ◌∷◌, ◌++◌, length, take, drop, get_or, refl, ap, ◌∙◌, arith}
use Rattle.ap_fields.specs.Granules.{floor_of}
use Rattle.ap_check.specs.declared.load.Load.{Load}
use Rattle.ap_layout.specs.declared.layout.Area.{Area}
use Rattle.ap_script.specs.Tables.{load_entry, load_entries, is_backed, place_of}

-- what stands past a list's end
abbrev pub no_load : Load
no_load = record { offset = 0; vaddr = 0; filesz = 0; memsz = 0; perms = record { 0 = 0 } }

entries-more : (g : ℕ) (loads : List Load) (areas : List Area) (i : ℕ) (p : Load) (x : Area) → i < length loads → i < length areas
    → load_entries g (take (suc i) loads) (take (suc i) areas) ≡ load_entries g (take i loads) (take i areas) ++ load_entry g (get_or loads i p) (get_or areas i x) ∷ []
entries-more g [] areas i p x h k = absurd (omega arith)
entries-more g (q ∷ loads) [] i p x h k = absurd (omega arith)
entries-more g (q ∷ loads) (y ∷ areas) zero p x h k = refl
entries-more g (q ∷ loads) (y ∷ areas) (suc i) p x h k = ap (λ r. load_entry g q y ∷ r) (entries-more g loads areas i p x (omega arith) (omega arith))

pub load_entries-more : (g : ℕ) (loads : List Load) (areas : List Area) (i : ℕ) (p : Load) (x : Area) → i < length loads → i < length areas
    → load_entries g (take (i + 1) loads) (take (i + 1) areas) ≡ load_entries g (take i loads) (take i areas) ++ load_entry g (get_or loads i p) (get_or areas i x) ∷ []
load_entries-more g loads areas i p x h k =
    let next : i + 1 ≡ suc i = omega arith in
    ap (λ n. load_entries g (take n loads) (take n areas)) next ∙ entries-more g loads areas i p x h k

-- the place in the first of the loads that are left, or in one of the others
pub place_of-drop : (g : ℕ) (loads : List Load) (areas : List Area) (a i : ℕ) (p : Load) (x : Area) → i < length loads → i < length areas
    → place_of g (drop i loads) (drop i areas) a
    ≡ cond (is_backed (get_or loads i p) a) ((get_or areas i x).file + (a - floor_of (get_or loads i p).vaddr g)) (place_of g (drop (suc i) loads) (drop (suc i) areas) a)
place_of-drop g [] areas a i p x h k = absurd (omega arith)
place_of-drop g (q ∷ loads) [] a i p x h k = absurd (omega arith)
place_of-drop g (q ∷ loads) (y ∷ areas) a zero p x h k = refl
place_of-drop g (q ∷ loads) (y ∷ areas) a (suc i) p x h k = place_of-drop g loads areas a i p x (omega arith) (omega arith)

pub place_of-next : (g : ℕ) (loads : List Load) (areas : List Area) (a i : ℕ) (p : Load) (x : Area) → i < length loads → i < length areas → is_backed (get_or loads i p) a ≡ false
    → place_of g (drop i loads) (drop i areas) a ≡ place_of g (drop (i + 1) loads) (drop (i + 1) areas) a
place_of-next g loads areas a i p x h k is =
    let next : suc i ≡ i + 1 = omega arith in
    place_of-drop g loads areas a i p x h k
    ∙ ap (λ b. cond b ((get_or areas i x).file + (a - floor_of (get_or loads i p).vaddr g)) (place_of g (drop (suc i) loads) (drop (suc i) areas) a)) is
    ∙ ap (λ n. place_of g (drop n loads) (drop n areas) a) next
