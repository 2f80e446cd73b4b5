-- What slots keep, by the places of names.
use Rattle.std.proofs.Common.{◌≡◌, ◌≢◌, ℕ, zero, suc, ◌+◌, ◌<◌, Bool, true, false, cond, List, [], ◌∷◌, ◌++◌, length, get_or, set, refl, sym, ap, ◌∙◌, subst, arith, Option, Some, None, MatchOption}
use Rattle.std.specs.FinMap as map
use Rattle.std.specs.FinMap.{get-empty}
use Rattle.std.specs.Cmp.Lexicographic.{slice_cmp}
use Rattle.std.specs.Ordering.{nat_cmp}
use Rattle.std.specs.Str.{bytes_eq}
use Rattle.std.specs.List.{position, position_from}
use Rattle.std.proofs.lemmas.Slice.Eq.{bytes_eq-Decides}
use Rattle.std.proofs.lemmas.Iterator.Adapters.{position_from-zero}
use Rattle.ap_files.specs.Slots.{FileSlot, put, map_in, name_in}
use Rattle.ap_files.specs.Places.{IsFirst, IsNowhere}
use Rattle.ap_files.proofs.NameMaps.{one, two, same_name, get-put, same_answers}

pub get-map_in : {V : Type 0} (f : FileSlot → Option V) (s : FileSlot) (slots : List FileSlot) (q : List ℕ) → map.get (map_in f (s ∷ slots)) q ≡ cond (bytes_eq q s.name) (f s) (map.get (map_in f slots) q)
unfolding map_in
get-map_in f s slots q = get-put (map_in f slots) s.name (f s) q

-- the first slot of the name answers
here : {V : Type 0} (f : FileSlot → Option V) (s : FileSlot) (slots : List FileSlot) (q : List ℕ) → s.name ≡ q → map.get (map_in f (s ∷ slots)) q ≡ f s
here f s slots q e =
    elim (same_name q s.name) [
      | one _ t ↦ get-map_in f s slots q ∙ ap (λ b. cond b (f s) (map.get (map_in f slots) q)) t
      | two n _ ↦ absurd (n (sym e))
    ]

-- a slot of another name does not
elsewhere : {V : Type 0} (f : FileSlot → Option V) (s : FileSlot) (slots : List FileSlot) (q : List ℕ) → s.name ≢ q → map.get (map_in f (s ∷ slots)) q ≡ map.get (map_in f slots) q
elsewhere f s slots q d =
    elim (same_name q s.name) [
      | one e _ ↦ absurd (d (sym e))
      | two _ t ↦ get-map_in f s slots q ∙ ap (λ b. cond b (f s) (map.get (map_in f slots) q)) t
    ]

pub get_nowhere : {V : Type 0} (f : FileSlot → Option V) (slots : List FileSlot) (q : List ℕ) → IsNowhere slots q → map.get (map_in f slots) q ≡ None
unfolding map_in
get_nowhere f [] q h = get-empty (slice_cmp nat_cmp) q
get_nowhere f (s ∷ slots) q h = elsewhere f s slots q h.0 ∙ get_nowhere f slots q h.1

pub get_first : {V : Type 0} (f : FileSlot → Option V) (slots : List FileSlot) (q : List ℕ) (i : ℕ) (d : FileSlot) → IsFirst slots q i → map.get (map_in f slots) q ≡ f (get_or slots i d)
get_first f [] q i d h = absurd h
get_first f (s ∷ slots) q zero d h = here f s slots q h
get_first f (s ∷ slots) q (suc i) d h = elsewhere f s slots q h.0 ∙ get_first f slots q i d h.1

apart : {X : Type 0} (a b : Bool) (x y z : X) → (a ≡ true → b ≡ true → ⊥) → cond a x (cond b y z) ≡ cond b y (cond a x z)
apart true true x y z h = absurd (h refl refl)
apart true false x y z h = refl
apart false b x y z h = refl

over : {X : Type 0} (b : Bool) (x y z : X) → cond b x z ≡ cond b x (cond b y z)
over true x y z = refl
over false x y z = refl

-- a look-up once the first slot of a name is another
get-set : {V : Type 0} (f : FileSlot → Option V) (slots : List FileSlot) (q : List ℕ) (i : ℕ) (s' : FileSlot) (x : List ℕ) → IsFirst slots q i → s'.name ≡ q → map.get (map_in f (set slots i s')) x ≡ cond (bytes_eq x q) (f s') (map.get (map_in f slots) x)
get-set f [] q i s' x h e = absurd h
get-set f (s ∷ slots) q zero s' x h e =
    get-map_in f s' slots x
    ∙ ap (λ n. cond (bytes_eq x n) (f s') (map.get (map_in f slots) x)) e
    ∙ over (bytes_eq x q) (f s') (f s) (map.get (map_in f slots) x)
    ∙ ap (λ n. cond (bytes_eq x q) (f s') (cond (bytes_eq x n) (f s) (map.get (map_in f slots) x))) (sym h)
    ∙ ap (cond (bytes_eq x q) (f s')) (sym (get-map_in f s slots x))
get-set f (s ∷ slots) q (suc i) s' x h e =
    get-map_in f s (set slots i s') x
    ∙ ap (cond (bytes_eq x s.name) (f s)) (get-set f slots q i s' x h.1 e)
    ∙ apart (bytes_eq x s.name) (bytes_eq x q) (f s) (f s') (map.get (map_in f slots) x)
    (λ a b. h.0 (sym ((bytes_eq-Decides x s.name).0 a) ∙ (bytes_eq-Decides x q).0 b))
    ∙ ap (cond (bytes_eq x q) (f s')) (sym (get-map_in f s slots x))

pub map_in-set : {V : Type 0} (f : FileSlot → Option V) (slots : List FileSlot) (q : List ℕ) (i : ℕ) (s' : FileSlot) → IsFirst slots q i → s'.name ≡ q → map_in f (set slots i s') ≡ put (map_in f slots) q (f s')
map_in-set f slots q i s' h e =
    same_answers (map_in f (set slots i s')) (put (map_in f slots) q (f s'))
    (λ x. get-set f slots q i s' x h e ∙ sym (get-put (map_in f slots) q (f s') x))

-- a look-up once a slot of a new name stands behind the others
get-push : {V : Type 0} (f : FileSlot → Option V) (slots : List FileSlot) (s' : FileSlot) (x : List ℕ) → IsNowhere slots s'.name → map.get (map_in f (slots ++ s' ∷ [])) x ≡ cond (bytes_eq x s'.name) (f s') (map.get (map_in f slots) x)
unfolding map_in
get-push f [] s' x h = get-map_in f s' [] x
get-push f (s ∷ slots) s' x h =
    get-map_in f s (slots ++ s' ∷ []) x
    ∙ ap (cond (bytes_eq x s.name) (f s)) (get-push f slots s' x h.1)
    ∙ apart (bytes_eq x s.name) (bytes_eq x s'.name) (f s) (f s') (map.get (map_in f slots) x)
    (λ a b. h.0 (sym ((bytes_eq-Decides x s.name).0 a) ∙ (bytes_eq-Decides x s'.name).0 b))
    ∙ ap (cond (bytes_eq x s'.name) (f s')) (sym (get-map_in f s slots x))

pub map_in-push : {V : Type 0} (f : FileSlot → Option V) (slots : List FileSlot) (s' : FileSlot) → IsNowhere slots s'.name → map_in f (slots ++ s' ∷ []) ≡ put (map_in f slots) s'.name (f s')
map_in-push f slots s' h =
    same_answers (map_in f (slots ++ s' ∷ [])) (put (map_in f slots) s'.name (f s'))
    (λ x. get-push f slots s' x h ∙ sym (get-put (map_in f slots) s'.name (f s') x))

-- the answer of a search from the front
place_after : (s : FileSlot) (slots : List FileSlot) (q : List ℕ) (k : ℕ) (r : Option ℕ) → s.name ≢ q
    → MatchOption r (IsNowhere slots q) (λ i. (j : ℕ) × (i ≡ k + 1 + j) × IsFirst slots q j)
    → MatchOption r (IsNowhere (s ∷ slots) q) (λ i. (j : ℕ) × (i ≡ k + j) × IsFirst (s ∷ slots) q j)
place_after s slots q k None n h = (n, h)
place_after s slots q k (Some i) n (j, e, f) = (suc j, omega arith, (n, f))

placed : (slots : List FileSlot) (q : List ℕ) (k : ℕ) → MatchOption (position_from (λ s. bytes_eq s.name q) k slots) (IsNowhere slots q) (λ i. (j : ℕ) × (i ≡ k + j) × IsFirst slots q j)
placed [] q k = tt
placed (s ∷ slots) q k =
    elim (same_name s.name q) [
      | one e t ↦ rw t (0, omega arith, e)
      | two n f ↦ rw f (place_after s slots q k (position_from (λ s. bytes_eq s.name q) (k + 1) slots) n (placed slots q (k + 1)))
    ]

at_zero : (slots : List FileSlot) (q : List ℕ) (r : Option ℕ) → MatchOption r (IsNowhere slots q) (λ i. (j : ℕ) × (i ≡ 0 + j) × IsFirst slots q j) → MatchOption r (IsNowhere slots q) (IsFirst slots q)
at_zero slots q None h = h
at_zero slots q (Some i) (j, e, f) = let same : j ≡ i = omega arith in subst (IsFirst slots q) same f

pub placed_first : (slots : List FileSlot) (q : List ℕ) (r : Option ℕ) → r ≡ position (λ s. bytes_eq s.name q) slots → MatchOption r (IsNowhere slots q) (IsFirst slots q)
placed_first slots q r e =
    rw (e ∙ position_from-zero (λ s. bytes_eq s.name q) slots)
    (at_zero slots q (position_from (λ s. bytes_eq s.name q) 0 slots) (placed slots q 0))

pub name_of_first : (slots : List FileSlot) (q : List ℕ) (i : ℕ) (d : FileSlot) → IsFirst slots q i → (get_or slots i d).name ≡ q
name_of_first [] q i d h = absurd h
name_of_first (s ∷ slots) q zero d h = h
name_of_first (s ∷ slots) q (suc i) d h = name_of_first slots q i d h.1

-- the name at the first place of a name
pub name_in-first : (slots : List FileSlot) (q : List ℕ) (i : ℕ) → IsFirst slots q i → name_in slots (Some i) ≡ Some q
name_in-first [] q i h = absurd h
name_in-first (s ∷ slots) q zero h = ap Some h
name_in-first (s ∷ slots) q (suc i) h = name_in-first slots q i h.1

-- a slot that keeps its name
name_at-set : (slots : List FileSlot) (i j : ℕ) (d s' : FileSlot) → s'.name ≡ (get_or slots i d).name → name_in (set slots i s') (Some j) ≡ name_in slots (Some j)
name_at-set [] i j d s' e = refl
name_at-set (s ∷ slots) zero zero d s' e = ap Some e
name_at-set (s ∷ slots) zero (suc j) d s' e = refl
name_at-set (s ∷ slots) (suc i) zero d s' e = refl
name_at-set (s ∷ slots) (suc i) (suc j) d s' e = name_at-set slots i j d s' e

pub name_in-set : (slots : List FileSlot) (i : ℕ) (place : Option ℕ) (d s' : FileSlot) → s'.name ≡ (get_or slots i d).name → name_in (set slots i s') place ≡ name_in slots place
name_in-set slots i None d s' e = refl
name_in-set slots i (Some j) d s' e = name_at-set slots i j d s' e

-- a slot behind the others
pub name_in-push : (slots : List FileSlot) (j : ℕ) (s' : FileSlot) → j < length slots → name_in (slots ++ s' ∷ []) (Some j) ≡ name_in slots (Some j)
name_in-push [] j s' h = absurd (omega arith)
name_in-push (s ∷ slots) zero s' h = refl
name_in-push (s ∷ slots) (suc j) s' h = let below : j < length slots = omega arith in name_in-push slots j s' below
