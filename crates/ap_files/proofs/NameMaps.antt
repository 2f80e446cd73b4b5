-- Look-ups in maps from names, by whether two names are one.
use Rattle.std.proofs.Common.{◌≡◌, ℕ, Bool, true, false, cond, List, refl, sym, ap, ◌∙◌, Option, Some, None}
use Rattle.std.specs.FinMap as map
use Rattle.std.specs.FinMap.{get-insert, get-remove, same_map, slice_cmp-IsAntisymmetric, nat_cmp-IsAntisymmetric}
use Rattle.std.specs.Cmp.Lexicographic.{texts_ties}
use Rattle.std.specs.Str.{bytes_eq}
use Rattle.std.proofs.lemmas.Cmp.{nat_list_cmp_total}
use Rattle.std.proofs.lemmas.Slice.Eq.{bytes_eq-Decides}
use Rattle.ap_files.specs.Slots.{NameMap, put}

-- two names are one or not
pub data SameName (x y : List ℕ) : Type 0 where
  one : x ≡ y → bytes_eq x y ≡ true → SameName x y
  two : (x ≡ y → ⊥) → bytes_eq x y ≡ false → SameName x y

same_name_by : (x y : List ℕ) (b : Bool) → bytes_eq x y ≡ b → SameName x y
same_name_by x y true e = one ((bytes_eq-Decides x y).0 e) e
same_name_by x y false e = two (λ same. let t = (bytes_eq-Decides x y).1 same in cc) e

pub same_name : (x y : List ℕ) → SameName x y
same_name x y = same_name_by x y (bytes_eq x y) refl

-- a look-up once a name has another value, or none
pub get-put : {V : Type 0} (m : NameMap V) (k : List ℕ) (v : Option V) (q : List ℕ) → map.get (put m k v) q ≡ cond (bytes_eq q k) v (map.get m q)
get-put m k None q = get-remove nat_list_cmp_total m k q ∙ ap (λ b. cond b None (map.get m q)) (sym (texts_ties q k))
get-put m k (Some v) q = get-insert nat_list_cmp_total m k v q ∙ ap (λ b. cond b (Some v) (map.get m q)) (sym (texts_ties q k))

-- two maps that answer alike are one
pub same_answers : {V : Type 0} (m n : NameMap V) → ((q : List ℕ) → map.get m q ≡ map.get n q) → m ≡ n
same_answers m n h = same_map nat_list_cmp_total (slice_cmp-IsAntisymmetric nat_cmp-IsAntisymmetric) m n h

-- a name that has its value already
pub put-same : {V : Type 0} (m : NameMap V) (k : List ℕ) (v : Option V) → map.get m k ≡ v → put m k v ≡ m
put-same m k v h = same_answers (put m k v) m (λ q. get-put m k v q ∙ kept m k v q h (same_name q k))
  where
    kept : {V : Type 0} (m : NameMap V) (k : List ℕ) (v : Option V) (q : List ℕ) → map.get m k ≡ v → SameName q k → cond (bytes_eq q k) v (map.get m q) ≡ map.get m q
    kept m k v q h (one e t) = ap (λ b. cond b v (map.get m q)) t ∙ sym h ∙ ap (map.get m) (sym e)
    kept m k v q h (two n f) = ap (λ b. cond b v (map.get m q)) f

-- of two changes of one name the later counts
pub put-put : {V : Type 0} (m : NameMap V) (k : List ℕ) (v w : Option V) → put (put m k v) k w ≡ put m k w
put-put m k v w =
    same_answers (put (put m k v) k w) (put m k w)
    (λ q. get-put (put m k v) k w q ∙ ap (cond (bytes_eq q k) w) (get-put m k v q) ∙ over (bytes_eq q k) w v (map.get m q) ∙ sym (get-put m k w q))
  where
    over : {X : Type 0} (b : Bool) (x y z : X) → cond b x (cond b y z) ≡ cond b x z
    over true x y z = refl
    over false x y z = refl

-- a look-up of the name that has another value
pub get_changed : {V : Type 0} (m : NameMap V) (k : List ℕ) (v : Option V) → map.get (put m k v) k ≡ v
get_changed m k v =
    elim (same_name k k) [
      | one _ t ↦ get-put m k v k ∙ ap (λ b. cond b v (map.get m k)) t
      | two n _ ↦ absurd (n refl)
    ]
