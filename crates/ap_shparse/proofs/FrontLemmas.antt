-- A text that has no script has a whole front as long as its place.
use Rattle.std.proofs.Common.{◌≡◌, ◌∙◌, ◌≤◌, ◌<◌, ℕ, zero, suc, List, [], ◌∷◌, ◌++◌, ◌⊎◌, inl, inr, refl, sym, ap, Bool, true, false, if◌then◌else◌, ◌&&◌, not, length, arith, length-append, min}
use Rattle.std.specs.Prelude.{Option, Some, None, Result, Ok, Err, is_some, option_map}
use Rattle.std.proofs.Math.Nat.{eq-or-lt_of_le}
use Rattle.ap_shparse.specs.Bytes.{Text}
use Rattle.ap_shparse.specs.Reads.{Outcome, and_then, if_eaten}
use Rattle.ap_shparse.specs.Places.{Place, newlines, newlines_from, past_gap, waits}
use Rattle.ap_shparse.specs.Commands.{is_nil}
use Rattle.ap_shparse.specs.Scripts.{Answer, by_turn, left_at, script, script_from, turn, turn_of}
use Rattle.ap_shparse.specs.Fronts.{at_stop, front_from, is_cut, on_item, whole_item, with_item}
use Rattle.ap_shparse.specs.declared.item.Item.{Item}
use Rattle.ap_shparse.specs.declared.script.Turn.{Turn}
use Rattle.ap_shparse.specs.declared.script.Turn.TheVariants as turned
use Rattle.ap_shparse.specs.declared.tree.Chain.{Chain}
use Rattle.ap_shparse.proofs.Keeps.{left_of}
use Rattle.ap_shparse.proofs.KeptPieces.{longer}
use Rattle.ap_shparse.proofs.KeptHere.{NotNil}
use Rattle.ap_shparse.proofs.KeptPlaces.{PKeeps, Some_, place}
use Rattle.ap_shparse.proofs.KeptLines.{at_newline, fits, kept_all_lines}
use Rattle.ap_shparse.proofs.ItemLemmas.{as_whole, kept_item, not_cut, not_nil_has, read_next}
use Rattle.ap_shparse.proofs.GapLemmas.{lines_alone, nothing}

abbrev pub Items : Type 0
Items = Place → Outcome Place Item

-- ---- what is left only gets less

pub err_of : {A : Type 0} (a b : ℕ) → ◌≡◌ {A = Result A ℕ} (Err a) (Err b) → a ≡ b
err_of a b e = cc

pub no_err : {A : Type 0} (a : A) (b : ℕ) → ◌≡◌ {A = Result A ℕ} (Ok a) (Err b) → ⊥
no_err a b e = cc

pub left_less : (left : ℕ) (q : Place) → left_at left q ≤ left
left_less left q = by_waits (waits q)
  where
    by_waits : (v : Bool) → (if v then left else min left (length q.text)) ≤ left
    by_waits true = omega arith
    by_waits false = omega arith

-- the last check of a reading
abbrev pub stop_on : ℕ → List Chain → Place → Answer
stop_on left found q = if is_nil q.text && not (waits q) then Ok found else Err (left_at left q)

pub stop_err : (v : Bool) (found : List Chain) (a l : ℕ) → ◌≡◌ {A = Result (List Chain) ℕ} (if v then Ok found else Err a) (Err l) → a ≡ l
stop_err true found a l e = absurd (no_err found l e)
stop_err false found a l e = err_of a l e

pub less_left : (item : Items) (m left : ℕ) (found : List Chain) (p : Place) (l : ℕ) → script_from item m left found p ≡ Err l → l ≤ left
unfolding script_from
less_left item zero left found p l e = by_lines (newlines p) e
  where
    by_lines : (o : Option Place) → if_eaten o (stop_on left found) (Err left) ≡ Err l → l ≤ left
    by_lines None e = let q = err_of left l e in omega (arith, q)
    by_lines (Some q) e = let w = stop_err (is_nil q.text && not (waits q)) found (left_at left q) l e in omega (arith, w, left_less left q)
less_left item (suc m) left found p l e = by_lines (newlines p) e (λ k f s w. less_left item m k f s l w)
  where
    by_turned : (k : ℕ) → k ≤ left → (o : Outcome Place Turn) → by_turn (script_from item m) k found o ≡ Err l → ((k : ℕ) (f : List Chain) (s : Place) → script_from item m k f s ≡ Err l → l ≤ k) → l ≤ left
    by_turned k le None e rec = let q = err_of k l e in omega (arith, q, le)
    by_turned k le (Some (turned.End, s)) e rec = absurd (no_err found l e)
    by_turned k le (Some (turned.Last c, s)) e rec = absurd (no_err (found ++ c ∷ []) l e)
    by_turned k le (Some (turned.Next c, s)) e rec = omega (arith, rec k (found ++ c ∷ []) s e, le)

    by_lines : (o : Option Place) → if_eaten o (λ q. by_turn (script_from item m) (left_at left q) found (turn item q)) (Err left) ≡ Err l → ((k : ℕ) (f : List Chain) (s : Place) → script_from item m k f s ≡ Err l → l ≤ k) → l ≤ left
    by_lines None e rec = let q = err_of left l e in omega (arith, q)
    by_lines (Some q) e rec = by_turned (left_at left q) (left_less left q) (turn item q) e rec

-- and it is never nothing
left_some : (left : ℕ) (q : Place) → 1 ≤ left → is_nil q.text && not (waits q) ≡ false → 1 ≤ left_at left q
left_some left q le e = by_waits (waits q) q.text e
  where
    by_waits : (v : Bool) (t : Text) → is_nil t && not v ≡ false → 1 ≤ (if v then left else min left (length t))
    by_waits true t e = le
    by_waits false [] e = cc
    by_waits false (c ∷ t) e = omega (arith, le)

turn_nil : (item : Items) (q : Place) (t : Turn) (s : Place) → turn item q ≡ Some (t, s) → is_nil q.text && not (waits q) ≡ true → t ≡ turned.End
unfolding turn
turn_nil item q t s e n = by_nil (is_nil q.text) (waits q) e n
  where
    by_nil : (v w : Bool) → (if v then (if w then None else Some (turned.End, q)) else and_then (item q) (λ c z. Rattle.ap_shparse.specs.Scripts.at_end c (past_gap z))) ≡ Some (t, s) → v && not w ≡ true → t ≡ turned.End
    by_nil true true e n = cc
    by_nil true false e n = sym (left_of turned.End t q s e)
    by_nil false w e n = cc

nil_reads : (item : Items) (q : Place) → turn item q ≡ None → is_nil q.text && not (waits q) ≡ true → ⊥
unfolding turn
nil_reads item q e n = by_nil (is_nil q.text) (waits q) e n
  where
    by_nil : (v w : Bool) → (if v then (if w then None else Some (turned.End, q)) else and_then (item q) (λ c z. Rattle.ap_shparse.specs.Scripts.at_end c (past_gap z))) ≡ None → v && not w ≡ true → ⊥
    by_nil true true e n = cc
    by_nil true false e n = cc
    by_nil false w e n = cc

end_no_next : (c : Chain) → turned.Next c ≡ turned.End → ⊥
end_no_next c e = cc

pub some_left : (item : Items) (m left : ℕ) (found : List Chain) (p : Place) (l : ℕ) → script_from item m left found p ≡ Err l → 1 ≤ left → 1 ≤ l
unfolding script_from
some_left item zero left found p l e le = by_lines (newlines p) e
  where
    by_stop : (q : Place) (v : Bool) → is_nil q.text && not (waits q) ≡ v → ◌≡◌ {A = Result (List Chain) ℕ} (if v then Ok found else Err (left_at left q)) (Err l) → 1 ≤ l
    by_stop q true n e = absurd (no_err found l e)
    by_stop q false n e = let w = err_of (left_at left q) l e in omega (arith, w, left_some left q le n)

    by_lines : (o : Option Place) → if_eaten o (stop_on left found) (Err left) ≡ Err l → 1 ≤ l
    by_lines None e = let q = err_of left l e in omega (arith, q, le)
    by_lines (Some q) e = by_stop q (is_nil q.text && not (waits q)) refl e
some_left item (suc m) left found p l e le = by_lines (newlines p) e (λ k f s w g. some_left item m k f s l w g)
  where
    by_turned : (q : Place) (o : Outcome Place Turn) → turn item q ≡ o → (v : Bool) → is_nil q.text && not (waits q) ≡ v → by_turn (script_from item m) (left_at left q) found o ≡ Err l
        → ((k : ℕ) (f : List Chain) (s : Place) → script_from item m k f s ≡ Err l → 1 ≤ k → 1 ≤ l) → 1 ≤ l
    by_turned q None is true n e rec = absurd (nil_reads item q is n)
    by_turned q None is false n e rec = let w = err_of (left_at left q) l e in omega (arith, w, left_some left q le n)
    by_turned q (Some (turned.End, s)) is v n e rec = absurd (no_err found l e)
    by_turned q (Some (turned.Last c, s)) is v n e rec = absurd (no_err (found ++ c ∷ []) l e)
    by_turned q (Some (turned.Next c, s)) is true n e rec = absurd (end_no_next c (turn_nil item q (turned.Next c) s is n))
    by_turned q (Some (turned.Next c, s)) is false n e rec = rec (left_at left q) (found ++ c ∷ []) s e (left_some left q le n)

    by_lines : (o : Option Place) → if_eaten o (λ q. by_turn (script_from item m) (left_at left q) found (turn item q)) (Err left) ≡ Err l → ((k : ℕ) (f : List Chain) (s : Place) → script_from item m k f s ≡ Err l → 1 ≤ k → 1 ≤ l) → 1 ≤ l
    by_lines None e rec = let q = err_of left l e in omega (arith, q, le)
    by_lines (Some q) e rec = by_turned q (turn item q) refl (is_nil q.text && not (waits q)) refl e rec

-- ---- the front of which b is left

pub record IsFront (item : Items) (p : Place) (b : Text) : Type 0 where
  pub front : Text
  pub bodies : Option Text
  pub tail : Text
  pub is_text : p.text ≡ front ++ b
  pub is_bodies : p.bodies ≡ option_map (λ z. z ++ tail) bodies
  pub as_long : length tail ≡ length b
  pub some : Some_ bodies
  pub reads : (n : ℕ) → length front ≤ n → (ts : List Turn) → is_some (front_from item n ts (place front bodies [])) ≡ true

pub all_lines : (p q : Place) → newlines p ≡ Some q → newlines_from (length p.text) p ≡ Some q
unfolding newlines
all_lines p q e = e

pub lines_all : (p q : Place) → newlines_from (length p.text) p ≡ Some q → newlines p ≡ Some q
unfolding newlines
lines_all p q e = e

abbrev pub stopped : Items → ℕ → List Turn → Option Place → Option (List Turn)
stopped item zero ts o = if_eaten o (at_stop ts) None
stopped item (suc n) ts o = if_eaten o (on_item item (front_from item n) ts) None

pub front_step : (item : Items) (n : ℕ) (ts : List Turn) (p : Place) (o : Option Place) → is_cut p ≡ false → newlines p ≡ o → front_from item n ts p ≡ stopped item n ts o
unfolding front_from
front_step item zero ts p o c e = ap (λ v. if v then None else if_eaten (newlines p) (at_stop ts) None) c ∙ ap (λ y. if_eaten y (at_stop ts) None) e
front_step item (suc n) ts p o c e = ap (λ v. if v then None else if_eaten (newlines p) (on_item item (front_from item n) ts) None) c ∙ ap (λ y. if_eaten y (on_item item (front_from item n) ts) None) e

front_at_lines : (item : Items) (p q : Place) → newlines p ≡ Some q → q.bodies ≡ None → NotNil q.text → IsFront item p q.text
front_at_lines item p q e n s =
    let m = lines_alone (length p.text) p q (all_lines p q e) n s in
    record {
      front = m.front;
      bodies = m.bodies;
      tail = m.tail;
      is_text = m.is_text;
      is_bodies = m.is_bodies;
      as_long = m.as_long;
      some = m.some;
      reads = elim [
        | zero ↦ λ le ts. ap is_some (front_step item zero ts (place m.front m.bodies []) (Some nothing) (not_cut m.bodies [] m.some) (lines_all (place m.front m.bodies []) nothing (m.same (length (m.front ++ [])) (longer m.front []))))
        | suc j ↦ λ le ts. ap is_some (front_step item (suc j) ts (place m.front m.bodies []) (Some nothing) (not_cut m.bodies [] m.some) (lines_all (place m.front m.bodies []) nothing (m.same (length (m.front ++ [])) (longer m.front []))))
      ];
    }

-- one item more in front
front_before : (item : Items) → PKeeps item item → (p q s : Place) (c : Chain) (b : Text) → newlines p ≡ Some q → turn item q ≡ Some (turned.Next c, s) → NotNil b → IsFront item s b → IsFront item p b
front_before item k p q s c b e t g m =
    let w = read_next item q c s t in
    let r = w.is_read in
    let u = kept_item item k q r.behind s r.item_of m.front m.bodies b m.tail r.is_item r.is_end (record { is_text = m.is_text; is_bodies = m.is_bodies; as_long = m.as_long; some = m.some })
    (λ n. let a = at_newline (past_gap r.behind) s n in fits r.behind.bodies a.rest s.text b (ap (λ y. y.text) a.is_next) (inr (some_length b g, omega (arith, ap length m.is_text, length-append m.front b)))) in
    let v = kept_all_lines p q u.front u.bodies b u.tail e u.left in
    let step = λ (j : ℕ) (ts : List Turn). front_step item (suc j) ts (place v.front v.bodies []) (Some (place u.front u.bodies [])) (not_cut v.bodies [] v.left.some) (v.same []) in
    record {
      front = v.front;
      bodies = v.bodies;
      tail = v.tail;
      is_text = v.left.is_text;
      is_bodies = v.left.is_bodies;
      as_long = v.left.as_long;
      some = v.left.some;
      reads = elim [
        | zero ↦ λ le ts. absurd (omega (arith, le, v.eats, u.eats))
        | suc j ↦ λ le ts. ap is_some (step j ts
            ∙ ap (λ x. if x then at_stop ts (place u.front u.bodies []) else with_item (front_from item j) ts (whole_item item (place u.front u.bodies []))) (not_nil_has u.front [] u.left.has_stop)
            ∙ ap (with_item (front_from item j) ts) (as_whole item q r.behind r.item_of m.front m.bodies b u []))
            ∙ m.reads j (omega (arith, le, v.eats, u.eats)) (ts ++ turn_of r.item_of (waits r.behind) ∷ [])
      ];
    }
  where
    some_length : (b : Text) → NotNil b → 1 ≤ length b
    some_length [] s = absurd s
    some_length (c ∷ t) s = omega arith

pub record FrontLeft (item : Items) (p : Place) (l : ℕ) : Type 0 where
  pub rest : Text
  pub is_long : length rest ≡ l
  pub is_front : IsFront item p rest

not_nil_long : (t : Text) (l : ℕ) → length t ≡ l → 1 ≤ l → NotNil t
not_nil_long [] l e le = absurd (omega (arith, e, le))
not_nil_long (c ∷ t) l e le = tt

-- a place that is left earlier than the start is one where an item begins
at_mark : (item : Items) (left l : ℕ) (p q : Place) → newlines p ≡ Some q → left_at left q ≡ l → l < left → 1 ≤ l → FrontLeft item p l
at_mark item left l p q e is less some = by_bodies q.bodies refl is
  where
    by_bodies : (bs : Option Text) → q.bodies ≡ bs → (if is_some bs then left else min left (length q.text)) ≡ l → FrontLeft item p l
    by_bodies (Some z) n is = absurd (omega (arith, is, less))
    by_bodies None n is =
        let long : length q.text ≡ l = omega (arith, is, less) in
        record { rest = q.text; is_long = long; is_front = front_at_lines item p q e n (not_nil_long q.text l long some) }

pub front_left : (item : Items) → PKeeps item item → (m left : ℕ) (found : List Chain) (p : Place) (l : ℕ) → script_from item m left found p ≡ Err l → l < left → 1 ≤ l → FrontLeft item p l
unfolding script_from
front_left item k zero left found p l e less some = by_lines (newlines p) refl e
  where
    by_lines : (o : Option Place) → newlines p ≡ o → if_eaten o (stop_on left found) (Err left) ≡ Err l → FrontLeft item p l
    by_lines None is e = let q = err_of left l e in absurd (omega (arith, q, less))
    by_lines (Some q) is e = at_mark item left l p q is (stop_err (is_nil q.text && not (waits q)) found (left_at left q) l e) less some
front_left item k (suc m) left found p l e less some = by_lines (newlines p) refl e (λ j f s w g. front_left item k m j f s l w g some)
  where
    by_next : (q s : Place) (c : Chain) → newlines p ≡ Some q → turn item q ≡ Some (turned.Next c, s) → script_from item m (left_at left q) (found ++ c ∷ []) s ≡ Err l
        → ((j : ℕ) (f : List Chain) (s : Place) → script_from item m j f s ≡ Err l → l < j → FrontLeft item s l) → (l ≡ left_at left q) ⊎ (l < left_at left q) → FrontLeft item p l
    by_next q s c is t e rec (inl same) = at_mark item left l p q is (sym same) less some
    by_next q s c is t e rec (inr lt) =
        let w = rec (left_at left q) (found ++ c ∷ []) s e lt in
        record { rest = w.rest; is_long = w.is_long; is_front = front_before item k p q s c w.rest is t (not_nil_long w.rest l w.is_long some) w.is_front }

    by_turned : (q : Place) → newlines p ≡ Some q → (o : Outcome Place Turn) → turn item q ≡ o → by_turn (script_from item m) (left_at left q) found o ≡ Err l
        → ((j : ℕ) (f : List Chain) (s : Place) → script_from item m j f s ≡ Err l → l < j → FrontLeft item s l) → FrontLeft item p l
    by_turned q is None t e rec = at_mark item left l p q is (err_of (left_at left q) l e) less some
    by_turned q is (Some (turned.End, s)) t e rec = absurd (no_err found l e)
    by_turned q is (Some (turned.Last c, s)) t e rec = absurd (no_err (found ++ c ∷ []) l e)
    by_turned q is (Some (turned.Next c, s)) t e rec = by_next q s c is t e rec (eq-or-lt_of_le (less_left item m (left_at left q) (found ++ c ∷ []) s l e))

    by_lines : (o : Option Place) → newlines p ≡ o → if_eaten o (λ q. by_turn (script_from item m) (left_at left q) found (turn item q)) (Err left) ≡ Err l
        → ((j : ℕ) (f : List Chain) (s : Place) → script_from item m j f s ≡ Err l → l < j → FrontLeft item s l) → FrontLeft item p l
    by_lines None is e rec = let q = err_of left l e in absurd (omega (arith, q, less))
    by_lines (Some q) is e rec = by_turned q is (turn item q) refl e rec
