-- No whole front of a text that has no script is longer than its place.
use Rattle.std.proofs.Common.{◌≡◌, ◌∙◌, ◌≤◌, ℕ, zero, suc, List, [], ◌∷◌, ◌++◌, ◌⊎◌, inl, inr, refl, sym, ap, Bool, true, false, if◌then◌else◌, ◌&&◌, not, length, arith, min}
use Rattle.std.specs.Prelude.{Option, Some, None, Err, is_some}
use Rattle.ap_shparse.specs.Bytes.{Text}
use Rattle.ap_shparse.specs.Reads.{Outcome, if_eaten}
use Rattle.ap_shparse.specs.Places.{Place, newlines, waits}
use Rattle.ap_shparse.specs.Commands.{is_nil}
use Rattle.ap_shparse.specs.Scripts.{by_turn, left_at, script_from, turn}
use Rattle.ap_shparse.specs.Fronts.{at_stop, front_from, is_cut, on_item, whole_item, with_item}
use Rattle.ap_shparse.specs.declared.script.Turn.{Turn}
use Rattle.ap_shparse.specs.declared.script.Turn.TheVariants as turned
use Rattle.ap_shparse.specs.declared.tree.Chain.{Chain}
use Rattle.ap_shparse.proofs.Keeps.{inner}
use Rattle.ap_shparse.proofs.KeptPlaces.{PKeeps, Some_}
use Rattle.ap_shparse.proofs.ItemLemmas.{some_bodies}
use Rattle.ap_shparse.proofs.FrontLemmas.{Items, all_lines, err_of, less_left, no_err, stop_err, stop_on, stopped}
use Rattle.ap_shparse.proofs.GrownLemmas.{grown, grown_item, tail_short}
use Rattle.ap_shparse.proofs.GapLemmas.{total_lines}

-- ---- what a front's reading says

-- the place isn't cut, and what the reading comes to
pub record Opened (item : Items) (n : ℕ) (ts : List Turn) (p : Place) (us : List Turn) : Type 0 where
  pub uncut : Some_ p.bodies
  pub start : Place
  pub is_start : newlines p ≡ Some start
  pub is_rest : stopped item n ts (Some start) ≡ Some us

abbrev or_cut : Bool → Option (List Turn) → Option (List Turn)
or_cut v o = if v then None else o

pub opened : (item : Items) (n : ℕ) (ts : List Turn) (p : Place) (us : List Turn) → front_from item n ts p ≡ Some us → Opened item n ts p us
unfolding front_from
opened item zero ts p us e = by_cut (is_cut p) refl e
  where
    by_lines : Some_ p.bodies → (o : Option Place) → newlines p ≡ o → if_eaten o (at_stop ts) None ≡ Some us → Opened item zero ts p us
    by_lines u None is e = cc
    by_lines u (Some q) is e = record { uncut = u; start = q; is_start = is; is_rest = e }

    by_cut : (v : Bool) → is_cut p ≡ v → or_cut v (if_eaten (newlines p) (at_stop ts) None) ≡ Some us → Opened item zero ts p us
    by_cut true c e = cc
    by_cut false c e = by_lines (some_bodies p.bodies c) (newlines p) refl e
opened item (suc n) ts p us e = by_cut (is_cut p) refl e
  where
    by_lines : Some_ p.bodies → (o : Option Place) → newlines p ≡ o → if_eaten o (on_item item (front_from item n) ts) None ≡ Some us → Opened item (suc n) ts p us
    by_lines u None is e = cc
    by_lines u (Some q) is e = record { uncut = u; start = q; is_start = is; is_rest = e }

    by_cut : (v : Bool) → is_cut p ≡ v → or_cut v (if_eaten (newlines p) (on_item item (front_from item n) ts) None) ≡ Some us → Opened item (suc n) ts p us
    by_cut true c e = cc
    by_cut false c e = by_lines (some_bodies p.bodies c) (newlines p) refl e

-- it comes to an end
pub record AtStop (q : Place) (ts us : List Turn) : Type 0 where
  pub no_text : q.text ≡ []
  pub no_bodies : q.bodies ≡ None
  pub same : ts ≡ us

at_stop_is : (q : Place) (ts us : List Turn) → at_stop ts q ≡ Some us → AtStop q ts us
at_stop_is q ts us e = by_parts q.text q.bodies refl refl e
  where
    by_parts : (t : Text) (bs : Option Text) → q.text ≡ t → q.bodies ≡ bs → (if is_nil t && not (is_some bs) then Some ts else None) ≡ Some us → AtStop q ts us
    by_parts [] None t b e = record { no_text = t; no_bodies = b; same = inner ts us e }
    by_parts [] (Some z) t b e = cc
    by_parts (c ∷ x) bs t b e = cc

-- or to an item, and goes on
pub record AtItem (item : Items) (n : ℕ) (ts : List Turn) (q : Place) (us : List Turn) : Type 0 where
  pub fuel : ℕ
  pub is_fuel : n ≡ suc fuel
  pub turn_is : Turn
  pub next : Place
  pub is_item : whole_item item q ≡ Some (turn_is, next)
  pub is_rest : front_from item fuel (ts ++ turn_is ∷ []) next ≡ Some us

pub stop_or_item : (item : Items) (n : ℕ) (ts : List Turn) (q : Place) (us : List Turn) → stopped item n ts (Some q) ≡ Some us → AtStop q ts us ⊎ AtItem item n ts q us
stop_or_item item zero ts q us e = inl (at_stop_is q ts us e)
stop_or_item item (suc n) ts q us e = by_nil (is_nil q.text) e
  where
    by_item : (o : Outcome Place Turn) → whole_item item q ≡ o → with_item (front_from item n) ts o ≡ Some us → AtStop q ts us ⊎ AtItem item (suc n) ts q us
    by_item None is e = cc
    by_item (Some o) is e = inr (record { fuel = n; is_fuel = refl; turn_is = o.0; next = o.1; is_item = is; is_rest = e })

    by_nil : (v : Bool) → (if v then at_stop ts q else with_item (front_from item n) ts (whole_item item q)) ≡ Some us → AtStop q ts us ⊎ AtItem item (suc n) ts q us
    by_nil true e = inl (at_stop_is q ts us e)
    by_nil false e = by_item (whole_item item q) refl e

-- ---- where a front of a text ends

left_within : (left : ℕ) (r : Place) (b : Text) → length r.text ≤ length b → r.bodies ≡ None → left_at left r ≤ length b
left_within left r b short n = by_bodies r.bodies n
  where
    by_bodies : (bs : Option Text) → bs ≡ None → (if is_some bs then left else min left (length r.text)) ≤ length b
    by_bodies None n = omega (arith, short)
    by_bodies (Some z) n = cc

at_front_end : (item : Items) (p q : Place) (b : Text) → newlines p ≡ Some q → q.text ≡ [] → q.bodies ≡ None → Some_ p.bodies → (m left : ℕ) (found : List Chain) (l : ℕ) → script_from item m left found (grown p b) ≡ Err l → is_some (newlines (grown p b)) ≡ true → l ≤ length b
unfolding script_from
at_front_end item p q b e t n some zero left found l w ok = by_lines (newlines (grown p b)) refl w ok
  where
    by_lines : (o : Option Place) → newlines (grown p b) ≡ o → if_eaten o (stop_on left found) (Err left) ≡ Err l → is_some o ≡ true → l ≤ length b
    by_lines None is w ok = cc
    by_lines (Some r) is w ok =
        let s = tail_short (length p.text) p q b (all_lines p q e) t n some (length (grown p b).text) r (all_lines (grown p b) r is) in
        omega (arith, stop_err (is_nil r.text && not (waits r)) found (left_at left r) l w, left_within left r b s.0 s.1)
at_front_end item p q b e t n some (suc m) left found l w ok = by_lines (newlines (grown p b)) refl w ok
  where
    by_turned : (r : Place) → left_at left r ≤ length b → (o : Outcome Place Turn) → by_turn (script_from item m) (left_at left r) found o ≡ Err l → l ≤ length b
    by_turned r le None w = omega (arith, err_of (left_at left r) l w, le)
    by_turned r le (Some (turned.End, s)) w = absurd (no_err found l w)
    by_turned r le (Some (turned.Last c, s)) w = absurd (no_err (found ++ c ∷ []) l w)
    by_turned r le (Some (turned.Next c, s)) w = omega (arith, less_left item m (left_at left r) (found ++ c ∷ []) s l w, le)

    by_lines : (o : Option Place) → newlines (grown p b) ≡ o → if_eaten o (λ r. by_turn (script_from item m) (left_at left r) found (turn item r)) (Err left) ≡ Err l → is_some o ≡ true → l ≤ length b
    by_lines None is w ok = cc
    by_lines (Some r) is w ok =
        let s = tail_short (length p.text) p q b (all_lines p q e) t n some (length (grown p b).text) r (all_lines (grown p b) r is) in
        by_turned r (left_within left r b s.0 s.1) (turn item r) w

pub total : (p : Place) → is_some (newlines p) ≡ true
unfolding newlines
total p = total_lines (length p.text) p (omega arith)

pub script_next : (item : Items) (m left : ℕ) (found : List Chain) (p q : Place) (t : Turn) (s : Place) → newlines p ≡ Some q → turn item q ≡ Some (t, s) → script_from item (suc m) left found p ≡ by_turn (script_from item m) (left_at left q) found (Some (t, s))
unfolding script_from
script_next item m left found p q t s e w = ap (λ o. if_eaten o (λ r. by_turn (script_from item m) (left_at left r) found (turn item r)) (Err left)) e ∙ ap (by_turn (script_from item m) (left_at left q) found) w

pub longest : (item : Items) → PKeeps item item → (n : ℕ) (ts : List Turn) (p : Place) (us : List Turn) (b : Text) → front_from item n ts p ≡ Some us
    → (m : ℕ) → n ≤ m → (left : ℕ) (found : List Chain) (l : ℕ) → script_from item m left found (grown p b) ≡ Err l → l ≤ length b
longest item k zero ts p us b e m le left found l w =
    let o = opened item zero ts p us e in
    elim (stop_or_item item zero ts o.start us o.is_rest) [
      | inl s ↦ at_front_end item p o.start b o.is_start s.no_text s.no_bodies o.uncut m left found l w (total (grown p b))
      | inr i ↦ absurd (omega (arith, i.is_fuel))
    ]
longest item k (suc n) ts p us b e zero le left found l w = absurd (omega (arith, le))
longest item k (suc n) ts p us b e (suc m) le left found l w =
    let o = opened item (suc n) ts p us e in
    by_kind o.start o.is_start o.uncut (stop_or_item item (suc n) ts o.start us o.is_rest) (λ vs s d c g x. longest item k n vs s us b d m (omega (arith, le)) c g l x)
  where
    by_next : (t : Turn) (s q : Place) (left : ℕ) → by_turn (script_from item m) left found (Some (t, grown s b)) ≡ Err l
        → ((c : ℕ) (g : List Chain) → script_from item m c g (grown s b) ≡ Err l → l ≤ length b) → l ≤ length b
    by_next turned.End s q left w rec = absurd (no_err found l w)
    by_next (turned.Last c) s q left w rec = absurd (no_err (found ++ c ∷ []) l w)
    by_next (turned.Next c) s q left w rec = rec left (found ++ c ∷ []) w

    by_kind : (q : Place) → newlines p ≡ Some q → Some_ p.bodies → AtStop q ts us ⊎ AtItem item (suc n) ts q us
        → ((vs : List Turn) (s : Place) → front_from item n vs s ≡ Some us → (c : ℕ) (g : List Chain) → script_from item m c g (grown s b) ≡ Err l → l ≤ length b) → l ≤ length b
    by_kind q is uncut (inl s) rec = at_front_end item p q b is s.no_text s.no_bodies uncut (suc m) left found l w (total (grown p b))
    by_kind q is uncut (inr i) rec =
        let f : i.fuel ≡ n = omega (arith, i.is_fuel) in
        let d = ap (λ x. front_from item x (ts ++ i.turn_is ∷ []) i.next) (sym f) ∙ i.is_rest in
        let o = opened item n (ts ++ i.turn_is ∷ []) i.next us d in
        let g = grown_item item k p q i.next i.turn_is b is i.is_item o.uncut in
        by_next i.turn_is i.next g.start (left_at left g.start) (sym (script_next item m left found (grown p b) g.start i.turn_is (grown i.next b) g.is_start g.is_turn) ∙ w) (λ c x. rec (ts ++ i.turn_is ∷ []) i.next d c x)
