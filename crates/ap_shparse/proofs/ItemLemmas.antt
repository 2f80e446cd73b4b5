-- An item with its end, before any other text.
use Rattle.std.proofs.Common.{◌≡◌, ◌∙◌, ◌≤◌, ◌+◌, [], ◌∷◌, ◌++◌, refl, sym, ap, Bool, true, false, if◌then◌else◌, length, arith, append-nil}
use Rattle.std.specs.Prelude.{Option, Some, None, is_some, option_map}
use Rattle.ap_shparse.specs.Bytes.{Text}
use Rattle.ap_shparse.specs.Reads.{Outcome, and_then, eaten, pure}
use Rattle.ap_shparse.specs.Places.{Place, at_text, past_gap, past_newline, waits}
use Rattle.ap_shparse.specs.Commands.{is_nil}
use Rattle.ap_shparse.specs.Lists.{ended, past_end}
use Rattle.ap_shparse.specs.Scripts.{at_end, turn, turn_of}
use Rattle.ap_shparse.specs.Fronts.{cut_at, is_cut, whole_item}
use Rattle.ap_shparse.specs.declared.item.Item.{Item}
use Rattle.ap_shparse.specs.declared.script.Turn.{Turn}
use Rattle.ap_shparse.specs.declared.tree.Chain.{Chain}
use Rattle.ap_shparse.specs.declared.script.Turn.TheVariants as turned
use Rattle.ap_shparse.proofs.Keeps.{Has, both_of, left_of, right_of}
use Rattle.ap_shparse.proofs.KeptRuns.{kept_gap}
use Rattle.ap_shparse.proofs.KeptPlaces.{Left, PKeeps, Some_, place}
use Rattle.ap_shparse.proofs.KeptLines.{Fits}
use Rattle.ap_shparse.proofs.KeptItems.{Ends, kept_end}

pub not_cut : (fs : Option Text) (c : Text) → Some_ fs → cut_at (option_map (λ z. z ++ c) fs) ≡ false
not_cut None c s = refl
not_cut (Some []) c s = absurd s
not_cut (Some (x ∷ z)) c s = refl

pub some_bodies : (fs : Option Text) → cut_at fs ≡ false → Some_ fs
some_bodies None e = tt
some_bodies (Some []) e = cc
some_bodies (Some (x ∷ z)) e = tt

pub fits_nothing : (fs : Option Text) → Some_ fs → Fits fs []
fits_nothing None s = tt
fits_nothing (Some []) s = absurd s
fits_nothing (Some (x ∷ z)) s = omega arith

pub waits_same : (fs : Option Text) (c : Text) → is_some (option_map (λ z. z ++ c) fs) ≡ is_some fs
waits_same None c = refl
waits_same (Some z) c = refl

pub map_nil : (fs : Option Text) → fs ≡ option_map (λ z. z ++ []) fs
map_nil None = refl
map_nil (Some z) = ap (λ y. Some y) (sym (append-nil z))

pub not_nil_has : (t c : Text) → Has t → is_nil (t ++ c) ≡ false
not_nil_has [] c h = absurd h
not_nil_has (x ∷ t) c h = refl

-- the item i of which q tells the place, y is behind it, and s behind its end
pub record KeptItem (item : Place → Outcome Place Item) (q y : Place) (i : Item) (r : Text) (fs : Option Text) (b : Text) : Type 0 where
  pub front : Text
  pub bodies : Option Text
  pub tail : Text
  pub left : Left q front bodies b tail
  pub eats : 1 + length r ≤ length front
  pub mid : Text
  pub mid_bodies : Option Text
  pub mid_tail : Text
  pub is_mid : y.bodies ≡ option_map (λ z. z ++ mid_tail) mid_bodies
  pub mid_some : Some_ mid_bodies
  pub gap_front : Text
  pub has_gap : Has gap_front
  pub is_gap : (past_gap y).text ≡ gap_front ++ b
  pub same_item : (c : Text) → item (place front bodies c) ≡ Some (i, place mid mid_bodies c)
  pub same_gap : (c : Text) → past_gap (place mid mid_bodies c) ≡ place gap_front mid_bodies c
  pub same_end : (c : Text) → past_end (place gap_front mid_bodies c) ≡ Some (place r fs c)

pub kept_item : (item : Place → Outcome Place Item) → PKeeps item item → (q y s : Place) (i : Item) (r : Text) (fs : Option Text) (b tail : Text) → item q ≡ Some (i, y) → past_end (past_gap y) ≡ Some s → Ends s r fs b tail
    → (past_newline (past_gap y) ≡ Some s → Fits y.bodies b) → KeptItem item q y i r fs b
kept_item item k q y s i r fs b tail e n l f =
    let m = kept_end (past_gap y) s r fs b tail n l f in
    let g = kept_gap y.text m.front b m.left.is_text m.left.has_stop in
    let d : Left y g.front m.bodies b m.tail = record { is_text = g.spelling; is_bodies = m.left.is_bodies; as_long = m.left.as_long; has_stop = g.has_stop; some = m.left.some } in
    let u = k q i y g.front m.bodies b m.tail e d in
    record {
      front = u.front;
      bodies = u.bodies;
      tail = u.tail;
      left = u.left;
      eats = omega (arith, u.eats, g.eats, m.eats);
      mid = g.front;
      mid_bodies = m.bodies;
      mid_tail = m.tail;
      is_mid = m.left.is_bodies;
      mid_some = m.left.some;
      gap_front = m.front;
      has_gap = m.left.has_stop;
      is_gap = m.left.is_text;
      same_item = u.same;
      same_gap = λ c. ap (λ z. at_text (place g.front m.bodies c) z) (g.same c);
      same_end = m.same;
    }

abbrev pub closing : Item → Place → Outcome Place Turn
closing i y = if is_cut y then None else and_then (ended (past_gap y)) (λ _. pure (turn_of i (waits y)))

waits_mid : (y : Place) (fs : Option Text) (tail c : Text) → y.bodies ≡ option_map (λ z. z ++ tail) fs → is_some (option_map (λ z. z ++ c) fs) ≡ waits y
waits_mid y fs tail c e = waits_same fs c ∙ sym (waits_same fs tail) ∙ ap is_some (sym e)

-- as an item of a front
pub as_whole : (item : Place → Outcome Place Item) (q y : Place) (i : Item) (r : Text) (fs : Option Text) (b : Text) (m : KeptItem item q y i r fs b) (c : Text)
    → whole_item item (place m.front m.bodies c) ≡ Some (turn_of i (waits y), place r fs c)
unfolding whole_item
as_whole item q y i r fs b m c =
    ap (λ o. and_then o closing) (m.same_item c)
    ∙ ap (λ v. if v then None else and_then (ended (past_gap (place m.mid m.mid_bodies c))) (λ _. pure (turn_of i (waits (place m.mid m.mid_bodies c))))) (not_cut m.mid_bodies c m.mid_some)
    ∙ ap (λ z. and_then (ended z) (λ _. pure (turn_of i (waits (place m.mid m.mid_bodies c))))) (m.same_gap c)
    ∙ ap (λ o. and_then (eaten o) (λ _. pure (turn_of i (waits (place m.mid m.mid_bodies c))))) (m.same_end c)
    ∙ ap (λ w. Some (turn_of i w, place r fs c)) (waits_mid y m.mid_bodies m.mid_tail c m.is_mid)

-- as an item of a text
pub as_turn : (item : Place → Outcome Place Item) (q y : Place) (i : Item) (r : Text) (fs : Option Text) (b : Text) (m : KeptItem item q y i r fs b) (c : Text)
    → turn item (place m.front m.bodies c) ≡ Some (turn_of i (waits y), place r fs c)
unfolding turn
as_turn item q y i r fs b m c =
    ap (λ v. if v then (if waits (place m.front m.bodies c) then None else Some (turned.End, place m.front m.bodies c)) else and_then (item (place m.front m.bodies c)) (λ j z. at_end j (past_gap z))) (not_nil_has m.front c m.left.has_stop)
    ∙ ap (λ o. and_then o (λ j z. at_end j (past_gap z))) (m.same_item c)
    ∙ ap (at_end i) (m.same_gap c)
    ∙ ap (λ v. if v then (if waits (place m.gap_front m.mid_bodies c) then None else Some (turned.Last i.chain, place m.gap_front m.mid_bodies c)) else and_then (ended (place m.gap_front m.mid_bodies c)) (λ _ z. Some (turn_of i (waits (place m.gap_front m.mid_bodies c)), z))) (not_nil_has m.gap_front c m.has_gap)
    ∙ ap (λ o. and_then (eaten o) (λ _ z. Some (turn_of i (waits (place m.gap_front m.mid_bodies c)), z))) (m.same_end c)
    ∙ ap (λ w. Some (turn_of i w, place r fs c)) (waits_mid y m.mid_bodies m.mid_tail c m.is_mid)

-- ---- what a reading says of the item

pub record ReadItem (item : Place → Outcome Place Item) (q : Place) (t : Turn) (s : Place) : Type 0 where
  pub item_of : Item
  pub behind : Place
  pub is_item : item q ≡ Some (item_of, behind)
  pub is_end : past_end (past_gap behind) ≡ Some s
  pub is_turn : t ≡ turn_of item_of (waits behind)

pub some_end : {A : Type 0} (o : Option Place) (s : Place) (t v : A) → and_then (eaten o) (λ _ z. Some (v, z)) ≡ Some (t, s) → o ≡ Some s
some_end None s t v e = cc
some_end (Some z) s t v e = ap (λ y. Some y) (right_of v t z s e)

pub some_turn : {A : Type 0} (o : Option Place) (s : Place) (t v : A) → and_then (eaten o) (λ _ z. Some (v, z)) ≡ Some (t, s) → t ≡ v
some_turn None s t v e = cc
some_turn (Some z) s t v e = sym (left_of v t z s e)

pub record ReadWhole (item : Place → Outcome Place Item) (q : Place) (t : Turn) (s : Place) : Type 0 where
  pub is_read : ReadItem item q t s
  pub uncut : Some_ is_read.behind.bodies

pub read_whole : (item : Place → Outcome Place Item) (q : Place) (t : Turn) (s : Place) → whole_item item q ≡ Some (t, s) → ReadWhole item q t s
unfolding whole_item
read_whole item q t s e =
    let w = both_of (item q) closing (t, s) e in
    by_cut w.first w.left w.is_first (is_cut w.left) refl w.is_second
  where
    by_cut : (i : Item) (y : Place) → item q ≡ Some (i, y) → (v : Bool) → is_cut y ≡ v → (if v then None else and_then (ended (past_gap y)) (λ _. pure (turn_of i (waits y)))) ≡ Some (t, s) → ReadWhole item q t s
    by_cut i y is true c e = cc
    by_cut i y is false c e = record {
      is_read = record { item_of = i; behind = y; is_item = is; is_end = some_end (past_end (past_gap y)) s t (turn_of i (waits y)) e; is_turn = some_turn (past_end (past_gap y)) s t (turn_of i (waits y)) e };
      uncut = some_bodies y.bodies c;
    }

pub record ReadNext (item : Place → Outcome Place Item) (q : Place) (t : Turn) (s : Place) : Type 0 where
  pub is_read : ReadItem item q t s
  pub not_nil : is_nil q.text ≡ false

abbrev pub nil_turn : Place → Outcome Place Turn
nil_turn q = if waits q then None else Some (turned.End, q)

abbrev pub nil_end : Item → Place → Outcome Place Turn
nil_end i p = if waits p then None else Some (turned.Last i.chain, p)

abbrev pub or_turn : Bool → Turn → Place → Outcome Place Turn
or_turn v t p = if v then None else Some (t, p)

last_not_next : (v : Bool) (i : Item) (p s : Place) (c : Chain) → or_turn v (turned.Last i.chain) p ≡ Some (turned.Next c, s) → ⊥
last_not_next true i p s c e = cc
last_not_next false i p s c e = let n = left_of (turned.Last i.chain) (turned.Next c) p s e in cc

end_not_next : (v : Bool) (p s : Place) (c : Chain) → or_turn v turned.End p ≡ Some (turned.Next c, s) → ⊥
end_not_next true p s c e = cc
end_not_next false p s c e = let n = left_of turned.End (turned.Next c) p s e in cc

pub read_next : (item : Place → Outcome Place Item) (q : Place) (c : Chain) (s : Place) → turn item q ≡ Some (turned.Next c, s) → ReadNext item q (turned.Next c) s
unfolding turn
read_next item q c s e = by_nil (is_nil q.text) refl e
  where
    by_end : (i : Item) (y : Place) → item q ≡ Some (i, y) → is_nil q.text ≡ false → (v : Bool) → is_nil (past_gap y).text ≡ v
        → (if v then nil_end i (past_gap y) else and_then (ended (past_gap y)) (λ _ z. Some (turn_of i (waits (past_gap y)), z))) ≡ Some (turned.Next c, s) → ReadNext item q (turned.Next c) s
    by_end i y is n true g e = absurd (last_not_next (waits (past_gap y)) i (past_gap y) s c e)
    by_end i y is n false g e = record {
      is_read = record { item_of = i; behind = y; is_item = is; is_end = some_end (past_end (past_gap y)) s (turned.Next c) (turn_of i (waits y)) e; is_turn = some_turn (past_end (past_gap y)) s (turned.Next c) (turn_of i (waits y)) e };
      not_nil = n;
    }

    by_nil : (v : Bool) → is_nil q.text ≡ v → (if v then nil_turn q else and_then (item q) (λ j z. at_end j (past_gap z))) ≡ Some (turned.Next c, s) → ReadNext item q (turned.Next c) s
    by_nil true n e = absurd (end_not_next (waits q) q s c e)
    by_nil false n e =
        let w = both_of (item q) (λ j z. at_end j (past_gap z)) (turned.Next c, s) e in
        by_end w.first w.left w.is_first n (is_nil (past_gap w.left).text) refl w.is_second
