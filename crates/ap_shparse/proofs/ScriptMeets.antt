-- What is read of a whole text is what the rules say.
use Rattle.std.proofs.Common.{◌≡◌, ◌∙◌, ◌≤◌, ◌+◌, ℕ, zero, suc, List, [], ◌∷◌, ◌++◌, ◌⊎◌, inl, inr, refl, sym, ap, ap₂, subst, Bool, true, false, if◌then◌else◌, ◌&&◌, not, length, arith, append-nil, append_assoc}
use Rattle.std.specs.Prelude.{Option, Some, None, Ok, Err, is_some}
use Rattle.ap_shparse.specs.Bytes.{Text}
use Rattle.ap_shparse.specs.Reads.{Outcome, and_then, eaten, if_eaten}
use Rattle.ap_shparse.specs.Places.{Place, newlines, past_gap, waits}
use Rattle.ap_shparse.specs.Commands.{alone, is_nil}
use Rattle.ap_shparse.specs.Lists.{ended, list, past_end}
use Rattle.ap_shparse.specs.Scripts.{Answer, at_end, by_turn, left_at, script, script_from, turn, turn_of}
use Rattle.ap_shparse.specs.Grammar.{IsScript, seen}
use Rattle.ap_shparse.specs.LineRules.{AreLines, Rule}
use Rattle.ap_shparse.specs.ListRules.{IsItem, IsList}
use Rattle.ap_shparse.specs.ScriptRules.{AreOuter, IsEnd, IsOuter, IsProgram, IsProgramAt}
use Rattle.ap_shparse.specs.declared.item.Item.{Item}
use Rattle.ap_shparse.specs.declared.script.Turn.{Turn}
use Rattle.ap_shparse.specs.declared.script.Turn.TheVariants as turned
use Rattle.ap_shparse.specs.declared.tree.Chain.{Chain}
use Rattle.ap_shparse.specs.declared.tree.Nul.{Nul}
use Rattle.ap_shparse.proofs.Keeps.{both_of, left_of, right_of}
use Rattle.ap_shparse.proofs.ItemLemmas.{nil_end, nil_turn, or_turn}
use Rattle.ap_shparse.proofs.OutsideLemmas.{items}
use Rattle.ap_shparse.proofs.JoinLemmas.{no_ok, ok_of, turn_end}
use Rattle.ap_shparse.proofs.LineMeets.{Meets, lines_shorter, lines_sound, lines_whole}
use Rattle.ap_shparse.proofs.ListMeets.{end_short, end_sound, ended_at_end, ended_short, item_meets, list_meets}

abbrev pub Item64 : Rule Item
Item64 = IsItem (IsList 64)

pub items_meet : Meets 1 items Item64
items_meet = item_meets (list 64) (IsList 64) (list_meets 64)

-- ---- the end of a text

ended_at : (p : Place) → is_nil p.text && not (waits p) ≡ true → IsEnd p
ended_at p e = by_parts p.text p.bodies refl refl e
  where
    by_parts : (t : Text) (bs : Option Text) → p.text ≡ t → p.bodies ≡ bs → is_nil t && not (is_some bs) ≡ true → IsEnd p
    by_parts [] None t b e = record { no_text = t; none_waits = b }
    by_parts [] (Some z) t b e = cc
    by_parts (c ∷ x) bs t b e = cc

pub at_text_end : (p : Place) → IsEnd p → is_nil p.text && not (waits p) ≡ true
at_text_end p e = ap₂ (λ x y. is_nil x && not (is_some y)) e.no_text e.none_waits

-- ---- a turn

-- an item that ends with the text
record OpenAt (r : Place) (c : Chain) : Type 0 where
  pub item : Item
  pub behind : Place
  pub is_item : Item64 r behind item
  pub is_end : IsEnd (past_gap behind)
  pub value : c ≡ item.chain

-- what a turn says of what begins at r, behind the newlines from p on
abbrev TurnAt : Place → Place → Turn → Place → Type 0
TurnAt p r turned.End q = IsEnd r
TurnAt p r (turned.Last c) q = OpenAt r c ⊎ IsOuter p q c true
TurnAt p r (turned.Next c) q = IsOuter p q c false

abbrev some_end : Item → Place → Outcome Place Turn
some_end i p = and_then (ended p) (λ _ q. Some (turn_of i (waits p), q))

outer_of : (p r m q : Place) (i : Item) → AreLines p r → items r ≡ Some (i, m) → past_end (past_gap m) ≡ Some q
    → (v : Bool) → v ≡ (i.stops && not (waits m)) → IsOuter p q i.chain v
outer_of p r m q i l e w v is =
    record { item = i; is_ended = record { start = r; item_end = m; are_lines = l; is_item = (items_meet).sound r m i e; is_end = end_sound (past_gap m) q w }; value = refl; is_stop = is }

turn_sound : (p r q : Place) (t : Turn) → AreLines p r → turn items r ≡ Some (t, q) → TurnAt p r t q
unfolding turn
turn_sound p r q t l e = by_nil (is_nil r.text) refl e
  where
    by_waits : (i : Item) (m q : Place) → items r ≡ Some (i, m) → past_end (past_gap m) ≡ Some q → (v : Bool) → (i.stops && not (waits m)) ≡ v
        → TurnAt p r (if v then turned.Last i.chain else turned.Next i.chain) q
    by_waits i m q is w true v = inr (outer_of p r m q i l is w true (sym v))
    by_waits i m q is w false v = outer_of p r m q i l is w false (sym v)

    by_end : (i : Item) (m : Place) → items r ≡ Some (i, m) → (o : Option Place) → past_end (past_gap m) ≡ o → and_then (eaten o) (λ _ z. Some (turn_of i (waits m), z)) ≡ Some (t, q) → TurnAt p r t q
    by_end i m is None w e = cc
    by_end i m is (Some z) w e =
        subst (λ y. TurnAt p r y q) (left_of (turn_of i (waits m)) t z q e)
        (subst (λ y. TurnAt p r (turn_of i (waits m)) y) (right_of (turn_of i (waits m)) t z q e) (by_waits i m z is w (i.stops && not (waits m)) refl))

    by_open : (i : Item) (m : Place) → items r ≡ Some (i, m) → is_nil (past_gap m).text ≡ true → (v : Bool) → waits (past_gap m) ≡ v → or_turn v (turned.Last i.chain) (past_gap m) ≡ Some (t, q) → TurnAt p r t q
    by_open i m is n true w e = cc
    by_open i m is n false w e =
        subst (λ y. TurnAt p r y q) (left_of (turned.Last i.chain) t (past_gap m) q e)
        (inl (record { item = i; behind = m; is_item = (items_meet).sound r m i is; is_end = ended_at (past_gap m) (ap₂ (λ x y. x && not y) n w); value = refl }))

    by_left : (i : Item) (m : Place) → items r ≡ Some (i, m) → (v : Bool) → is_nil (past_gap m).text ≡ v → (if v then nil_end i (past_gap m) else some_end i (past_gap m)) ≡ Some (t, q) → TurnAt p r t q
    by_left i m is true n e = by_open i m is n (waits (past_gap m)) refl e
    by_left i m is false n e = by_end i m is (past_end (past_gap m)) refl e

    by_stop : is_nil r.text ≡ true → (v : Bool) → waits r ≡ v → or_turn v turned.End r ≡ Some (t, q) → TurnAt p r t q
    by_stop n true w e = cc
    by_stop n false w e = subst (λ y. TurnAt p r y q) (left_of turned.End t r q e) (ended_at r (ap₂ (λ x y. x && not y) n w))

    by_nil : (v : Bool) → is_nil r.text ≡ v → (if v then nil_turn r else and_then (items r) (λ i z. at_end i (past_gap z))) ≡ Some (t, q) → TurnAt p r t q
    by_nil true n e = by_stop n (waits r) refl e
    by_nil false n e =
        let w = both_of (items r) (λ i z. at_end i (past_gap z)) (t, q) e in
        by_left w.first w.left w.is_first (is_nil (past_gap w.left).text) refl w.is_second

-- where there is text, none of it is nothing
not_nil : (t : Text) → 1 ≤ length t → is_nil t ≡ false
not_nil [] le = absurd (omega (arith, le))
not_nil (c ∷ t) le = refl

pub item_some : (r m : Place) (i : Item) → Item64 r m i → is_nil r.text ≡ false
item_some r m i x = not_nil r.text (omega (arith, (items_meet).short r m i x))

turn_outer : (p q : Place) (c : Chain) (v : Bool) → (o : IsOuter p q c v)
    → turn items o.is_ended.start ≡ Some ((if v then turned.Last c else turned.Next c), q)
unfolding turn
turn_outer p q c v o =
    let x = o.is_ended in
    ap (λ b. if b then nil_turn x.start else and_then (items x.start) (λ i z. at_end i (past_gap z))) (item_some x.start x.item_end o.item x.is_item)
    ∙ ap (λ y. and_then y (λ i z. at_end i (past_gap z))) ((items_meet).whole x.start x.item_end o.item x.is_item)
    ∙ ap (λ b. if b then nil_end o.item (past_gap x.item_end) else some_end o.item (past_gap x.item_end)) (not_nil (past_gap x.item_end).text (omega (arith, end_short (past_gap x.item_end) q x.is_end)))
    ∙ ap (λ y. and_then (eaten y) (λ _ z. Some (turn_of o.item (waits x.item_end), z))) (ended_at_end (IsList 64) p q o.item x)
    ∙ ap₂ (λ b y. Some ((if b then turned.Last y else turned.Next y), q)) (sym o.is_stop) (sym o.value)

turn_open : (r m : Place) (i : Item) → Item64 r m i → IsEnd (past_gap m) → turn items r ≡ Some (turned.Last i.chain, past_gap m)
unfolding turn
turn_open r m i x e =
    ap (λ b. if b then nil_turn r else and_then (items r) (λ j z. at_end j (past_gap z))) (item_some r m i x)
    ∙ ap (λ y. and_then y (λ j z. at_end j (past_gap z))) ((items_meet).whole r m i x)
    ∙ ap (λ b. if b then nil_end i (past_gap m) else some_end i (past_gap m)) (ap is_nil e.no_text)
    ∙ ap (λ b. or_turn (is_some b) (turned.Last i.chain) (past_gap m)) e.none_waits

-- ---- a text

record Found (found : List Chain) (p : Place) (ds : List Chain) : Type 0 where
  pub more : List Chain
  pub is_program : IsProgramAt p more
  pub value : ds ≡ found ++ more

at_stop : (found : List Chain) (p r : Place) (ds : List Chain) → AreLines p r → IsEnd r → found ≡ ds → Found found p ds
at_stop found p r ds l e s = record { more = []; is_program = inr (inl (record { items_end = p; text_end = r; are_items = refl; are_lines = l; is_end = e })); value = sym s ∙ sym (append-nil found) }

one_before : (p m : Place) (c : Chain) (cs : List Chain) → IsOuter p m c false → IsProgramAt m cs → IsProgramAt p (c ∷ cs)
one_before p m c cs o (inl x) =
    inl (record { before = c ∷ x.before; last = x.last; last_start = x.last_start; rest = x.rest; are_before = (m, o, x.are_before); is_last = x.is_last; value = ap (λ y. c ∷ y) x.value })
one_before p m c cs o (inr (inl x)) =
    inr (inl (record { items_end = x.items_end; text_end = x.text_end; are_items = (m, o, x.are_items); are_lines = x.are_lines; is_end = x.is_end }))
one_before p m c cs o (inr (inr x)) =
    inr (inr (record {
      before = c ∷ x.before;
      last = x.last;
      before_end = x.before_end;
      last_start = x.last_start;
      last_end = x.last_end;
      are_before = (m, o, x.are_before);
      are_lines = x.are_lines;
      is_last = x.is_last;
      is_end = x.is_end;
      value = ap (λ y. c ∷ y) x.value;
    }))

from_sound : (n left : ℕ) (found : List Chain) (p : Place) (ds : List Chain) → script_from items n left found p ≡ Ok ds → Found found p ds
unfolding script_from
from_sound zero left found p ds e = by_lines (newlines p) refl e
  where
    by_stop : (r : Place) → newlines p ≡ Some r → (v : Bool) → is_nil r.text && not (waits r) ≡ v → ◌≡◌ {A = Answer} (if v then Ok found else Err (left_at left r)) (Ok ds) → Found found p ds
    by_stop r l true n e = at_stop found p r ds (lines_sound p r l) (ended_at r n) (ok_of found ds e)
    by_stop r l false n e = absurd (no_ok (left_at left r) ds e)

    by_lines : (o : Option Place) → newlines p ≡ o → if_eaten o (λ q. if is_nil q.text && not (waits q) then Ok found else Err (left_at left q)) (Err left) ≡ Ok ds → Found found p ds
    by_lines None l e = absurd (no_ok left ds e)
    by_lines (Some r) l e = by_stop r l (is_nil r.text && not (waits r)) refl e
from_sound (suc n) left found p ds e = by_lines (newlines p) refl e (λ a f y w. from_sound n a f y ds w)
  where
    by_turn_is : (r : Place) (t : Turn) (q : Place) → AreLines p r → TurnAt p r t q → by_turn (script_from items n) (left_at left r) found (Some (t, q)) ≡ Ok ds
        → ((a : ℕ) (f : List Chain) (y : Place) → script_from items n a f y ≡ Ok ds → Found f y ds) → Found found p ds
    by_turn_is r turned.End q l t e rec = at_stop found p r ds l t (ok_of found ds e)
    by_turn_is r (turned.Last c) q l (inl x) e rec =
        record {
          more = x.item.chain ∷ [];
          is_program = inr (inr (record { before = []; last = x.item; before_end = p; last_start = r; last_end = x.behind; are_before = refl; are_lines = l; is_last = x.is_item; is_end = x.is_end; value = refl }));
          value = sym (ok_of (found ++ c ∷ []) ds e) ∙ ap (λ y. found ++ y ∷ []) x.value;
        }
    by_turn_is r (turned.Last c) q l (inr x) e rec =
        record { more = c ∷ []; is_program = inl (record { before = []; last = c; last_start = p; rest = q; are_before = refl; is_last = x; value = refl }); value = sym (ok_of (found ++ c ∷ []) ds e) }
    by_turn_is r (turned.Next c) q l x e rec =
        let m = rec (left_at left r) (found ++ c ∷ []) q e in
        record { more = c ∷ m.more; is_program = one_before p q c m.more x m.is_program; value = m.value ∙ append_assoc found (c ∷ []) m.more }

    by_turned : (r : Place) → AreLines p r → (o : Outcome Place Turn) → turn items r ≡ o → by_turn (script_from items n) (left_at left r) found o ≡ Ok ds
        → ((a : ℕ) (f : List Chain) (y : Place) → script_from items n a f y ≡ Ok ds → Found f y ds) → Found found p ds
    by_turned r l None w e rec = absurd (no_ok (left_at left r) ds e)
    by_turned r l (Some o) w e rec = by_turn_is r o.0 o.1 l (turn_sound p r o.1 o.0 l w) e rec

    by_lines : (o : Option Place) → newlines p ≡ o → if_eaten o (λ q. by_turn (script_from items n) (left_at left q) found (turn items q)) (Err left) ≡ Ok ds
        → ((a : ℕ) (f : List Chain) (y : Place) → script_from items n a f y ≡ Ok ds → Found f y ds) → Found found p ds
    by_lines None l e rec = absurd (no_ok left ds e)
    by_lines (Some r) l e rec = by_turned r (lines_sound p r l) (turn items r) refl e rec

-- what a turn leads to
step : (n left : ℕ) (found : List Chain) (p r q : Place) (t : Turn) (a : Answer) → AreLines p r → turn items r ≡ Some (t, q)
    → by_turn (script_from items n) (left_at left r) found (Some (t, q)) ≡ a → script_from items (suc n) left found p ≡ a
unfolding script_from
step n left found p r q t a l e w =
    ap (λ o. if_eaten o (λ y. by_turn (script_from items n) (left_at left y) found (turn items y)) (Err left)) (lines_whole p r l) ∙ ap (by_turn (script_from items n) (left_at left r) found) e ∙ w

outer_short : (p q : Place) (c : Chain) (v : Bool) → IsOuter p q c v → 2 + length q.text ≤ length p.text
outer_short p q c v o = ended_short (list 64) (IsList 64) (list_meets 64) p q o.item o.is_ended

stop_read : (n left : ℕ) (found : List Chain) (p r : Place) → AreLines p r → IsEnd r → script_from items n left found p ≡ Ok (found ++ [])
unfolding script_from
stop_read zero left found p r l e =
    ap (λ o. if_eaten o (λ q. if is_nil q.text && not (waits q) then Ok found else Err (left_at left q)) (Err left)) (lines_whole p r l)
    ∙ ap (λ v. if v then Ok found else Err (left_at left r)) (at_text_end r e) ∙ ap (λ y. Ok y) (sym (append-nil found))
stop_read (suc n) left found p r l e = step n left found p r r turned.End (Ok (found ++ [])) l (turn_end items r (at_text_end r e)) (ap (λ y. Ok y) (sym (append-nil found)))

-- the items before an end, and then what that end comes to
before_read : (cs ds : List Chain) (p q : Place) → AreOuter p q cs
    → ((n left : ℕ) (found : List Chain) → length q.text ≤ n → script_from items n left found q ≡ Ok (found ++ ds))
    → (n left : ℕ) (found : List Chain) → length p.text ≤ n → script_from items n left found p ≡ Ok (found ++ (cs ++ ds))
before_read [] ds p q a last n left found le = subst (λ y. script_from items n left found y ≡ Ok (found ++ ds)) a (last n left found (omega (arith, le, ap (λ y. length y.text) a)))
before_read (c ∷ cs) ds p q a last zero left found le = absurd (omega (arith, le, outer_short p a.0 c false a.1))
before_read (c ∷ cs) ds p q a last (suc n) left found le =
    let o = a.1 in
    step n left found p o.is_ended.start a.0 (turned.Next c) (Ok (found ++ (c ∷ cs ++ ds))) o.is_ended.are_lines (turn_outer p a.0 c false o)
    (before_read cs ds a.0 q a.2 last n (left_at left o.is_ended.start) (found ++ c ∷ []) (omega (arith, le, outer_short p a.0 c false o))
    ∙ ap (λ y. Ok y) (append_assoc found (c ∷ []) (cs ++ ds)))

last_read : (p q : Place) (c : Chain) → IsOuter p q c true → (n left : ℕ) (found : List Chain) → length p.text ≤ n → script_from items n left found p ≡ Ok (found ++ c ∷ [])
last_read p q c o zero left found le = absurd (omega (arith, le, outer_short p q c true o))
last_read p q c o (suc n) left found le = step n left found p o.is_ended.start q (turned.Last c) (Ok (found ++ c ∷ [])) o.is_ended.are_lines (turn_outer p q c true o) refl

open_read : (p r m : Place) (i : Item) → AreLines p r → Item64 r m i → IsEnd (past_gap m) → (n left : ℕ) (found : List Chain) → length p.text ≤ n
    → script_from items n left found p ≡ Ok (found ++ i.chain ∷ [])
open_read p r m i l x e zero left found le = absurd (omega (arith, le, lines_shorter p r l, (items_meet).short r m i x))
open_read p r m i l x e (suc n) left found le = step n left found p r (past_gap m) (turned.Last i.chain) (Ok (found ++ i.chain ∷ [])) l (turn_open r m i x e) refl

whole_read : (p : Place) (cs : List Chain) → IsProgramAt p cs → script_from items (length p.text) (length p.text) [] p ≡ Ok cs
whole_read p cs (inl x) =
    before_read x.before (x.last ∷ []) p x.last_start x.are_before (last_read x.last_start x.rest x.last x.is_last) (length p.text) (length p.text) [] (omega arith)
    ∙ ap (λ y. Ok y) (sym x.value)
whole_read p cs (inr (inl x)) =
    before_read cs [] p x.items_end x.are_items (λ n left found le. stop_read n left found x.items_end x.text_end x.are_lines x.is_end) (length p.text) (length p.text) [] (omega arith)
    ∙ ap (λ y. Ok y) (append-nil cs)
whole_read p cs (inr (inr x)) =
    before_read x.before (x.last.chain ∷ []) p x.before_end x.are_before (open_read x.before_end x.last_start x.last_end x.last x.are_lines x.is_last x.is_end) (length p.text) (length p.text) [] (omega arith)
    ∙ ap (λ y. Ok y) (sym x.value)

script_sound : (t : Text) (cs : List Chain) → script t ≡ Ok cs → IsProgramAt (alone t) cs
unfolding script
script_sound t cs e =
    let f = from_sound (length t) (length t) [] (alone t) cs e in
    subst (IsProgramAt (alone t)) (sym f.value) f.is_program

script_whole : (t : Text) (cs : List Chain) → IsProgramAt (alone t) cs → script t ≡ Ok cs
unfolding script
script_whole t cs x = whole_read (alone t) cs x

pub scripts_obey : (n : Nul) (t : Text) (cs : List Chain) → IsScript n t cs → IsProgram n t cs
scripts_obey n t cs e = script_sound (seen n t) cs e

pub read_programs : (n : Nul) (t : Text) (cs : List Chain) → IsProgram n t cs → IsScript n t cs
read_programs n t cs x = script_whole (seen n t) cs x
