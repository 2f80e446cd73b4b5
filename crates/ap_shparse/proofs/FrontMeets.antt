-- The whole fronts that are read are those that the rules have.
use Rattle.std.proofs.Common.{◌≡◌, ◌∙◌, ◌≤◌, ◌+◌, ℕ, zero, suc, List, [], ◌∷◌, ◌++◌, ◌⊎◌, inl, inr, refl, sym, ap, subst, false, if◌then◌else◌, length, arith, append-nil, append_assoc}
use Rattle.std.specs.Prelude.{Option, Some, None}
use Rattle.ap_shparse.specs.Bytes.{Text, past_byte}
use Rattle.ap_shparse.specs.Reads.{and_then, eaten, if_eaten, pure}
use Rattle.ap_shparse.specs.Places.{Place, at_text, next_line, past_gap, past_newline, waits}
use Rattle.ap_shparse.specs.Commands.{alone, is_nil}
use Rattle.ap_shparse.specs.Lists.{ended, list, past_end}
use Rattle.ap_shparse.specs.Scripts.{turn_of}
use Rattle.ap_shparse.specs.Fronts.{at_stop, front, front_from, is_cut, whole_item, with_item}
use Rattle.ap_shparse.specs.Grammar.{seen}
use Rattle.ap_shparse.specs.FrontRules.{AreWhole, IsFrontAt, IsWholeFront, IsWholeItem}
use Rattle.ap_shparse.specs.LineRules.{AreLines}
use Rattle.ap_shparse.specs.ListRules.{IsList}
use Rattle.ap_shparse.specs.ScriptRules.{IsEnd}
use Rattle.ap_shparse.specs.declared.script.Turn.{Turn}
use Rattle.ap_shparse.specs.declared.tree.Nul.{Nul}
use Rattle.ap_shparse.proofs.Keeps.{inner}
use Rattle.ap_shparse.proofs.KeptPlaces.{Some_}
use Rattle.ap_shparse.proofs.ItemLemmas.{closing, read_whole}
use Rattle.ap_shparse.proofs.OutsideLemmas.{items}
use Rattle.ap_shparse.proofs.FrontLemmas.{front_step}
use Rattle.ap_shparse.proofs.LongestLemmas.{AtItem, AtStop, opened, stop_or_item}
use Rattle.ap_shparse.proofs.LineMeets.{lines_sound, lines_whole}
use Rattle.ap_shparse.proofs.ListMeets.{end_sound, ended_at_end, ended_short, list_meets}
use Rattle.ap_shparse.proofs.ScriptMeets.{at_text_end, items_meet, item_some}

-- ---- what is read

record Behind (p : Place) (ts us : List Turn) : Type 0 where
  pub more : List Turn
  pub is_front : IsFrontAt p more
  pub value : us ≡ ts ++ more

uncut_bodies : (p : Place) → Some_ p.bodies → is_cut p ≡ false
uncut_bodies p s = by_bodies p.bodies refl s
  where
    by_bodies : (bs : Option Text) → p.bodies ≡ bs → Some_ bs → is_cut p ≡ false
    by_bodies None b s = ap (λ z. is_cut (record p { bodies = z })) b
    by_bodies (Some []) b s = absurd s
    by_bodies (Some (c ∷ t)) b s = ap (λ z. is_cut (record p { bodies = z })) b

at_last : (p q : Place) (ts us : List Turn) → AreLines p q → AtStop q ts us → Behind p ts us
at_last p q ts us l s = record {
  more = [];
  is_front = record { items_end = p; text_end = q; are_items = refl; are_lines = l; is_end = record { no_text = s.no_text; none_waits = s.no_bodies } };
  value = sym s.same ∙ sym (append-nil ts);
}

one_before : (p q m : Place) (t : Turn) (ts : List Turn) → AreLines p q → whole_item items q ≡ Some (t, m) → IsFrontAt m ts → IsFrontAt p (t ∷ ts)
one_before p q m t ts l e x =
    let r = read_whole items q t m e in
    let i = r.is_read in
    record {
      items_end = x.items_end;
      text_end = x.text_end;
      are_items = (
        m,
        record {
          item = i.item_of;
          is_ended = record { start = q; item_end = i.behind; are_lines = l; is_item = items_meet.sound q i.behind i.item_of i.is_item; is_end = end_sound (past_gap i.behind) m i.is_end };
          uncut = uncut_bodies i.behind r.uncut;
          value = i.is_turn;
        },
        x.are_items,
      );
      are_lines = x.are_lines;
      is_end = x.is_end;
    }

front_sound : (n : ℕ) (ts : List Turn) (p : Place) (us : List Turn) → front_from items n ts p ≡ Some us → Behind p ts us
front_sound zero ts p us e =
    let o = opened items zero ts p us e in
    elim (stop_or_item items zero ts o.start us o.is_rest) [
      | inl s ↦ at_last p o.start ts us (lines_sound p o.start o.is_start) s
      | inr i ↦ absurd (omega (arith, i.is_fuel))
    ]
front_sound (suc n) ts p us e =
    let o = opened items (suc n) ts p us e in
    by_kind o.start (lines_sound p o.start o.is_start) (stop_or_item items (suc n) ts o.start us o.is_rest) (λ vs m x. front_sound n vs m us x)
  where
    by_kind : (q : Place) → AreLines p q → AtStop q ts us ⊎ AtItem items (suc n) ts q us → ((vs : List Turn) (m : Place) → front_from items n vs m ≡ Some us → Behind m vs us) → Behind p ts us
    by_kind q l (inl s) rec = at_last p q ts us l s
    by_kind q l (inr i) rec =
        let f : i.fuel ≡ n = omega (arith, i.is_fuel) in
        let r = rec (ts ++ i.turn_is ∷ []) i.next (ap (λ x. front_from items x (ts ++ i.turn_is ∷ []) i.next) (sym f) ∙ i.is_rest) in
        record { more = i.turn_is ∷ r.more; is_front = one_before p q i.next i.turn_is r.more l i.is_item r.is_front; value = r.value ∙ append_assoc ts (i.turn_is ∷ []) r.more }

-- ---- what the rules have

end_uncut : (p q : Place) → past_end p ≡ Some q → is_cut p ≡ false → is_cut q ≡ false
end_uncut p q e c = by_semi (past_byte 59 p.text) e
  where
    by_newline : (o : Option Text) → if_eaten o (λ t. Some (next_line p t)) None ≡ Some q → is_cut q ≡ false
    by_newline None e = cc
    by_newline (Some t) e = ap is_cut (sym (inner (next_line p t) q e))

    by_semi : (o : Option Text) → if_eaten o (λ t. Some (at_text p t)) (past_newline p) ≡ Some q → is_cut q ≡ false
    by_semi None e = by_newline (past_byte 10 p.text) e
    by_semi (Some t) e = ap is_cut (sym (inner (at_text p t) q e)) ∙ c

item_read : (p m : Place) (t : Turn) → (x : IsWholeItem p m t) → whole_item items x.is_ended.start ≡ Some (t, m)
unfolding whole_item
item_read p m t x =
    let e = x.is_ended in
    ap (λ o. and_then o closing) (items_meet.whole e.start e.item_end x.item e.is_item)
    ∙ ap (λ v. if v then None else and_then (ended (past_gap e.item_end)) (λ _. pure (turn_of x.item (waits e.item_end)))) x.uncut
    ∙ ap (λ o. and_then (eaten o) (λ _. pure (turn_of x.item (waits e.item_end)))) (ended_at_end (IsList 64) p m x.item e)
    ∙ ap (λ y. Some (y, m)) (sym x.value)

item_short : (p m : Place) (t : Turn) → IsWholeItem p m t → 2 + length m.text ≤ length p.text
item_short p m t x = ended_short (list 64) (IsList 64) (list_meets 64) p m x.item x.is_ended

stop_read : (n : ℕ) (ts : List Turn) (p q : Place) → is_cut p ≡ false → AreLines p q → IsEnd q → front_from items n ts p ≡ Some (ts ++ [])
stop_read zero ts p q c l e =
    front_step items zero ts p (Some q) c (lines_whole p q l) ∙ ap (λ v. if v then Some ts else None) (at_text_end q e) ∙ ap (λ y. Some y) (sym (append-nil ts))
stop_read (suc n) ts p q c l e =
    front_step items (suc n) ts p (Some q) c (lines_whole p q l)
    ∙ ap (λ v. if v then at_stop ts q else with_item (front_from items n) ts (whole_item items q)) (ap is_nil e.no_text)
    ∙ ap (λ v. if v then Some ts else None) (at_text_end q e) ∙ ap (λ y. Some y) (sym (append-nil ts))

front_read : (us : List Turn) (n : ℕ) (ts : List Turn) (p r q : Place) → is_cut p ≡ false → AreWhole p r us → AreLines r q → IsEnd q → length p.text ≤ n → front_from items n ts p ≡ Some (ts ++ us)
front_read [] n ts p r q c a l e le = stop_read n ts p q c (subst (λ y. AreLines y q) a l) e
front_read (t ∷ us) zero ts p r q c a l e le = absurd (omega (arith, le, item_short p a.0 t a.1))
front_read (t ∷ us) (suc n) ts p r q c a l e le =
    let x = a.1 in
    let i = x.is_ended in
    front_step items (suc n) ts p (Some i.start) c (lines_whole p i.start i.are_lines)
    ∙ ap (λ v. if v then at_stop ts i.start else with_item (front_from items n) ts (whole_item items i.start)) (item_some i.start i.item_end x.item i.is_item)
    ∙ ap (with_item (front_from items n) ts) (item_read p a.0 t x)
    ∙ front_read us n (ts ++ t ∷ []) a.0 r q (end_uncut (past_gap i.item_end) a.0 (ended_at_end (IsList 64) p a.0 x.item i) x.uncut) a.2 l e (omega (arith, le, item_short p a.0 t x))
    ∙ ap (λ y. Some y) (append_assoc ts (t ∷ []) us)

pub fronts_obey : (n : Nul) (a : Text) (ts : List Turn) → front (seen n a) ≡ Some ts → IsWholeFront n a ts
unfolding front
fronts_obey n a ts e =
    let b = front_sound (length (seen n a)) [] (alone (seen n a)) ts e in
    subst (IsFrontAt (alone (seen n a))) (sym b.value) b.is_front

pub read_fronts : (n : Nul) (a : Text) (ts : List Turn) → IsWholeFront n a ts → front (seen n a) ≡ Some ts
unfolding front
read_fronts n a ts x = front_read ts (length (seen n a)) [] (alone (seen n a)) x.items_end x.text_end refl x.are_items x.are_lines x.is_end (omega arith)
