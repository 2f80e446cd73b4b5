-- Whole lines and a text behind them are read one after the other.
use Rattle.std.proofs.Common.{◌≡◌, ◌∙◌, ◌≤◌, ◌+◌, ℕ, zero, suc, List, [], ◌∷◌, ◌++◌, ◌⊎◌, inl, inr, refl, sym, ap, ap₂, subst, Bool, true, false, if◌then◌else◌, ◌&&◌, ◌==◌, not, length, arith, length-append, append-nil, append_assoc}
use Rattle.std.specs.Prelude.{Option, Some, None, Result, Ok, Err, is_some, option_map}
use Rattle.std.proofs.lemmas.List.Elements.{filter-append}
use Rattle.ap_shparse.specs.Bytes.{Text, after, gap, has, past_comment}
use Rattle.ap_shparse.specs.Reads.{Outcome, and_then, if_eaten}
use Rattle.ap_shparse.specs.Places.{Place, behind, newlines, newlines_from, past_gap, past_newline, waits}
use Rattle.ap_shparse.specs.Commands.{alone, is_nil}
use Rattle.ap_shparse.specs.Scripts.{Answer, by_turn, left_at, script, script_from, turn}
use Rattle.ap_shparse.specs.Fronts.{NoneStops, chains, front, front_from}
use Rattle.ap_shparse.specs.Grammar.{EndsLine, IsLineFront, IsScript, IsStopped, IsUnstopped, behind_one, seen, to_stop}
use Rattle.ap_shparse.specs.declared.class.Class.{Class}
use Rattle.ap_shparse.specs.declared.class.Class.TheVariants.{Blank, Comment}
use Rattle.ap_shparse.specs.declared.script.Turn.{Turn}
use Rattle.ap_shparse.specs.declared.script.Turn.TheVariants as turned
use Rattle.ap_shparse.specs.declared.tree.Chain.{Chain}
use Rattle.ap_shparse.specs.declared.tree.Nul.{Nul}
use Rattle.ap_shparse.specs.declared.tree.Nul.TheVariants as nul
use Rattle.ap_shparse.proofs.Keeps.{inner}
use Rattle.ap_shparse.proofs.KeptRuns.{kept_gap}
use Rattle.ap_shparse.proofs.KeptPlaces.{PKeeps, Some_, place}
use Rattle.ap_shparse.proofs.KeptLines.{Fits, at_newline, fits, goes_on, kept_all_lines, kept_newline}
use Rattle.ap_shparse.proofs.ItemLemmas.{map_nil, fits_nothing, kept_item, read_whole}
use Rattle.ap_shparse.proofs.FrontLemmas.{Items, all_lines, lines_all, stop_on}
use Rattle.ap_shparse.proofs.GrownLemmas.{grown, grown_item, grown_line, more_lines}
use Rattle.ap_shparse.proofs.LongestLemmas.{AtItem, AtStop, opened, script_next, stop_or_item, total}
use Rattle.ap_shparse.proofs.OutsideLemmas.{from_front, is_there, items, kept}

-- ---- texts that end with a newline

ends_tail : (c : ℕ) (t : Text) → EndsLine (c ∷ t) → EndsLine t
ends_tail c [] e = tt
ends_tail c (d ∷ t) e = e

ends_suffix : (h g : Text) → EndsLine (h ++ g) → EndsLine g
ends_suffix [] g e = e
ends_suffix (c ∷ h) g e = ends_suffix h g (ends_tail c (h ++ g) e)

ends_after : (k : Class) (t : Text) → EndsLine t → EndsLine (after k t)
ends_after k [] e = tt
ends_after k (c ∷ t) e = by_has (has k c) (ends_after k t (ends_tail c t e))
  where
    by_has : (v : Bool) → EndsLine (after k t) → EndsLine (if v then after k t else c ∷ t)
    by_has true r = r
    by_has false r = e

no_newline : (k : Class) (t : Text) → has k 10 ≡ false → after k t ≡ [] → EndsLine t → t ≡ []
no_newline k [] h e l = refl
no_newline k (c ∷ []) h e l = absurd (not_empty c (sym (ap (λ v. if v then [] else c ∷ []) (ap (has k) l ∙ h)) ∙ e))
  where
    not_empty : (c : ℕ) → c ∷ [] ≡ [] → ⊥
    not_empty c e = cc
no_newline k (c ∷ d ∷ t) h e l = by_has (has k c) e (λ g. no_newline k (d ∷ t) h g l)
  where
    by_has : (v : Bool) → (if v then after k (d ∷ t) else c ∷ d ∷ t) ≡ [] → (after k (d ∷ t) ≡ [] → d ∷ t ≡ []) → c ∷ d ∷ t ≡ []
    by_has true e rec = absurd (not_empty d t (rec e))
      where
        not_empty : (d : ℕ) (t : Text) → d ∷ t ≡ [] → ⊥
        not_empty d t e = cc
    by_has false e rec = e

blank_ten : has Blank 10 ≡ false
unfolding has
blank_ten = refl

comment_ten : has Comment 10 ≡ false
unfolding has
comment_ten = refl

-- a gap that ends with a newline is none
gap_ends : (g : Text) → gap g ≡ [] → EndsLine g → g ≡ []
unfolding gap past_comment
gap_ends g e l = by_blanks (after Blank g) refl e (ends_after Blank g l)
  where
    by_hash : (y : ℕ) (w : Text) → (v : Bool) → (y == 35) ≡ v → (if v then after Comment w else y ∷ w) ≡ [] → EndsLine (y ∷ w) → g ≡ []
    by_hash y [] true is e l = absurd (not_hash (sym (ap (λ z. z == 35) l) ∙ is))
      where
        not_hash : false ≡ true → ⊥
        not_hash e = cc
    by_hash y (d ∷ w) true is e l = absurd (not_empty d w (no_newline Comment (d ∷ w) comment_ten e l))
      where
        not_empty : (d : ℕ) (t : Text) → d ∷ t ≡ [] → ⊥
        not_empty d t e = cc
    by_hash y w false is e l = cc

    by_blanks : (v : Text) → after Blank g ≡ v → past_comment v ≡ [] → EndsLine v → g ≡ []
    by_blanks [] q e m = no_newline Blank g blank_ten q l
    by_blanks (y ∷ w) q e m = by_hash y w (y == 35) refl e m

-- ---- newlines

fits_gap : (bs : Option Text) (t u g : Text) → behind bs t ≡ u → Some_ bs → length g ≤ length u → Fits bs g
fits_gap bs t u [] e s le = fits_nothing bs s
fits_gap bs t u (c ∷ g) e s le = fits bs t u (c ∷ g) e (inr (omega arith, le))

pub record LinesJoin (n : ℕ) (p : Place) : Type 0 where
  pub over : Text
  pub gap_text : Text
  pub bodies : Option Text
  pub tail : Text
  pub is_text : p.text ≡ over ++ gap_text
  pub is_bodies : p.bodies ≡ option_map (λ z. z ++ tail) bodies
  pub as_long : length tail ≡ length gap_text
  pub some : Some_ bodies
  pub no_gap : gap gap_text ≡ []
  pub same : gap_text ≡ [] → (b : Text) (k : ℕ) (r : Place) → newlines_from k (alone b) ≡ Some r → (j : ℕ) → n + k ≤ j → newlines_from j (grown p b) ≡ Some r

at_gap : (n : ℕ) (p q : Place) → past_gap p ≡ q → q.text ≡ [] → q.bodies ≡ None → LinesJoin n p
at_gap n p q g t b =
    let none : p.bodies ≡ None = ap (λ y. y.bodies) g ∙ b in
    record {
      over = [];
      gap_text = p.text;
      bodies = None;
      tail = p.text;
      is_text = refl;
      is_bodies = none;
      as_long = refl;
      some = tt;
      no_gap = ap (λ y. y.text) g ∙ t;
      same = λ e c k r w j le. ap (newlines_from j) (ap₂ (λ x y. place x y c) e none) ∙ more_lines k j (alone c) r (omega (arith, le)) w;
    }

pub lines_join : (n : ℕ) (p q : Place) → newlines_from n p ≡ Some q → q.text ≡ [] → q.bodies ≡ None → Some_ p.bodies → LinesJoin n p
unfolding newlines_from
lines_join zero p q e t b s = by_newline (past_newline (past_gap p)) e
  where
    by_newline : (o : Option Place) → (if is_some o then None else Some (past_gap p)) ≡ Some q → LinesJoin zero p
    by_newline None e = at_gap zero p q (inner (past_gap p) q e) t b
    by_newline (Some y) e = cc
lines_join (suc m) p q e t b s = by_newline (past_newline (past_gap p)) refl e (λ y w f. lines_join m y q w t b f)
  where
    no_bodies : (z tail : Text) → None ≡ Some (z ++ tail) → ⊥
    no_bodies z tail e = cc

    by_line : (y : Place) → past_newline (past_gap p) ≡ Some y → (over g : Text) (bodies : Option Text) (tail : Text) → y.text ≡ over ++ g → y.bodies ≡ option_map (λ z. z ++ tail) bodies → gap g ≡ []
        → (g ≡ [] → (c : Text) (k : ℕ) (r : Place) → newlines_from k (alone c) ≡ Some r → (j : ℕ) → m + k ≤ j → newlines_from j (grown y c) ≡ Some r) → LinesJoin (suc m) p
    by_line y is over g (Some z) tail t bs ng same = absurd (no_bodies z tail (ap (λ y. y.bodies) (at_newline (past_gap p) y is).is_next ∙ bs))
    by_line y is over g None tail t bs ng same =
        let a = at_newline (past_gap p) y is in
        let f = fits_gap p.bodies a.rest y.text g (ap (λ y. y.text) a.is_next) s (omega (arith, ap length t, length-append over g)) in
        let u = kept_newline (past_gap p) y over g is t f in
        let w = kept_gap p.text u.front g u.left.is_text u.left.has_stop in
        record {
          over = w.front;
          gap_text = g;
          bodies = u.bodies;
          tail = u.tail;
          is_text = w.spelling;
          is_bodies = u.left.is_bodies;
          as_long = u.left.as_long;
          some = u.left.some;
          no_gap = ng;
          same = λ n c k r v. elim [
            | zero ↦ λ le. absurd (omega (arith, le))
            | suc j ↦ λ le. let d = grown_line p y c is s in goes_on j (grown p c) d.behind_gap (grown y c) d.is_gap d.is_newline ∙ same n c k r v j (omega (arith, le))
          ];
        }

    by_newline : (o : Option Place) → past_newline (past_gap p) ≡ o → if_eaten o (newlines_from m) (Some (past_gap p)) ≡ Some q → ((y : Place) → newlines_from m y ≡ Some q → Some_ y.bodies → LinesJoin m y) → LinesJoin (suc m) p
    by_newline None is e rec = at_gap (suc m) p q (inner (past_gap p) q e) t b
    by_newline (Some y) is e rec =
        let k = rec y e (subst Some_ (ap (λ y. y.bodies) (at_newline (past_gap p) y is).is_next) tt) in
        by_line y is k.over k.gap_text k.bodies k.tail k.is_text k.is_bodies k.no_gap k.same

-- ---- a text behind other items

same_lines : (item : Items) (m left : ℕ) (f : List Chain) (p p' : Place) → newlines p ≡ newlines p' → script_from item m left f p ≡ script_from item m left f p'
unfolding script_from
same_lines item zero left f p p' e = ap (λ o. if_eaten o (stop_on left f) (Err left)) e
same_lines item (suc m) left f p p' e = ap (λ o. if_eaten o (λ r. by_turn (script_from item m) (left_at left r) f (turn item r)) (Err left)) e

pub turn_end : (item : Items) (q : Place) → is_nil q.text && not (waits q) ≡ true → turn item q ≡ Some (turned.End, q)
unfolding turn
turn_end item q e = by_parts (is_nil q.text) (waits q) e
  where
    by_parts : (v w : Bool) → v && not w ≡ true → (if v then (if w then None else Some (turned.End, q)) else and_then (item q) (λ c z. Rattle.ap_shparse.specs.Scripts.at_end c (past_gap z))) ≡ Some (turned.End, q)
    by_parts true true e = cc
    by_parts true false e = refl
    by_parts false w e = cc

pub ok_of : (a b : List Chain) → ◌≡◌ {A = Result (List Chain) ℕ} (Ok a) (Ok b) → a ≡ b
ok_of a b e = cc

pub no_ok : (a : ℕ) (b : List Chain) → ◌≡◌ {A = Result (List Chain) ℕ} (Err a) (Ok b) → ⊥
no_ok a b e = cc

more_script : (item : Items) (k m : ℕ) → k ≤ m → (r0 left : ℕ) (f g : List Chain) (p : Place) (ds : List Chain) → script_from item k r0 f p ≡ Ok ds → script_from item m left (g ++ f) p ≡ Ok (g ++ ds)
unfolding script_from
more_script item zero m le r0 left f g p ds e = by_lines (newlines p) refl e m
  where
    at_stop : (q : Place) → newlines p ≡ Some q → is_nil q.text && not (waits q) ≡ true → f ≡ ds → (m : ℕ) → script_from item m left (g ++ f) p ≡ Ok (g ++ ds)
    at_stop q is n s zero = ap (λ o. if_eaten o (stop_on left (g ++ f)) (Err left)) is ∙ ap (λ v. if v then Ok (g ++ f) else Err (left_at left q)) n ∙ ap (λ y. Ok (g ++ y)) s
    at_stop q is n s (suc j) = ap (λ o. if_eaten o (λ r. by_turn (script_from item j) (left_at left r) (g ++ f) (turn item r)) (Err left)) is ∙ ap (by_turn (script_from item j) (left_at left q) (g ++ f)) (turn_end item q n) ∙ ap (λ y. Ok (g ++ y)) s

    by_stop : (q : Place) → newlines p ≡ Some q → (v : Bool) → is_nil q.text && not (waits q) ≡ v → ◌≡◌ {A = Result (List Chain) ℕ} (if v then Ok f else Err (left_at r0 q)) (Ok ds) → (m : ℕ) → script_from item m left (g ++ f) p ≡ Ok (g ++ ds)
    by_stop q is true n e = at_stop q is n (ok_of f ds e)
    by_stop q is false n e = λ m. absurd (no_ok (left_at r0 q) ds e)

    by_lines : (o : Option Place) → newlines p ≡ o → if_eaten o (stop_on r0 f) (Err r0) ≡ Ok ds → (m : ℕ) → script_from item m left (g ++ f) p ≡ Ok (g ++ ds)
    by_lines None is e = λ m. absurd (no_ok r0 ds e)
    by_lines (Some q) is e = by_stop q is (is_nil q.text && not (waits q)) refl e
more_script item (suc k) zero le r0 left f g p ds e = absurd (omega (arith, le))
more_script item (suc k) (suc m) le r0 left f g p ds e = by_lines (newlines p) refl e (λ a b c h s w. more_script item k m (omega (arith, le)) a b c h s ds w)
  where
    by_turned : (q : Place) (o : Outcome Place Turn) → by_turn (script_from item k) (left_at r0 q) f o ≡ Ok ds
        → ((a b : ℕ) (c h : List Chain) (s : Place) → script_from item k a c s ≡ Ok ds → script_from item m b (h ++ c) s ≡ Ok (h ++ ds)) → by_turn (script_from item m) (left_at left q) (g ++ f) o ≡ Ok (g ++ ds)
    by_turned q None e rec = absurd (no_ok (left_at r0 q) ds e)
    by_turned q (Some (turned.End, s)) e rec = ap (λ y. Ok (g ++ y)) (ok_of f ds e)
    by_turned q (Some (turned.Last c, s)) e rec = ap (λ y. Ok y) (append_assoc g f (c ∷ []) ∙ ap (λ y. g ++ y) (ok_of (f ++ c ∷ []) ds e))
    by_turned q (Some (turned.Next c, s)) e rec = ap (λ y. script_from item m (left_at left q) y s) (append_assoc g f (c ∷ [])) ∙ rec (left_at r0 q) (left_at left q) (f ++ c ∷ []) g s e

    by_lines : (o : Option Place) → newlines p ≡ o → if_eaten o (λ r. by_turn (script_from item k) (left_at r0 r) f (turn item r)) (Err r0) ≡ Ok ds
        → ((a b : ℕ) (c h : List Chain) (s : Place) → script_from item k a c s ≡ Ok ds → script_from item m b (h ++ c) s ≡ Ok (h ++ ds)) → if_eaten o (λ r. by_turn (script_from item m) (left_at left r) (g ++ f) (turn item r)) (Err left) ≡ Ok (g ++ ds)
    by_lines None is e rec = absurd (no_ok r0 ds e)
    by_lines (Some q) is e rec = by_turned q (turn item q) e rec

-- ---- whole lines

pub record Joins (item : Items) (n : ℕ) (ts : List Turn) (p : Place) (us : List Turn) : Type 0 where
  pub over : Text
  pub gap_text : Text
  pub bodies : Option Text
  pub tail : Text
  pub is_text : p.text ≡ over ++ gap_text
  pub is_bodies : p.bodies ≡ option_map (λ z. z ++ tail) bodies
  pub as_long : length tail ≡ length gap_text
  pub some : Some_ bodies
  pub no_gap : gap gap_text ≡ []
  pub more : List Turn
  pub is_more : us ≡ ts ++ more
  pub same : gap_text ≡ [] → NoneStops more → (b : Text) (ds : List Chain) (r0 : ℕ) → script_from item (length b) r0 [] (alone b) ≡ Ok ds
      → (m : ℕ) → n + length b ≤ m → (left : ℕ) (found : List Chain) → script_from item m left found (grown p b) ≡ Ok (found ++ (chains more ++ ds))

at_last : (item : Items) (n : ℕ) (ts : List Turn) (p q : Place) (us : List Turn) → newlines p ≡ Some q → Some_ p.bodies → AtStop q ts us → Joins item n ts p us
at_last item n ts p q us e some s =
    let l = lines_join (length p.text) p q (all_lines p q e) s.no_text s.no_bodies some in
    record {
      over = l.over;
      gap_text = l.gap_text;
      bodies = l.bodies;
      tail = l.tail;
      is_text = l.is_text;
      is_bodies = l.is_bodies;
      as_long = l.as_long;
      some = l.some;
      no_gap = l.no_gap;
      more = [];
      is_more = sym s.same ∙ sym (append-nil ts);
      same = λ g c b ds r0 w m le left found.
          let r = is_there (newlines (alone b)) (total (alone b)) in
          let j = l.same g b (length b) r.0 (all_lines (alone b) r.0 r.1) (length (p.text ++ b)) (omega (arith, length-append p.text b)) in
          same_lines item m left found (grown p b) (alone b) (lines_all (grown p b) r.0 j ∙ sym r.1)
          ∙ ap (λ y. script_from item m left y (alone b)) (sym (append-nil found))
          ∙ more_script item (length b) m (omega (arith, le)) r0 left [] found (alone b) ds w;
    }

pub joins : (item : Items) → PKeeps item item → (n : ℕ) (ts : List Turn) (p : Place) (us : List Turn) → front_from item n ts p ≡ Some us → Joins item n ts p us
joins item k zero ts p us e =
    let o = opened item zero ts p us e in
    elim (stop_or_item item zero ts o.start us o.is_rest) [
      | inl s ↦ at_last item zero ts p o.start us o.is_start o.uncut s
      | inr i ↦ absurd (omega (arith, i.is_fuel))
    ]
joins item k (suc n) ts p us e =
    let o = opened item (suc n) ts p us e in
    by_kind o.start o.is_start o.uncut (stop_or_item item (suc n) ts o.start us o.is_rest) (λ vs s d. joins item k n vs s us d)
  where
    by_next : (t : Turn) (s : Place) (vs : List Turn) (b : Text) (ds : List Chain) (m : ℕ) (l left : ℕ) (found : List Chain) → NoneStops (t ∷ vs)
        → (NoneStops vs → (left : ℕ) (found : List Chain) → script_from item m left found (grown s b) ≡ Ok (found ++ (chains vs ++ ds)))
        → by_turn (script_from item m) l found (Some (t, grown s b)) ≡ Ok (found ++ (chains (t ∷ vs) ++ ds))
    by_next turned.End s vs b ds m l left found c rec = absurd c
    by_next (turned.Last x) s vs b ds m l left found c rec = absurd c
    by_next (turned.Next x) s vs b ds m l left found c rec = rec c l (found ++ x ∷ []) ∙ ap (λ y. Ok y) (append_assoc found (x ∷ []) (chains vs ++ ds))

    by_kind : (q : Place) → newlines p ≡ Some q → Some_ p.bodies → AtStop q ts us ⊎ AtItem item (suc n) ts q us → ((vs : List Turn) (s : Place) → front_from item n vs s ≡ Some us → Joins item n vs s us) → Joins item (suc n) ts p us
    by_kind q is uncut (inl s) rec = at_last item (suc n) ts p q us is uncut s
    by_kind q is uncut (inr i) rec =
        let f : i.fuel ≡ n = omega (arith, i.is_fuel) in
        let d = ap (λ x. front_from item x (ts ++ i.turn_is ∷ []) i.next) (sym f) ∙ i.is_rest in
        let o = opened item n (ts ++ i.turn_is ∷ []) i.next us d in
        let j = rec (ts ++ i.turn_is ∷ []) i.next d in
        let w = read_whole item q i.turn_is i.next i.is_item in
        let r = w.is_read in
        let u = kept_item item k q r.behind i.next r.item_of j.over j.bodies j.gap_text j.tail r.is_item r.is_end (record { is_text = j.is_text; is_bodies = j.is_bodies; as_long = j.as_long; some = j.some })
        (λ x. let a = at_newline (past_gap r.behind) i.next x in fits_gap r.behind.bodies a.rest i.next.text j.gap_text (ap (λ y. y.text) a.is_next) w.uncut (omega (arith, ap length j.is_text, length-append j.over j.gap_text))) in
        let v = kept_all_lines p q u.front u.bodies j.gap_text u.tail is u.left in
        record {
          over = v.front;
          gap_text = j.gap_text;
          bodies = v.bodies;
          tail = v.tail;
          is_text = v.left.is_text;
          is_bodies = v.left.is_bodies;
          as_long = v.left.as_long;
          some = v.left.some;
          no_gap = j.no_gap;
          more = i.turn_is ∷ j.more;
          is_more = j.is_more ∙ append_assoc ts (i.turn_is ∷ []) j.more;
          same = λ g c b ds r0 x. elim [
            | zero ↦ λ le left found. absurd (omega (arith, le))
            | suc m ↦ λ le left found.
                let y = grown_item item k p q i.next i.turn_is b is i.is_item o.uncut in
                script_next item m left found (grown p b) y.start i.turn_is (grown i.next b) y.is_start y.is_turn
                ∙ by_next i.turn_is i.next j.more b ds m (left_at left y.start) left found c (λ h l z. j.same g h b ds r0 x m (omega (arith, le)) l z)
          ];
        }

-- ---- texts

join_texts : (x y : Text) (ts : List Turn) (ds : List Chain) → front x ≡ Some ts → EndsLine x → NoneStops ts → script y ≡ Ok ds → script (x ++ y) ≡ Ok (chains ts ++ ds)
unfolding script
join_texts x y ts ds e l n w =
    let j = joins items kept (length x) [] (alone x) ts (from_front x ts e) in
    let g = gap_ends j.gap_text j.no_gap (ends_suffix j.over j.gap_text (subst EndsLine j.is_text l)) in
    j.same g (subst NoneStops j.is_more n) y ds (length y) w (length (x ++ y)) (omega (arith, length-append x y)) (length (x ++ y)) [] ∙ ap (λ z. Ok (chains z ++ ds)) (sym j.is_more)

seen-append : (n : Nul) (a b : Text) → seen n (a ++ b) ≡ seen n a ++ seen n b
seen-append nul.Keep a b = refl
seen-append nul.Drop a b = filter-append (λ c. not (c == 0)) a b

pub lines_then : (n : Nul) (a b : Text) (cs ds : List Chain) → IsLineFront n a cs → IsScript n b ds → IsScript n (a ++ b) (cs ++ ds)
lines_then n a b cs ds f s =
    ap script (seen-append n a b) ∙ join_texts (seen n a) (seen n b) f.turns ds f.is_front f.ends_line f.none_stops s ∙ ap (λ z. Ok (z ++ ds)) (sym f.value)

pub one_script : (n : Nul) (t : Text) (cs ds : List Chain) → IsScript n t cs → IsScript n t ds → cs ≡ ds
one_script n t cs ds e w = ok_of cs ds (sym e ∙ w)

-- ---- a stopping command

pub record StopsText (item : Items) (n : ℕ) (ts : List Turn) (p : Place) (us : List Turn) : Type 0 where
  pub more : List Turn
  pub is_more : us ≡ ts ++ more
  pub same : (cs : List Chain) → to_stop more ≡ Some cs → (b : Text) (m : ℕ) → n ≤ m → (left : ℕ) (found : List Chain) → script_from item m left found (grown p b) ≡ Ok (found ++ cs)

stops_nothing : (item : Items) (n : ℕ) (ts : List Turn) (p q : Place) (us : List Turn) → AtStop q ts us → StopsText item n ts p us
stops_nothing item n ts p q us s = record { more = []; is_more = sym s.same ∙ sym (append-nil ts); same = λ cs e. absurd (no_items cs e) }
  where
    no_items : (cs : List Chain) → None ≡ Some cs → ⊥
    no_items cs e = cc

pub stops_text : (item : Items) → PKeeps item item → (n : ℕ) (ts : List Turn) (p : Place) (us : List Turn) → front_from item n ts p ≡ Some us → StopsText item n ts p us
stops_text item k zero ts p us e =
    let o = opened item zero ts p us e in
    elim (stop_or_item item zero ts o.start us o.is_rest) [
      | inl s ↦ stops_nothing item zero ts p o.start us s
      | inr i ↦ absurd (omega (arith, i.is_fuel))
    ]
stops_text item k (suc n) ts p us e =
    let o = opened item (suc n) ts p us e in
    by_kind o.start o.is_start (stop_or_item item (suc n) ts o.start us o.is_rest) (λ vs s d. stops_text item k n vs s us d)
  where
    by_rest : (x : Chain) (s : Place) (vs : List Turn) (b : Text) (m l : ℕ) (found cs : List Chain) (o : Option (List Chain)) → to_stop vs ≡ o → behind_one x o ≡ Some cs
        → ((ds : List Chain) → to_stop vs ≡ Some ds → (left : ℕ) (found : List Chain) → script_from item m left found (grown s b) ≡ Ok (found ++ ds)) → script_from item m l (found ++ x ∷ []) (grown s b) ≡ Ok (found ++ cs)
    by_rest x s vs b m l found cs None v e rec = cc
    by_rest x s vs b m l found cs (Some ds) v e rec = rec ds v l (found ++ x ∷ []) ∙ ap (λ y. Ok y) (append_assoc found (x ∷ []) ds ∙ ap (λ y. found ++ y) (of_some (x ∷ ds) cs e))
      where
        of_some : (a c : List Chain) → Some a ≡ Some c → a ≡ c
        of_some a c e = cc

    by_next : (t : Turn) (s : Place) (vs : List Turn) (b : Text) (m l : ℕ) (found cs : List Chain) → to_stop (t ∷ vs) ≡ Some cs
        → ((ds : List Chain) → to_stop vs ≡ Some ds → (left : ℕ) (found : List Chain) → script_from item m left found (grown s b) ≡ Ok (found ++ ds)) → by_turn (script_from item m) l found (Some (t, grown s b)) ≡ Ok (found ++ cs)
    by_next turned.End s vs b m l found cs e rec = cc
    by_next (turned.Last x) s vs b m l found cs e rec = let q : x ∷ [] ≡ cs = cc in ap (λ y. Ok (found ++ y)) q
    by_next (turned.Next x) s vs b m l found cs e rec = by_rest x s vs b m l found cs (to_stop vs) refl e rec

    by_kind : (q : Place) → newlines p ≡ Some q → AtStop q ts us ⊎ AtItem item (suc n) ts q us → ((vs : List Turn) (s : Place) → front_from item n vs s ≡ Some us → StopsText item n vs s us) → StopsText item (suc n) ts p us
    by_kind q is (inl s) rec = stops_nothing item (suc n) ts p q us s
    by_kind q is (inr i) rec =
        let f : i.fuel ≡ n = omega (arith, i.is_fuel) in
        let d = ap (λ x. front_from item x (ts ++ i.turn_is ∷ []) i.next) (sym f) ∙ i.is_rest in
        let o = opened item n (ts ++ i.turn_is ∷ []) i.next us d in
        let j = rec (ts ++ i.turn_is ∷ []) i.next d in
        record {
          more = i.turn_is ∷ j.more;
          is_more = j.is_more ∙ append_assoc ts (i.turn_is ∷ []) j.more;
          same = λ cs c b. elim [
            | zero ↦ λ le left found. absurd (omega (arith, le))
            | suc m ↦ λ le left found.
                let y = grown_item item k p q i.next i.turn_is b is i.is_item o.uncut in
                script_next item m left found (grown p b) y.start i.turn_is (grown i.next b) y.is_start y.is_turn
                ∙ by_next i.turn_is i.next j.more b m (left_at left y.start) found cs c (λ ds v l z. j.same ds v b m (omega (arith, le)) l z)
          ];
        }

stop_texts : (x y : Text) (ts : List Turn) (cs : List Chain) → front x ≡ Some ts → to_stop ts ≡ Some cs → script (x ++ y) ≡ Ok cs
unfolding script
stop_texts x y ts cs e s =
    let j = stops_text items kept (length x) [] (alone x) ts (from_front x ts e) in
    j.same cs (ap to_stop (sym j.is_more) ∙ s) y (length (x ++ y)) (omega (arith, length-append x y)) (length (x ++ y)) []

pub stopped_then : (n : Nul) (a b : Text) (cs : List Chain) → IsStopped n a cs → IsScript n (a ++ b) cs
stopped_then n a b cs f = ap script (seen-append n a b) ∙ stop_texts (seen n a) (seen n b) f.turns cs f.is_front f.stops

-- ---- a whole front by itself

pub record WholeText (item : Items) (n : ℕ) (ts : List Turn) (p : Place) (us : List Turn) : Type 0 where
  pub more : List Turn
  pub is_more : us ≡ ts ++ more
  pub same : NoneStops more → (m : ℕ) → n ≤ m → (left : ℕ) (found : List Chain) → script_from item m left found p ≡ Ok (found ++ chains more)

stopped_here : (item : Items) (m left : ℕ) (found : List Chain) (p q : Place) → newlines p ≡ Some q → is_nil q.text && not (waits q) ≡ true → script_from item m left found p ≡ Ok found
unfolding script_from
stopped_here item zero left found p q is n = ap (λ o. if_eaten o (stop_on left found) (Err left)) is ∙ ap (λ v. if v then Ok found else Err (left_at left q)) n
stopped_here item (suc j) left found p q is n = ap (λ o. if_eaten o (λ r. by_turn (script_from item j) (left_at left r) found (turn item r)) (Err left)) is ∙ ap (by_turn (script_from item j) (left_at left q) found) (turn_end item q n)

whole_here : (item : Items) (n : ℕ) (ts : List Turn) (p q : Place) (us : List Turn) → newlines p ≡ Some q → AtStop q ts us → WholeText item n ts p us
whole_here item n ts p q us is s = record {
  more = [];
  is_more = sym s.same ∙ sym (append-nil ts);
  same = λ c m le left found. stopped_here item m left found p q is (ap₂ (λ x y. is_nil x && not (is_some y)) s.no_text s.no_bodies) ∙ ap (λ y. Ok y) (sym (append-nil found));
}

grown_nothing : (p : Place) → p ≡ grown p []
grown_nothing p = ap₂ (λ x y. made x y) (sym (append-nil p.text)) (map_nil p.bodies)
  where
    made : Text → Option Text → Place
    made x y = record { text = x; bodies = y }

pub whole_text : (item : Items) → PKeeps item item → (n : ℕ) (ts : List Turn) (p : Place) (us : List Turn) → front_from item n ts p ≡ Some us → WholeText item n ts p us
whole_text item k zero ts p us e =
    let o = opened item zero ts p us e in
    elim (stop_or_item item zero ts o.start us o.is_rest) [
      | inl s ↦ whole_here item zero ts p o.start us o.is_start s
      | inr i ↦ absurd (omega (arith, i.is_fuel))
    ]
whole_text item k (suc n) ts p us e =
    let o = opened item (suc n) ts p us e in
    by_kind o.start o.is_start (stop_or_item item (suc n) ts o.start us o.is_rest) (λ vs s d. whole_text item k n vs s us d)
  where
    by_next : (t : Turn) (s : Place) (vs : List Turn) (m l : ℕ) (found : List Chain) → NoneStops (t ∷ vs)
        → (NoneStops vs → (left : ℕ) (found : List Chain) → script_from item m left found s ≡ Ok (found ++ chains vs)) → by_turn (script_from item m) l found (Some (t, s)) ≡ Ok (found ++ chains (t ∷ vs))
    by_next turned.End s vs m l found c rec = absurd c
    by_next (turned.Last x) s vs m l found c rec = absurd c
    by_next (turned.Next x) s vs m l found c rec = rec c l (found ++ x ∷ []) ∙ ap (λ y. Ok y) (append_assoc found (x ∷ []) (chains vs))

    by_kind : (q : Place) → newlines p ≡ Some q → AtStop q ts us ⊎ AtItem item (suc n) ts q us → ((vs : List Turn) (s : Place) → front_from item n vs s ≡ Some us → WholeText item n vs s us) → WholeText item (suc n) ts p us
    by_kind q is (inl s) rec = whole_here item (suc n) ts p q us is s
    by_kind q is (inr i) rec =
        let f : i.fuel ≡ n = omega (arith, i.is_fuel) in
        let d = ap (λ x. front_from item x (ts ++ i.turn_is ∷ []) i.next) (sym f) ∙ i.is_rest in
        let o = opened item n (ts ++ i.turn_is ∷ []) i.next us d in
        let j = rec (ts ++ i.turn_is ∷ []) i.next d in
        record {
          more = i.turn_is ∷ j.more;
          is_more = j.is_more ∙ append_assoc ts (i.turn_is ∷ []) j.more;
          same = λ c. elim [
            | zero ↦ λ le left found. absurd (omega (arith, le))
            | suc m ↦ λ le left found.
                let y = grown_item item k p q i.next i.turn_is [] is i.is_item o.uncut in
                script_next item m left found p y.start i.turn_is i.next (ap newlines (grown_nothing p) ∙ y.is_start) (y.is_turn ∙ ap (λ z. Some (i.turn_is, z)) (sym (grown_nothing i.next)))
                ∙ by_next i.turn_is i.next j.more m (left_at left y.start) found c (λ h l z. j.same h m (omega (arith, le)) l z)
          ];
        }

whole_texts : (x : Text) (ts : List Turn) → front x ≡ Some ts → NoneStops ts → script x ≡ Ok (chains ts)
unfolding script
whole_texts x ts e n =
    let j = whole_text items kept (length x) [] (alone x) ts (from_front x ts e) in
    j.same (subst NoneStops j.is_more n) (length x) (omega arith) (length x) [] ∙ ap (λ z. Ok (chains z)) (sym j.is_more)

pub unstopped_is : (n : Nul) (a : Text) (cs : List Chain) → IsUnstopped n a cs → IsScript n a cs
unstopped_is n a cs f = whole_texts (seen n a) f.turns f.is_front f.none_stops ∙ ap (λ z. Ok z) (sym f.value)
