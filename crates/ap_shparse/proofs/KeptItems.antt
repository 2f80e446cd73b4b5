-- Items and lists stay when another text follows.
use Rattle.std.proofs.Common.{◌≡◌, ◌∙◌, ◌≤◌, ◌<◌, ℕ, zero, suc, List, [], ◌∷◌, ◌++◌, ◌⊎◌, inl, inr, refl, sym, ap, ap₂, subst, Bool, true, false, if◌then◌else◌, ◌||◌, ◌==◌, length, arith}
use Rattle.std.specs.Prelude.{Option, Some, None, option_map, codes}
use Rattle.ap_shparse.specs.Bytes.{Text, past, past_byte}
use Rattle.ap_shparse.specs.Reads.{Outcome, and_then, eaten, if_eaten, pure}
use Rattle.ap_shparse.specs.Places.{Place, at_text, newlines, past_gap, past_newline}
use Rattle.ap_shparse.specs.Commands.{is_nil, past_blanks, simple, substitution}
use Rattle.ap_shparse.specs.Lists.{Lists, chain, choice, closes, command, ended, item_of, items, items_from, join, joined, joiner, keyword, list, next_item, others, others_by, otherwise, past_end, past_twice, simple_member}
use Rattle.ap_shparse.specs.declared.tree.Chain.{Chain}
use Rattle.ap_shparse.specs.declared.tree.Joined.{Joined}
use Rattle.ap_shparse.specs.declared.tree.Node.TheVariants as node
use Rattle.ap_shparse.proofs.Keeps.{Eating, Has, IsTest, is_same, is_stop, keeps_pure, kept_never, never, takes_if_eaten, KeptPast, Lacks, Takes, both_of, eats_byte, eats_word, inner, kept_eaten, left_of, right_of}
use Rattle.ap_shparse.proofs.KeptRuns.{kept_gap}
use Rattle.ap_shparse.proofs.KeptPieces.{longer}
use Rattle.ap_shparse.proofs.KeptHere.{past_semi}
use Rattle.ap_shparse.proofs.KeptPlaces.{Left, PKeeps, PKept, PTakes, Some_, pkeeps_pure, pkeeps_takes, pkeeps_then, pkept_if, pkept_if_eaten, pkept_lift, pkept_never, place, pnever, ptakes_then, pthen_takes}
use Rattle.ap_shparse.proofs.KeptLines.{Fits, PKeptPast, at_newline, kept_all_lines, fits, has_some, kept_newline, pkept_newlines}
use Rattle.ap_shparse.proofs.KeptCommands.{keeps_substitution, kept_blanks, pkeeps_simple, sees_same}

-- ---- commands

pkeeps_member : PKeeps simple_member simple_member
pkeeps_member = pkeeps_then (simple substitution) (simple substitution) (λ c. pure (record { node = node.Simple c.simple; stops = c.stops })) (λ c. pure (record { node = node.Simple c.simple; stops = c.stops }))
    (pkeeps_simple substitution keeps_substitution) (λ c. pkeeps_pure (record { node = node.Simple c.simple; stops = c.stops }))

ptakes_keyword : (k : ℕ) (ks : List ℕ) → Lacks (k ∷ ks) → PTakes (keyword (k ∷ ks)) (keyword (k ∷ ks))
ptakes_keyword k ks lacks = pkept_lift 1 (λ t. eaten (past (k ∷ ks) t)) (λ t. eaten (past (k ∷ ks) t)) (kept_eaten 1 (past (k ∷ ks)) (eats_word k ks lacks))

pkeeps_keyword : (k : ℕ) (ks : List ℕ) → Lacks (k ∷ ks) → PKeeps (keyword (k ∷ ks)) (keyword (k ∷ ks))
pkeeps_keyword k ks lacks = pkeeps_takes (keyword (k ∷ ks)) (keyword (k ∷ ks)) (ptakes_keyword k ks lacks)

pkeeps_otherwise : (below : Lists) → PKeeps below below → PKeeps (otherwise below) (otherwise below)
unfolding otherwise
pkeeps_otherwise below k = pkept_if_eaten 0 1 0 0 (omega arith) (omega arith) (past (codes "else")) below below (pure []) (pure []) (eats_word 101 (108 ∷ 115 ∷ 101 ∷ []) (refl, (refl, (refl, (refl, tt))))) k (pkeeps_pure [])

pkeeps_choice : (below : Lists) → PKeeps below below → PKeeps (choice below) (choice below)
unfolding choice
pkeeps_choice below k =
    pkeeps_then below below _ _ k (λ test. pkeeps_then (keyword (codes "then")) (keyword (codes "then")) _ _ (pkeeps_keyword 116 (104 ∷ 101 ∷ 110 ∷ []) (refl, (refl, (refl, (refl, tt)))))
    (λ _. pkeeps_then below below _ _ k (λ yes_list. pkeeps_then (otherwise below) (otherwise below) _ _ (pkeeps_otherwise below k)
    (λ no_list. pkeeps_then (keyword (codes "fi")) (keyword (codes "fi")) (λ _. pure (record { node = node.If test yes_list no_list; stops = false })) (λ _. pure (record { node = node.If test yes_list no_list; stops = false }))
    (pkeeps_keyword 102 (105 ∷ []) (refl, (refl, tt))) (λ _. pkeeps_pure (record { node = node.If test yes_list no_list; stops = false }))))))

pkeeps_command : (below : Lists) → PKeeps below below → PKeeps (command below) (command below)
unfolding command
pkeeps_command below k = pkept_if_eaten 0 1 0 0 (omega arith) (omega arith) (past (codes "if")) (choice below) (choice below) simple_member simple_member (eats_word 105 (102 ∷ []) (refl, (refl, tt))) (pkeeps_choice below k) pkeeps_member

-- ---- AND-OR lists

pkeeps_join : (below : Lists) → PKeeps below below → (found : List Joined) (or : Bool) → PKeeps (join below found or) (join below found or)
unfolding join
pkeeps_join below k found or = pkept_newlines 0 _ _ (pkeeps_then (command below) (command below) (λ m. pure (found ++ joined or m.node ∷ [])) (λ m. pure (found ++ joined or m.node ∷ [])) (pkeeps_command below k) (λ m. pkeeps_pure (found ++ joined or m.node ∷ [])))

true_no : true ≡ false → ⊥
true_no e = cc

abbrev twice_by : ℕ → Option Text → Option Text
twice_by k o = if_eaten o (past_byte k) None

eats_twice : (k : ℕ) → is_stop k ≡ false → Eating 1 (past_twice k)
eats_twice k lacks = record { past = λ x u b e h. by_first x u b (past_byte k x) refl e h; none = nothing }
  where
    by_first : (x u b : Text) (o : Option Text) → past_byte k x ≡ o → twice_by k o ≡ Some (u ++ b) → Has u → KeptPast 1 (past_twice k) x u b
    by_first x u b None is e h = cc
    by_first x u b (Some y) is e h =
        let m = (eats_byte k).past y u b e h in
        let n = (eats_byte k).past x m.front b (is ∙ ap (λ z. Some z) m.spelling) m.has_stop in
        record { front = n.front; spelling = n.spelling; has_stop = n.has_stop; eats = omega (arith, n.eats, m.eats); same = λ c. ap (twice_by k) (n.same c) ∙ m.same c }

    by_byte : (v : Bool) (d : ℕ) (t b c : Text) → (d == k) ≡ v → (is_stop d ≡ true) ⊎ Has t → twice_by k (if v then Some (t ++ b) else None) ≡ None → twice_by k (if d == k then Some (t ++ c) else None) ≡ None
    by_byte true d t b c is (inl s) e = absurd (true_no (sym s ∙ is_same d k is lacks))
    by_byte true d t b c is (inr g) e = ap (λ v. twice_by k (if v then Some (t ++ c) else None)) is ∙ (eats_byte k).none t b c e g
    by_byte false d t b c is g e = ap (λ v. twice_by k (if v then Some (t ++ c) else None)) is

    nothing : (t b c : Text) → past_twice k (t ++ b) ≡ None → Has t → past_twice k (t ++ c) ≡ None
    nothing [] b c e h = absurd h
    nothing (d ∷ t) b c e h = by_byte (d == k) d t b c refl h e

takes_joiner : Takes joiner joiner
takes_joiner = takes_if_eaten (past_twice 124) (pure true) (pure true) _ _ (eats_twice 124 refl) (keeps_pure true)
    (takes_if_eaten (past_twice 38) (pure false) (pure false) never never (eats_twice 38 refl) (keeps_pure false) (kept_never 1))

abbrev or_and : Option Text → Outcome Text Bool
or_and o = if_eaten o (pure false) None

abbrev or_or : Option Text → Outcome Text Bool → Outcome Text Bool
or_or o other = if_eaten o (pure true) other

no_joiner : (t b c : Text) → joiner (t ++ b) ≡ None → Has t → joiner (t ++ c) ≡ None
no_joiner t b c e h = by_first (past_twice 124 (t ++ b)) refl e
  where
    by_second : (o : Option Text) → past_twice 38 (t ++ b) ≡ o → or_and o ≡ None → or_and (past_twice 38 (t ++ c)) ≡ None
    by_second None is e = ap or_and ((eats_twice 38 refl).none t b c is h)
    by_second (Some u) is e = cc

    by_first : (o : Option Text) → past_twice 124 (t ++ b) ≡ o → or_or o (or_and (past_twice 38 (t ++ b))) ≡ None → joiner (t ++ c) ≡ None
    by_first None is e = ap (λ o. or_or o (or_and (past_twice 38 (t ++ c)))) ((eats_twice 124 refl).none t b c is h) ∙ by_second (past_twice 38 (t ++ b)) refl e
    by_first (Some u) is e = cc

pub record KeptOthers (below : Lists) (found : List Joined) (p : Place) (a : List Joined) (r : Text) (fs : Option Text) (b : Text) : Type 0 where
  pub front : Text
  pub bodies : Option Text
  pub tail : Text
  pub left : Left p front bodies b tail
  pub eats : length r ≤ length front
  pub same : (c : Text) (m : ℕ) → length front ≤ m → others below m found (place front bodies c) ≡ Some (a, place r fs c)

some_bytes : (r : Text) → Has r → 1 ≤ length r
some_bytes [] h = absurd h
some_bytes (c ∷ r) h = omega arith

abbrev next_by : Lists → ℕ → List Joined → Bool → Place → Outcome Place (List Joined)
next_by below n found or q = and_then (join below found or q) (others below n)

others_step : (below : Lists) (n : ℕ) (found : List Joined) (p q : Place) (o : Outcome Text Bool) → past_blanks p ≡ q → joiner q.text ≡ o → others below (suc n) found p ≡ others_by (next_by below n found) found q o
unfolding others
others_step below n found p q o g is = ap (λ y. others_by (next_by below n found) found y (joiner y.text)) g ∙ ap (others_by (next_by below n found) found q) is

kept_others : (below : Lists) → PKeeps below below → (n : ℕ) (found : List Joined) (p : Place) (a : List Joined) (q : Place) (r : Text) (fs : Option Text) (b tail : Text) → others below n found p ≡ Some (a, q) → Left q r fs b tail → KeptOthers below found p a r fs b
unfolding others
kept_others below k zero found p a q r fs b tail e l = cc
kept_others below k (suc n) found p a q r fs b tail e l = by_joiner (joiner (past_blanks p).text) refl e (λ f y w. kept_others below k n f y a q r fs b tail w l)
  where
    by_joiner : (o : Outcome Text Bool) → joiner (past_blanks p).text ≡ o → others_by (next_by below n found) found (past_blanks p) o ≡ Some (a, q)
        → ((f : List Joined) (y : Place) → others below n f y ≡ Some (a, q) → KeptOthers below f y a r fs b) → KeptOthers below found p a r fs b
    by_joiner None is e rec =
        let s = right_of found a (past_blanks p) q e in
        let m = kept_blanks p r fs b tail (subst (λ y. Left y r fs b tail) (sym s) l) in
        let nj = λ (c : Text). no_joiner r b c (ap joiner (sym (ap (λ y. y.text) s ∙ l.is_text)) ∙ is) l.has_stop in
        let some = some_bytes r l.has_stop in
        record {
          front = m.front;
          bodies = fs;
          tail = tail;
          left = m.left;
          eats = m.eats;
          same = λ c. elim [
            | zero ↦ λ le. absurd (omega (arith, le, m.eats, some))
            | suc j ↦ λ le. others_step below j found (place m.front fs c) (place r fs c) None (m.same c) (nj c) ∙ ap (λ y. Some (y, place r fs c)) (left_of found a (past_blanks p) q e)
          ];
        }
    by_joiner (Some o) is e rec =
        let w = both_of (join below found o.0 (at_text (past_blanks p) o.1)) (others below n) (a, q) e in
        let m = rec w.first w.left w.is_second in
        let u = pkeeps_join below k found o.0 (at_text (past_blanks p) o.1) w.first w.left m.front m.bodies b m.tail w.is_first m.left in
        let v = takes_joiner (past_blanks p).text o.0 u.front b (is ∙ ap (λ y. Some (o.0, y)) u.left.is_text) u.left.has_stop in
        let g = kept_blanks p v.front u.bodies b u.tail (record { is_text = v.spelling; is_bodies = u.left.is_bodies; as_long = u.left.as_long; has_stop = v.has_stop; some = u.left.some }) in
        record {
          front = g.front;
          bodies = u.bodies;
          tail = u.tail;
          left = g.left;
          eats = omega (arith, m.eats, u.eats, v.eats, g.eats);
          same = λ c. elim [
            | zero ↦ λ le. absurd (omega (arith, le, v.eats, g.eats))
            | suc j ↦ λ le. others_step below j found (place g.front u.bodies c) (place v.front u.bodies c) (Some (o.0, u.front ++ c)) (g.same c) (v.same c)
                ∙ ap (λ y. and_then y (others below j)) (u.same c) ∙ m.same c j (omega (arith, le, u.eats, v.eats, g.eats))
          ];
        }

pub pkeeps_chain : (below : Lists) → PKeeps below below → PKeeps (chain below) (chain below)
unfolding chain
pkeeps_chain below k p a q r fs b tail e l =
    let w = both_of (command below p) (λ m s. and_then (others below (length p.text) [] s) (λ rest. pure (item_of m rest))) (a, q) e in
    let v = both_of (others below (length p.text) [] w.left) (λ rest. pure (item_of w.first rest)) (a, q) w.is_second in
    let s = right_of (item_of w.first v.first) a v.left q v.is_second in
    let m = kept_others below k (length p.text) [] w.left v.first v.left r fs b tail v.is_first (subst (λ y. Left y r fs b tail) (sym s) l) in
    let u = pkeeps_command below k p w.first w.left m.front m.bodies b m.tail w.is_first m.left in
    record {
      front = u.front;
      bodies = u.bodies;
      tail = u.tail;
      left = u.left;
      eats = omega (arith, u.eats, m.eats);
      same = λ c. ap (λ o. and_then o (λ x y. and_then (others below (length (u.front ++ c)) [] y) (λ rest. pure (item_of x rest)))) (u.same c)
          ∙ ap (λ o. and_then o (λ rest. pure (item_of w.first rest))) (m.same c (length (u.front ++ c)) (omega (arith, longer u.front c, u.eats)))
          ∙ ap (λ y. Some (y, place r fs c)) (left_of (item_of w.first v.first) a v.left q v.is_second);
    }

-- ---- the end of an item

-- where a reading went, also where nothing is left before b
pub record Ends (q : Place) (r : Text) (fs : Option Text) (b tail : Text) : Type 0 where
  pub is_text : q.text ≡ r ++ b
  pub is_bodies : q.bodies ≡ option_map (λ z. z ++ tail) fs
  pub as_long : length tail ≡ length b
  pub some : Some_ fs

abbrev or_newline : Place → Option Text → Option Place
or_newline p o = if_eaten o (λ t. Some (at_text p t)) (past_newline p)

no_next : (z tail : Text) → None ≡ Some (z ++ tail) → ⊥
no_next z tail e = cc

pub kept_end : (p q : Place) (r : Text) (fs : Option Text) (b tail : Text) → past_end p ≡ Some q → Ends q r fs b tail → (past_newline p ≡ Some q → Fits p.bodies b) → PKeptPast 1 past_end p r fs b
kept_end p q r fs b tail e l f = by_semi (past_byte 59 p.text) refl e
  where
    by_newline : (gs : Option Text) → gs ≡ fs → past_byte 59 p.text ≡ None → past_newline p ≡ Some q → PKeptPast 1 past_end p r gs b
    by_newline (Some z) g is e = absurd (no_next z tail (ap (λ y. y.bodies) (at_newline p q e).is_next ∙ l.is_bodies ∙ ap (option_map (λ z. z ++ tail)) (sym g)))
    by_newline None g is e =
        let m = kept_newline p q r b e l.is_text (f e) in
        record {
          front = m.front;
          bodies = m.bodies;
          tail = m.tail;
          left = m.left;
          eats = m.eats;
          same = λ c. ap (or_newline (place m.front m.bodies c)) ((eats_byte 59).none m.front b c (ap (past_byte 59) (sym m.left.is_text) ∙ is) m.left.has_stop) ∙ m.same c;
        }

    by_semi : (o : Option Text) → past_byte 59 p.text ≡ o → or_newline p o ≡ Some q → PKeptPast 1 past_end p r fs b
    by_semi None is e = by_newline fs refl is e
    by_semi (Some t) is e =
        let s = inner (at_text p t) q e in
        record {
          front = 59 ∷ r;
          bodies = fs;
          tail = tail;
          left = record { is_text = past_semi p.text t is ∙ ap (λ y. 59 ∷ y) (ap (λ y. y.text) s ∙ l.is_text); is_bodies = ap (λ y. y.bodies) s ∙ l.is_bodies; as_long = l.as_long; has_stop = inl refl; some = l.some };
          eats = omega arith;
          same = λ c. refl;
        }

pub ptakes_ended : PTakes (λ q. ended (past_gap q)) (λ q. ended (past_gap q))
ptakes_ended p a q r fs b tail e l = by_end (past_end (past_gap p)) refl e
  where
    by_end : (o : Option Place) → past_end (past_gap p) ≡ o → eaten o ≡ Some (a, q) → PKept 1 (λ y. ended (past_gap y)) p a r fs b
    by_end None is e = cc
    by_end (Some s) is e =
        let w = right_of tt a s q e in
        let d = subst (λ y. Left y r fs b tail) (sym w) l in
        let m = kept_end (past_gap p) s r fs b tail is (record { is_text = d.is_text; is_bodies = d.is_bodies; as_long = d.as_long; some = d.some })
        (λ n. let a = at_newline (past_gap p) s n in fits (past_gap p).bodies a.rest s.text b (ap (λ y. y.text) a.is_next) (inl (subst (λ y. length b < length y) (sym d.is_text) (has_some r b d.has_stop)))) in
        let g = kept_gap p.text m.front b m.left.is_text m.left.has_stop in
        record {
          front = g.front;
          bodies = m.bodies;
          tail = m.tail;
          left = record { is_text = g.spelling; is_bodies = m.left.is_bodies; as_long = m.left.as_long; has_stop = g.has_stop; some = m.left.some };
          eats = omega (arith, g.eats, m.eats);
          same = λ c. ap (λ y. eaten (past_end (at_text (place g.front m.bodies c) y))) (g.same c) ∙ ap eaten (m.same c) ∙ ap (λ y. Some (y, place r fs c)) (left_of tt a s q e);
        }

-- ---- lists

ptakes_next_item : (below : Lists) → PKeeps below below → (found : List Chain) → PTakes (next_item below found) (next_item below found)
unfolding next_item
ptakes_next_item below k found = pthen_takes (chain below) (chain below) _ _ (pkeeps_chain below k)
    (λ c. ptakes_then (λ q. ended (past_gap q)) (λ q. ended (past_gap q)) (λ _. pure (found ++ c.chain ∷ [])) (λ _. pure (found ++ c.chain ∷ [])) ptakes_ended (λ _. pkeeps_pure (found ++ c.chain ∷ [])))

closes_same : IsTest closes
closes_same t b h = ap₂ (λ x y. x || y) (sees_same (codes "then") (refl, (refl, (refl, (refl, tt)))) t b h) (ap₂ (λ x y. x || y) (sees_same (codes "else") (refl, (refl, (refl, (refl, tt)))) t b h) (sees_same (codes "fi") (refl, (refl, tt)) t b h))

pub record KeptList (below : Lists) (found : List Chain) (p : Place) (a : List Chain) (r : Text) (fs : Option Text) (b : Text) : Type 0 where
  pub front : Text
  pub bodies : Option Text
  pub tail : Text
  pub left : Left p front bodies b tail
  pub eats : length r ≤ length front
  pub same : (c : Text) (m : ℕ) → length front ≤ m → items_from below m found (place front bodies c) ≡ Some (a, place r fs c)

abbrev item_by : Lists → ℕ → List Chain → Place → Bool → Outcome Place (List Chain)
item_by below n found q v = if v then Some (found, q) else and_then (next_item below found q) (items_from below n)

abbrev items_on : Lists → ℕ → List Chain → Option Place → Outcome Place (List Chain)
items_on below n found o = if_eaten o (λ q. item_by below n found q (closes q.text)) None

items_step : (below : Lists) (n : ℕ) (found : List Chain) (p q : Place) (v : Bool) → newlines p ≡ Some q → closes q.text ≡ v → items_from below (suc n) found p ≡ item_by below n found q v
unfolding items_from
items_step below n found p q v g is = ap (items_on below n found) g ∙ ap (item_by below n found q) is

kept_items : (below : Lists) → PKeeps below below → (n : ℕ) (found : List Chain) (p : Place) (a : List Chain) (q : Place) (r : Text) (fs : Option Text) (b tail : Text) → items_from below n found p ≡ Some (a, q) → Left q r fs b tail → KeptList below found p a r fs b
unfolding items_from
kept_items below k zero found p a q r fs b tail e l = cc
kept_items below k (suc n) found p a q r fs b tail e l = by_lines (newlines p) refl e (λ f y w. kept_items below k n f y a q r fs b tail w l)
  where
    by_closing : (s : Place) → newlines p ≡ Some s → (v : Bool) → closes s.text ≡ v → item_by below n found s v ≡ Some (a, q)
        → ((f : List Chain) (y : Place) → items_from below n f y ≡ Some (a, q) → KeptList below f y a r fs b) → KeptList below found p a r fs b
    by_closing s g true is e rec =
        let w = right_of found a s q e in
        let d = subst (λ y. Left y r fs b tail) (sym w) l in
        let m = kept_all_lines p s r fs b tail g d in
        let some = some_bytes r l.has_stop in
        record {
          front = m.front;
          bodies = m.bodies;
          tail = m.tail;
          left = m.left;
          eats = omega (arith, m.eats);
          same = λ c. elim [
            | zero ↦ λ le. absurd (omega (arith, le, m.eats, some))
            | suc j ↦ λ le. items_step below j found (place m.front m.bodies c) (place r fs c) true (m.same c) (closes_same r c l.has_stop ∙ sym (closes_same r b l.has_stop) ∙ ap closes (sym d.is_text) ∙ is)
                ∙ ap (λ y. Some (y, place r fs c)) (left_of found a s q e)
          ];
        }
    by_closing s g false is e rec =
        let w = both_of (next_item below found s) (items_from below n) (a, q) e in
        let m = rec w.first w.left w.is_second in
        let u = ptakes_next_item below k found s w.first w.left m.front m.bodies b m.tail w.is_first m.left in
        let v = kept_all_lines p s u.front u.bodies b u.tail g u.left in
        record {
          front = v.front;
          bodies = v.bodies;
          tail = v.tail;
          left = v.left;
          eats = omega (arith, m.eats, u.eats, v.eats);
          same = λ c. elim [
            | zero ↦ λ le. absurd (omega (arith, le, u.eats, v.eats))
            | suc j ↦ λ le. items_step below j found (place v.front v.bodies c) (place u.front u.bodies c) false (v.same c) (closes_same u.front c u.left.has_stop ∙ sym (closes_same u.front b u.left.has_stop) ∙ ap closes (sym u.left.is_text) ∙ is)
                ∙ ap (λ y. and_then y (items_from below j)) (u.same c) ∙ m.same c j (omega (arith, le, u.eats, v.eats))
          ];
        }

    by_lines : (o : Option Place) → newlines p ≡ o → items_on below n found o ≡ Some (a, q)
        → ((f : List Chain) (y : Place) → items_from below n f y ≡ Some (a, q) → KeptList below f y a r fs b) → KeptList below found p a r fs b
    by_lines None is e rec = cc
    by_lines (Some s) is e rec = by_closing s is (closes s.text) refl e rec

pkeeps_items_from : (below : Lists) → PKeeps below below → PKeeps (λ p. items_from below (length p.text) [] p) (λ p. items_from below (length p.text) [] p)
pkeeps_items_from below k p a q r fs b tail e l =
    let m = kept_items below k (length p.text) [] p a q r fs b tail e l in
    record { front = m.front; bodies = m.bodies; tail = m.tail; left = m.left; eats = omega (arith, m.eats); same = λ c. m.same c (length (m.front ++ c)) (longer m.front c) }

abbrev not_none : List Chain → Place → Outcome Place (List Chain)
not_none found q = if is_nil found then None else Some (found, q)

pkeeps_not_none : (found : List Chain) → PKeeps (not_none found) (not_none found)
pkeeps_not_none found = pkept_if 0 (λ _. is_nil found) pnever pnever (pure found) (pure found) (λ t b h. refl) (pkept_never 0) (pkeeps_pure found)

pkeeps_items : (below : Lists) → PKeeps below below → PKeeps (items below) (items below)
unfolding items
pkeeps_items below k = pkeeps_then (λ p. items_from below (length p.text) [] p) (λ p. items_from below (length p.text) [] p) not_none not_none (pkeeps_items_from below k) pkeeps_not_none

pub pkeeps_list : (d : ℕ) → PKeeps (list d) (list d)
unfolding list
pkeeps_list zero = pkept_never 0
pkeeps_list (suc d) = pkeeps_items (list d) (pkeeps_list d)
