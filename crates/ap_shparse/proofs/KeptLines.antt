-- Newlines stay when another text follows, and the places behind the bodies below them.
use Rattle.std.proofs.Common.{◌≡◌, ◌∙◌, ◌≤◌, ◌<◌, ◌+◌, ◌-◌, ℕ, zero, suc, [], ◌∷◌, ◌++◌, ◌⊎◌, inl, inr, refl, sym, ap, ap₂, subst, if◌then◌else◌, length, arith, length-append, take, drop, append_assoc, length-drop}
use Rattle.std.specs.Prelude.{Option, Some, None, is_some, option_map}
use Rattle.std.proofs.lemmas.List.{take-append-drop, length-take-le}
use Rattle.std.proofs.Math.Seq.{drop-append_seam}
use Rattle.ap_shparse.specs.Bytes.{Text, past_byte}
use Rattle.ap_shparse.specs.Reads.{Outcome, eaten, if_eaten}
use Rattle.ap_shparse.specs.Places.{Place, at_text, behind, newlines, newlines_by, newlines_from, next_line, no_newline, past_gap, past_newline}
use Rattle.ap_shparse.proofs.Keeps.{Has, eats_byte, inner}
use Rattle.ap_shparse.proofs.KeptRuns.{kept_gap}
use Rattle.ap_shparse.proofs.KeptPieces.{longer, never_some}
use Rattle.ap_shparse.proofs.KeptHere.{NotNil, expect_newline}
use Rattle.ap_shparse.proofs.KeptPlaces.{Left, PKeepsAt, PKept, Some_, place}

longer_than_none : (z : Text) → 1 ≤ length z → NotNil z
longer_than_none [] le = absurd (omega (arith, le))
longer_than_none (c ∷ t) le = tt

-- the bodies are long enough to end in front of b
abbrev pub Fits : Option Text → Text → Type 0
Fits None b = Unit {0}
Fits (Some z) b = 1 + length b ≤ length z

-- the text behind a newline and its bodies: h is passed over
pub record KeptBehind (bs : Option Text) (t r b : Text) : Type 0 where
  pub over : Text
  pub bodies : Option Text
  pub tail : Text
  pub is_text : t ≡ over ++ (r ++ b)
  pub is_bodies : bs ≡ option_map (λ z. z ++ tail) bodies
  pub as_long : length tail ≡ length b
  pub some : Some_ bodies
  pub same : (c : Text) → behind (option_map (λ z. z ++ c) bodies) (over ++ (r ++ c)) ≡ r ++ c

dropped : (n : ℕ) (h t : Text) → n ≡ length h → drop n (h ++ t) ≡ t
dropped n h t e = ap (λ k. drop k (h ++ t)) e ∙ drop-append_seam h t

counted : (lt lz lr lb lc n k m : ℕ) → n ≡ lz - 1 → k ≡ lt - n → m ≡ lz - lb → 1 + lb ≤ lz → lr + lb ≡ lt - k → k + (lr + lc) - (m + lc - 1) ≡ k
counted lt lz lr lb lc n k m en ek em le el = omega (arith, en, ek, em, le, el)

pub kept_behind : (bs : Option Text) (t r b : Text) → behind bs t ≡ r ++ b → Fits bs b → KeptBehind bs t r b
kept_behind None t r b e f = record { over = []; bodies = None; tail = b; is_text = e; is_bodies = refl; as_long = refl; some = tt; same = λ c. refl }
kept_behind (Some z) t r b e f =
    let n = length z - 1 in
    let k = length t - n in
    let m = length z - length b in
    let lk : length (take k t) ≡ k = length-take-le k t (omega arith) in
    let lm : length (take m z) ≡ m = length-take-le m z (omega arith) in
    let ld : length (drop m z) ≡ length z - m = length-drop m z in
    let le : length r + length b ≡ length t - k = sym (length-append r b) ∙ ap length (sym e) ∙ length-drop k t in
    record {
      over = take k t;
      bodies = Some (take m z);
      tail = drop m z;
      is_text = sym (take-append-drop k t) ∙ ap (λ y. take k t ++ y) e;
      is_bodies = ap (λ y. Some y) (sym (take-append-drop m z));
      as_long = ld ∙ omega (arith, f);
      some = longer_than_none (take m z) (omega (arith, lm, f));
      same = λ c. dropped (length (take k t ++ (r ++ c)) - (length (take m z ++ c) - 1)) (take k t) (r ++ c)
          (ap₂ (λ x y. x - (y - 1)) (length-append (take k t) (r ++ c) ∙ ap₂ (λ x y. x + y) lk (length-append r c)) (length-append (take m z) c ∙ ap (λ x. x + length c) lm)
          ∙ counted (length t) (length z) (length r) (length b) (length c) n k m refl refl refl f le ∙ sym lk);
    }

-- where something is left behind, the bodies are long enough
pub fits : (bs : Option Text) (t u b : Text) → behind bs t ≡ u → length b < length u ⊎ (1 ≤ length b) × (length b ≤ length u) → Fits bs b
fits None t u b e h = tt
fits (Some z) t u b e h =
    let l : length u ≡ length t - (length t - (length z - 1)) = ap length (sym e) ∙ length-drop (length t - (length z - 1)) t in
    elim h [ inl x ↦ omega (arith, l, x) | inr x ↦ omega (arith, l, x.0, x.1) ]

pub has_some : (r b : Text) → Has r → length b < length (r ++ b)
has_some [] b h = absurd h
has_some (c ∷ r) b h = omega (arith, length-append r b)

-- ---- a newline

pub record PKeptPast (n : ℕ) (E : Place → Option Place) (p : Place) (r : Text) (fs : Option Text) (b : Text) : Type 0 where
  pub front : Text
  pub bodies : Option Text
  pub tail : Text
  pub left : Left p front bodies b tail
  pub eats : n + length r ≤ length front
  pub same : (c : Text) → E (place front bodies c) ≡ Some (place r fs c)

past_ten : (t u : Text) → past_byte 10 t ≡ Some u → t ≡ 10 ∷ u
past_ten t u e = expect_newline t u tt (ap eaten e)

some_line : (p q : Place) (t : Text) → past_byte 10 p.text ≡ Some t → past_newline p ≡ Some q → next_line p t ≡ q
some_line p q t is e = inner (next_line p t) q (sym (ap (λ o. if_eaten o (λ u. Some (next_line p u)) None) is) ∙ e)

pub record AtNewline (p q : Place) : Type 0 where
  pub rest : Text
  pub is_text : p.text ≡ 10 ∷ rest
  pub is_next : next_line p rest ≡ q

pub at_newline : (p q : Place) → past_newline p ≡ Some q → AtNewline p q
at_newline p q e = by_byte (past_byte 10 p.text) refl
  where
    by_byte : (o : Option Text) → past_byte 10 p.text ≡ o → AtNewline p q
    by_byte None is = absurd (never_some (sym (ap (λ o. if_eaten o (λ u. Some (next_line p u)) None) is) ∙ e))
    by_byte (Some t) is = record { rest = t; is_text = past_ten p.text t is; is_next = some_line p q t is e }

-- the bodies end where q begins: what is left of it, and what it is left behind
pub kept_newline : (p q : Place) (r b : Text) → past_newline p ≡ Some q → q.text ≡ r ++ b → Fits p.bodies b → PKeptPast 1 past_newline p r None b
kept_newline p q r b e is f =
    let a = at_newline p q e in
    let m = kept_behind p.bodies a.rest r b (ap (λ y. y.text) a.is_next ∙ is) f in
    record {
      front = 10 ∷ (m.over ++ r);
      bodies = m.bodies;
      tail = m.tail;
      left = record { is_text = a.is_text ∙ ap (λ y. 10 ∷ y) (m.is_text ∙ sym (append_assoc m.over r b)); is_bodies = m.is_bodies; as_long = m.as_long; has_stop = inl refl; some = m.some };
      eats = omega (arith, length-append m.over r);
      same = λ c. ap (λ y. Some (lined y)) (ap (behind (option_map (λ z. z ++ c) m.bodies)) (append_assoc m.over r c) ∙ m.same c);
    }
  where
    lined : Text → Place
    lined t = record { text = t; bodies = None }

no_line : (t : Text) (fs : Option Text) (b c : Text) (q : Place) → q.text ≡ t ++ b → past_newline q ≡ None → Has t → past_newline (place t fs c) ≡ None
no_line t fs b c q is e h = ap (λ o. if_eaten o (λ u. Some (next_line (place t fs c) u)) None) ((eats_byte 10).none t b c (sym (ap (past_byte 10) is) ∙ none_there (past_byte 10 q.text) e) h)
  where
    none_there : (o : Option Text) → if_eaten o (λ u. Some (next_line q u)) None ≡ None → o ≡ None
    none_there None e = refl
    none_there (Some u) e = cc

-- ---- blanks, comments and newlines

pub record KeptLines (n : ℕ) (p : Place) (r : Text) (fs : Option Text) (b : Text) : Type 0 where
  pub front : Text
  pub bodies : Option Text
  pub tail : Text
  pub left : Left p front bodies b tail
  pub eats : length r ≤ length front
  pub same : (c : Text) (m : ℕ) → length front ≤ m → newlines_from m (place front bodies c) ≡ Some (place r fs c)

pub stays : (m : ℕ) (p q : Place) → past_gap p ≡ q → past_newline q ≡ None → newlines_from m p ≡ Some q
unfolding newlines_from
stays zero p q g e = ap no_newline g ∙ ap (λ o. if is_some o then None else Some q) e
stays (suc m) p q g e = ap (newlines_by (newlines_from m)) g ∙ ap (λ o. if_eaten o (newlines_from m) (Some q)) e

pub goes_on : (m : ℕ) (p g q : Place) → past_gap p ≡ g → past_newline g ≡ Some q → newlines_from (suc m) p ≡ newlines_from m q
unfolding newlines_from
goes_on m p g q is e = ap (newlines_by (newlines_from m)) is ∙ ap (λ o. if_eaten o (newlines_from m) (Some g)) e

at_once : (n : ℕ) (p q : Place) (r : Text) (fs : Option Text) (b tail : Text) → past_gap p ≡ q → past_newline q ≡ None → Left q r fs b tail → KeptLines n p r fs b
at_once n p q r fs b tail g e l =
    let m = kept_gap p.text r b (ap (λ y. y.text) g ∙ l.is_text) l.has_stop in
    record {
      front = m.front;
      bodies = fs;
      tail = tail;
      left = record { is_text = m.spelling; is_bodies = ap (λ y. y.bodies) g ∙ l.is_bodies; as_long = l.as_long; has_stop = m.has_stop; some = l.some };
      eats = m.eats;
      same = λ c k le. stays k (place m.front fs c) (place r fs c) (ap (λ y. at_text (place m.front fs c) y) (m.same c)) (no_line r fs b c q l.is_text e l.has_stop);
    }

pub kept_lines : (n : ℕ) (p q : Place) (r : Text) (fs : Option Text) (b tail : Text) → newlines_from n p ≡ Some q → Left q r fs b tail → KeptLines n p r fs b
unfolding newlines_from
kept_lines zero p q r fs b tail e l = by_newline (past_newline (past_gap p)) refl e
  where
    by_newline : (o : Option Place) → past_newline (past_gap p) ≡ o → (if is_some o then None else Some (past_gap p)) ≡ Some q → KeptLines zero p r fs b
    by_newline None is e = at_once zero p q r fs b tail (inner (past_gap p) q e) (ap past_newline (sym (inner (past_gap p) q e)) ∙ is) l
    by_newline (Some s) is e = cc
kept_lines (suc n) p q r fs b tail e l = by_newline (past_newline (past_gap p)) refl e (λ s w. kept_lines n s q r fs b tail w l)
  where
    by_newline : (o : Option Place) → past_newline (past_gap p) ≡ o → if_eaten o (newlines_from n) (Some (past_gap p)) ≡ Some q → ((s : Place) → newlines_from n s ≡ Some q → KeptLines n s r fs b) → KeptLines (suc n) p r fs b
    by_newline None is e rec = at_once (suc n) p q r fs b tail (inner (past_gap p) q e) (ap past_newline (sym (inner (past_gap p) q e)) ∙ is) l
    by_newline (Some s) is e rec =
        let k = rec s e in
        let a = at_newline (past_gap p) s is in
        let none = ap (λ y. y.bodies) (sym a.is_next) ∙ refl in
        by_bodies k.front k.bodies k.tail k.left k.eats k.same
      where
        by_bodies : (front : Text) (bodies : Option Text) (tail : Text) → Left s front bodies b tail → length r ≤ length front
            → ((c : Text) (m : ℕ) → length front ≤ m → newlines_from m (place front bodies c) ≡ Some (place r fs c)) → KeptLines (suc n) p r fs b
        by_bodies front (Some z) tail k le same = absurd (no_bodies (ap (λ y. y.bodies) (at_newline (past_gap p) s is).is_next ∙ k.is_bodies))
          where
            no_bodies : None ≡ Some (z ++ tail) → ⊥
            no_bodies e = cc
        by_bodies front None tail k le same =
            let f = fits (past_gap p).bodies (at_newline (past_gap p) s is).rest s.text b (ap (λ y. y.text) (at_newline (past_gap p) s is).is_next)
            (inl (subst (λ y. length b < length y) (sym k.is_text) (has_some front b k.has_stop))) in
            let m = kept_newline (past_gap p) s front b is k.is_text f in
            let g = kept_gap p.text m.front b m.left.is_text m.left.has_stop in
            record {
              front = g.front;
              bodies = m.bodies;
              tail = m.tail;
              left = record { is_text = g.spelling; is_bodies = m.left.is_bodies; as_long = m.left.as_long; has_stop = g.has_stop; some = m.left.some };
              eats = omega (arith, g.eats, m.eats, le);
              same = λ c. elim [
                | zero ↦ λ j. absurd (omega (arith, g.eats, m.eats, j))
                | suc i ↦ λ j. goes_on i (place g.front m.bodies c) (place m.front m.bodies c) (place front None c) (ap (λ y. at_text (place g.front m.bodies c) y) (g.same c)) (m.same c) ∙ same c i (omega (arith, g.eats, m.eats, j))
              ];
            }

pub kept_all_lines : (p q : Place) (r : Text) (fs : Option Text) (b tail : Text) → newlines p ≡ Some q → Left q r fs b tail → PKeptPast 0 newlines p r fs b
unfolding newlines
kept_all_lines p q r fs b tail e l =
    let k = kept_lines (length p.text) p q r fs b tail e l in
    record { front = k.front; bodies = k.bodies; tail = k.tail; left = k.left; eats = omega (arith, k.eats); same = λ c. k.same c (length (k.front ++ c)) (longer k.front c) }

-- what is read behind newlines
pub pkept_newlines : {A : Type 0} (n : ℕ) (f f' : Place → Outcome Place A) → PKeepsAt n f f' → PKeepsAt n (λ p. if_eaten (newlines p) f None) (λ p. if_eaten (newlines p) f' None)
pkept_newlines n f f' k p a q r fs b tail e l = by_lines (newlines p) refl e
  where
    by_lines : (o : Option Place) → newlines p ≡ o → if_eaten o f None ≡ Some (a, q) → PKept n (λ u. if_eaten (newlines u) f' None) p a r fs b
    by_lines None is e = cc
    by_lines (Some s) is e =
        let m = k s a q r fs b tail e l in
        let w = kept_all_lines p s m.front m.bodies b m.tail is m.left in
        record {
          front = w.front;
          bodies = w.bodies;
          tail = w.tail;
          left = w.left;
          eats = omega (arith, w.eats, m.eats);
          same = λ c. ap (λ o. if_eaten o f' None) (w.same c) ∙ m.same c;
        }
