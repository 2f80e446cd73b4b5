-- What is read at a place stays read when another text follows.
use Rattle.std.proofs.Common.{◌≡◌, ◌∙◌, ◌≤◌, ◌+◌, ℕ, ◌++◌, refl, sym, ap, subst, Bool, true, false, if◌then◌else◌, length, arith}
use Rattle.std.specs.Prelude.{Option, Some, None, option_map}
use Rattle.ap_shparse.specs.Bytes.{Text}
use Rattle.ap_shparse.specs.Reads.{Outcome, and_then, if_eaten, pure}
use Rattle.ap_shparse.specs.Places.{Place, at_text, lift}
use Rattle.ap_shparse.proofs.Keeps.{Eating, Has, IsTest, KeepsAt, both_of, left_of, right_of}
use Rattle.ap_shparse.proofs.KeptHere.{NotNil}

-- a place, with this text behind
abbrev pub place : Text → Option Text → Text → Place
place t bs c = record { text = t ++ c; bodies = option_map (λ z. z ++ c) bs }

abbrev pub Some_ : Option Text → Type 0
Some_ None = Unit {0}
Some_ (Some z) = NotNil z

-- where a reading went: r is left before b, and the bodies end before as many bytes
pub record Left (q : Place) (r : Text) (fs : Option Text) (b tail : Text) : Type 0 where
  pub is_text : q.text ≡ r ++ b
  pub is_bodies : q.bodies ≡ option_map (λ z. z ++ tail) fs
  pub as_long : length tail ≡ length b
  pub has_stop : Has r
  pub some : Some_ fs

pub record PKept {A : Type 0} (n : ℕ) (P : Place → Outcome Place A) (p : Place) (a : A) (r : Text) (fs : Option Text) (b : Text) : Type 0 where
  pub front : Text
  pub bodies : Option Text
  pub tail : Text
  pub left : Left p front bodies b tail
  pub eats : n + length r ≤ length front
  pub same : (c : Text) → P (place front bodies c) ≡ Some (a, place r fs c)

abbrev pub PKeepsAt : {A : Type 0} → ℕ → (Place → Outcome Place A) → (Place → Outcome Place A) → Type 0
PKeepsAt {A} n P P' = (p : Place) (a : A) (q : Place) (r : Text) (fs : Option Text) (b tail : Text) → P p ≡ Some (a, q) → Left q r fs b tail → PKept n P' p a r fs b

abbrev pub PKeeps : {A : Type 0} → (Place → Outcome Place A) → (Place → Outcome Place A) → Type 0
PKeeps P P' = PKeepsAt 0 P P'

abbrev pub PTakes : {A : Type 0} → (Place → Outcome Place A) → (Place → Outcome Place A) → Type 0
PTakes P P' = PKeepsAt 1 P P'

pub pkeeps_takes : {A : Type 0} (P P' : Place → Outcome Place A) → PTakes P P' → PKeeps P P'
pkeeps_takes P P' k p a q r fs b tail e l =
    let m = k p a q r fs b tail e l in
    record { front = m.front; bodies = m.bodies; tail = m.tail; left = m.left; eats = omega (arith, m.eats); same = m.same }

-- ---- combinators

pub pkept_then : {A B : Type 0} (n m : ℕ) (P P' : Place → Outcome Place A) (f f' : A → Place → Outcome Place B) → PKeepsAt n P P' → ((a : A) → PKeepsAt m (f a) (f' a)) → PKeepsAt (n + m) (λ t. and_then (P t) f) (λ t. and_then (P' t) f')
pkept_then n m P P' f f' kp kf p x q r fs b tail e l =
    let w = both_of (P p) f (x, q) e in
    let k = kf w.first w.left x q r fs b tail w.is_second l in
    let j = kp p w.first w.left k.front k.bodies b k.tail w.is_first k.left in
    record { front = j.front; bodies = j.bodies; tail = j.tail; left = j.left; eats = omega (arith, j.eats, k.eats); same = λ c. ap (λ o. and_then o f') (j.same c) ∙ k.same c }

pub pkeeps_then : {A B : Type 0} (P P' : Place → Outcome Place A) (f f' : A → Place → Outcome Place B) → PKeeps P P' → ((a : A) → PKeeps (f a) (f' a)) → PKeeps (λ t. and_then (P t) f) (λ t. and_then (P' t) f')
pkeeps_then P P' f f' kp kf = pkept_then 0 0 P P' f f' kp kf

pub ptakes_then : {A B : Type 0} (P P' : Place → Outcome Place A) (f f' : A → Place → Outcome Place B) → PTakes P P' → ((a : A) → PKeeps (f a) (f' a)) → PTakes (λ t. and_then (P t) f) (λ t. and_then (P' t) f')
ptakes_then P P' f f' kp kf = pkept_then 1 0 P P' f f' kp kf

pub pthen_takes : {A B : Type 0} (P P' : Place → Outcome Place A) (f f' : A → Place → Outcome Place B) → PKeeps P P' → ((a : A) → PTakes (f a) (f' a)) → PTakes (λ t. and_then (P t) f) (λ t. and_then (P' t) f')
pthen_takes P P' f f' kp kf = pkept_then 0 1 P P' f f' kp kf

pub pkeeps_pure : {A : Type 0} (a : A) → PKeeps (pure a) (pure a)
pkeeps_pure a p x q r fs b tail e l =
    let s = right_of a x p q e in
    record { front = r; bodies = fs; tail = tail; left = subst (λ y. Left y r fs b tail) (sym s) l; eats = omega arith; same = λ c. ap (λ y. Some (y, place r fs c)) (left_of a x p q e) }

abbrev pub pnever : {A : Type 0} → Place → Outcome Place A
pnever p = None

pub pkept_never : {A : Type 0} (n : ℕ) → PKeepsAt n (pnever {A = A}) (pnever {A = A})
pkept_never n p a q r fs b tail e l = cc

-- a part that has no here-document
pub pkept_lift : {A : Type 0} (n : ℕ) (f f' : Text → Outcome Text A) → KeepsAt n f f' → PKeepsAt n (lift f) (lift f')
pkept_lift n f f' k p a q r fs b tail e l =
    let w = both_of (f p.text) (λ x t. Some (x, at_text p t)) (a, q) e in
    let s = right_of w.first a (at_text p w.left) q w.is_second in
    let m = k p.text w.first r b (w.is_first ∙ ap (λ y. Some (w.first, y)) (ap (λ y. y.text) s ∙ l.is_text)) l.has_stop in
    record {
      front = m.front;
      bodies = fs;
      tail = tail;
      left = record { is_text = m.spelling; is_bodies = ap (λ y. y.bodies) s ∙ l.is_bodies; as_long = l.as_long; has_stop = m.has_stop; some = l.some };
      eats = m.eats;
      same = λ c. ap (λ o. and_then o (λ x t. Some (x, at_text (place m.front fs c) t))) (m.same c) ∙ ap (λ y. Some (y, place r fs c)) (left_of w.first a (at_text p w.left) q w.is_second);
    }

pub pkept_if : {A : Type 0} (n : ℕ) (q : Text → Bool) (P P' Q Q' : Place → Outcome Place A) → IsTest q → PKeepsAt n P P' → PKeepsAt n Q Q'
    → PKeepsAt n (λ p. if q p.text then P p else Q p) (λ p. if q p.text then P' p else Q' p)
pkept_if n q P P' Q Q' same kp kq p a z r fs b tail e l = by_test (q p.text) refl e
  where
    by_test : (v : Bool) → q p.text ≡ v → (if v then P p else Q p) ≡ Some (a, z) → PKept n (λ u. if q u.text then P' u else Q' u) p a r fs b
    by_test true is e =
        let k = kp p a z r fs b tail e l in
        record {
          front = k.front;
          bodies = k.bodies;
          tail = k.tail;
          left = k.left;
          eats = k.eats;
          same = λ c. ap (λ v. if v then P' (place k.front k.bodies c) else Q' (place k.front k.bodies c)) (same k.front c k.left.has_stop ∙ sym (same k.front b k.left.has_stop) ∙ ap q (sym k.left.is_text) ∙ is) ∙ k.same c;
        }
    by_test false is e =
        let k = kq p a z r fs b tail e l in
        record {
          front = k.front;
          bodies = k.bodies;
          tail = k.tail;
          left = k.left;
          eats = k.eats;
          same = λ c. ap (λ v. if v then P' (place k.front k.bodies c) else Q' (place k.front k.bodies c)) (same k.front c k.left.has_stop ∙ sym (same k.front b k.left.has_stop) ∙ ap q (sym k.left.is_text) ∙ is) ∙ k.same c;
        }

-- something that is eaten of the text
pub pkept_if_eaten : {A : Type 0} (l n m o : ℕ) → l ≤ n + m → l ≤ o → (E : Text → Option Text) (f f' g g' : Place → Outcome Place A) → Eating n E → PKeepsAt m f f' → PKeepsAt o g g'
    → PKeepsAt l (λ p. if_eaten (E p.text) (λ t. f (at_text p t)) (g p)) (λ p. if_eaten (E p.text) (λ t. f' (at_text p t)) (g' p))
pkept_if_eaten l n m o le lo E f f' g g' k kf kg p a z r fs b tail e d = by_eaten (E p.text) refl e
  where
    by_eaten : (w : Option Text) → E p.text ≡ w → if_eaten w (λ t. f (at_text p t)) (g p) ≡ Some (a, z) → PKept l (λ u. if_eaten (E u.text) (λ t. f' (at_text u t)) (g' u)) p a r fs b
    by_eaten None is e =
        let j = kg p a z r fs b tail e d in
        record {
          front = j.front;
          bodies = j.bodies;
          tail = j.tail;
          left = j.left;
          eats = omega (arith, j.eats, lo);
          same = λ c. ap (λ w. if_eaten w (λ t. f' (at_text (place j.front j.bodies c) t)) (g' (place j.front j.bodies c))) (k.none j.front b c (ap E (sym j.left.is_text) ∙ is) j.left.has_stop) ∙ j.same c;
        }
    by_eaten (Some u) is e =
        let j = kf (at_text p u) a z r fs b tail e d in
        let w = k.past p.text j.front b (is ∙ ap (λ v. Some v) j.left.is_text) j.left.has_stop in
        record {
          front = w.front;
          bodies = j.bodies;
          tail = j.tail;
          left = record { is_text = w.spelling; is_bodies = j.left.is_bodies; as_long = j.left.as_long; has_stop = w.has_stop; some = j.left.some };
          eats = omega (arith, j.eats, w.eats, le);
          same = λ c. ap (λ x. if_eaten x (λ t. f' (at_text (place w.front j.bodies c) t)) (g' (place w.front j.bodies c))) (w.same c) ∙ j.same c;
        }
