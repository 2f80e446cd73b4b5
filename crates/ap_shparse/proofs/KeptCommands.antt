-- Simple commands stay when another text follows.
use Rattle.std.proofs.Common.{◌≡◌, ◌∙◌, ◌≤◌, ◌+◌, ℕ, zero, suc, List, [], ◌∷◌, ◌++◌, ◌⊎◌, inl, inr, refl, sym, ap, ap₂, subst, Bool, true, false, if◌then◌else◌, ◌||◌, ◌&&◌, ◌==◌, not, length, arith, length-append}
use Rattle.std.specs.Prelude.{Option, Some, None, is_some, option_map, codes}
use Rattle.ap_shparse.specs.Bytes.{Text, after, ends_word, past, run}
use Rattle.ap_shparse.specs.Reads.{Outcome, and_then, pure}
use Rattle.ap_shparse.specs.Pieces.{expect}
use Rattle.ap_shparse.specs.Places.{Place, args, at_text, body, body_of, delimiter, here, here_at, lift, line, or_line, waits}
use Rattle.ap_shparse.specs.Words.{assignment, is_assignment, plain_word}
use Rattle.ap_shparse.specs.Redirects.{both, here_target, next_operator, number, read, redirects, same, target_of, write}
use Rattle.ap_shparse.specs.Commands.{alone, assigned, called, calls_at, element, elements, ends_command, is_empty, is_here, is_keyword, is_left_out, is_loop, is_nil, is_reserved, next_word, no_elements, no_substitution, past_blanks, redirection, sees, simple, substitution, targeted, with_args, with_redirection, with_word}
use Rattle.ap_shparse.specs.declared.class.Class.TheVariants.{Blank, Digit}
use Rattle.ap_shparse.specs.declared.elements.Calls.{Calls}
use Rattle.ap_shparse.specs.declared.elements.Calls.TheVariants as calls
use Rattle.ap_shparse.specs.declared.elements.Called.{Called}
use Rattle.ap_shparse.specs.declared.elements.Elements.{Elements}
use Rattle.ap_shparse.specs.declared.redirect.Operator.{Operator}
use Rattle.ap_shparse.specs.declared.redirect.Operator.TheVariants as op
use Rattle.ap_shparse.specs.declared.tree.Simple.{Simple}
use Rattle.ap_shparse.specs.declared.tree.Target.TheVariants as target
use Rattle.ap_shparse.proofs.Keeps.{Has, IsTest, Lacks, is_same, is_stop, keeps_pure, keeps_then, Kept, KeepsAt, Keeps, both_of, ends_word_same, inner, left_of, right_of}
use Rattle.ap_shparse.proofs.KeptRuns.{keeps_taking, taking}
use Rattle.ap_shparse.proofs.KeptPieces.{keeps_expect, longer}
use Rattle.ap_shparse.proofs.KeptWords.{begins_with_same, eats_args, is_assignment_same, keeps_both, keeps_read, keeps_same, keeps_write, redirects_same, takes_assignment, takes_operator, takes_word}
use Rattle.ap_shparse.proofs.KeptHere.{NotNil, keeps_delimiter, keeps_line, whole_body}
use Rattle.ap_shparse.proofs.KeptPlaces.{Left, PKeeps, PKeepsAt, PTakes, Some_, pkeeps_pure, pkeeps_then, pkept_then, pkept_if, pkept_if_eaten, pkept_lift, pkept_never, place, pnever}

abbrev pub Subs : (Text → Outcome Text Simple) → Type 0
Subs sub = Keeps sub sub

-- ---- here-documents

pub record Split (r s b c : Text) : Type 0 where
  pub front : r ≡ s
  pub back : b ≡ c

pub same_split : (r s b c : Text) → r ++ b ≡ s ++ c → length c ≡ length b → Split r s b c
same_split [] [] b c e l = record { front = refl; back = e }
same_split [] (y ∷ s) b c e l = absurd (omega (arith, length-append s c, ap length e, l))
same_split (x ∷ r) [] b c e l = absurd (omega (arith, length-append r b, ap length e, l))
same_split (x ∷ r) (y ∷ s) b c e l =
    let hd : x ≡ y = cc in
    let tl : r ++ b ≡ s ++ c = cc in
    let k = same_split r s b c tl l in
    record { front = ap₂ (λ u v. u ∷ v) hd k.front; back = k.back }

-- where the body is looked for
record KeptStart (sub : Text → Outcome Text Simple) (bs : Option Text) (r b start : Text) : Type 0 where
  pub bodies : Option Text
  pub tail : Text
  pub is_bodies : bs ≡ option_map (λ z. z ++ tail) bodies
  pub as_long : length tail ≡ length b
  pub some : Some_ bodies
  pub same : (c : Text) → or_line sub (r ++ c) (option_map (λ z. z ++ c) bodies) ≡ Some (tt, start ++ c)

kept_start : (sub : Text → Outcome Text Simple) → Subs sub → (t : Text) (bs : Option Text) (r b start tail : Text) (a : Unit {0}) → t ≡ r ++ b → or_line sub t bs ≡ Some (a, start ++ tail) → NotNil start → length tail ≡ length b → KeptStart sub bs r b start
kept_start sub k t None r b start tail a is e g l =
    let m = keeps_line sub k t a start tail e g in
    let s = same_split r m.front b tail (sym is ∙ m.spelling) l in
    record { bodies = None; tail = b; is_bodies = refl; as_long = refl; some = tt; same = λ c. ap (λ y. line sub (y ++ c)) s.front ∙ m.same c }
kept_start sub k t (Some z) r b start tail a is e g l =
    let q = right_of tt a z (start ++ tail) e in
    record { bodies = Some start; tail = tail; is_bodies = ap (λ y. Some y) q; as_long = l; some = g; same = λ c. refl }

pkeeps_here : (sub : Text → Outcome Text Simple) → Subs sub → PKeeps (here sub) (here sub)
unfolding here
pkeeps_here sub k p a q r None b tail e l =
    let w = both_of (delimiter p.text) (body_of sub p.bodies) (a, q) e in
    let v = both_of (or_line sub w.left p.bodies) (λ _ u. and_then (body w.first u) (λ f z. Some (f, here_at w.left z))) (a, q) w.is_second in
    let y = both_of (body w.first v.left) (λ f z. Some (f, here_at w.left z)) (a, q) v.is_second in
    absurd (no_bodies y.left (ap (λ u. u.bodies) (right_of y.first a (here_at w.left y.left) q y.is_second) ∙ l.is_bodies))
  where
    no_bodies : (z : Text) → Some z ≡ None → ⊥
    no_bodies z e = cc
pkeeps_here sub k p a q r (Some s) b tail e l =
    let w = both_of (delimiter p.text) (body_of sub p.bodies) (a, q) e in
    let v = both_of (or_line sub w.left p.bodies) (λ _ u. and_then (body w.first u) (λ f z. Some (f, here_at w.left z))) (a, q) w.is_second in
    let y = both_of (body w.first v.left) (λ f z. Some (f, here_at w.left z)) (a, q) v.is_second in
    let x = right_of y.first a (here_at w.left y.left) q y.is_second in
    let t = ap (λ u. u.text) x ∙ l.is_text in
    let z = inner y.left (s ++ tail) (ap (λ u. u.bodies) x ∙ l.is_bodies) in
    let m = whole_body w.first v.left y.first s tail (y.is_first ∙ ap (λ u. Some (y.first, u)) z) l.some in
    let d = kept_start sub k w.left p.bodies r b m.front tail v.first t (v.is_first ∙ ap (λ u. Some (v.first, u)) m.spelling) m.some l.as_long in
    let o = keeps_delimiter p.text w.first r b (w.is_first ∙ ap (λ u. Some (w.first, u)) t) l.has_stop in
    record {
      front = o.front;
      bodies = d.bodies;
      tail = d.tail;
      left = record { is_text = o.spelling; is_bodies = d.is_bodies; as_long = d.as_long; has_stop = o.has_stop; some = d.some };
      eats = o.eats;
      same = λ c. ap (λ u. and_then u (body_of sub (option_map (λ j. j ++ c) d.bodies))) (o.same c)
          ∙ ap (λ u. and_then u (λ _ j. and_then (body w.first j) (λ f i. Some (f, here_at (r ++ c) i)))) (d.same c)
          ∙ ap (λ u. and_then u (λ f i. Some (f, here_at (r ++ c) i))) (m.same c)
          ∙ ap (λ u. Some (u, place r (Some s) c)) (left_of y.first a (here_at w.left y.left) q y.is_second);
    }

-- ---- what follows an operator

pub pkept_same : {A : Type 0} (n : ℕ) (P P' Q Q' : Place → Outcome Place A) → ((p : Place) → Q p ≡ P p) → ((p : Place) → Q' p ≡ P' p) → PKeepsAt n P P' → PKeepsAt n Q Q'
pkept_same n P P' Q Q' is is' k p a q r fs b tail e l =
    let m = k p a q r fs b tail (sym (is p) ∙ e) l in
    record { front = m.front; bodies = m.bodies; tail = m.tail; left = m.left; eats = m.eats; same = λ c. is' (place m.front m.bodies c) ∙ m.same c }

pub then_then : {S T U A B C : Type 0} (o : Outcome S A) (f : A → S → Outcome T B) (g : B → T → Outcome U C) → and_then (and_then o f) g ≡ and_then o (λ a s. and_then (f a s) g)
then_then None f g = refl
then_then (Some p) f g = refl

-- a part of the text, and then the place behind it
pub pkept_lifted : {A B : Type 0} (n m : ℕ) (f f' : Text → Outcome Text A) (g g' : A → Place → Outcome Place B) → KeepsAt n f f' → ((a : A) → PKeepsAt m (g a) (g' a))
    → PKeepsAt (n + m) (λ p. and_then (f p.text) (λ a t. g a (at_text p t))) (λ p. and_then (f' p.text) (λ a t. g' a (at_text p t)))
pkept_lifted n m f f' g g' k kg =
    pkept_same (n + m) (λ p. and_then (lift f p) g) (λ p. and_then (lift f' p) g') _ _
    (λ p. sym (then_then (f p.text) (λ a t. Some (a, at_text p t)) g)) (λ p. sym (then_then (f' p.text) (λ a t. Some (a, at_text p t)) g'))
    (pkept_then n m (lift f) (lift f') g g' (pkept_lift n f f' k) kg)

-- something that the text in front decides
pub pkept_by : {V A : Type 0} (n : ℕ) (v : Text → V) (P P' : V → Place → Outcome Place A) → ((t b : Text) → Has t → v (t ++ b) ≡ v t) → ((x : V) → PKeepsAt n (P x) (P' x)) → PKeepsAt n (λ p. P (v p.text) p) (λ p. P' (v p.text) p)
pkept_by n v P P' same k p a q r fs b tail e l =
    let m = k (v p.text) p a q r fs b tail e l in
    record {
      front = m.front;
      bodies = m.bodies;
      tail = m.tail;
      left = m.left;
      eats = m.eats;
      same = λ c. ap (λ x. P' x (place m.front m.bodies c)) (same m.front c m.left.has_stop ∙ sym (same m.front b m.left.has_stop) ∙ ap v (sym m.left.is_text)) ∙ m.same c;
    }

pkeeps_here_target : (sub : Text → Outcome Text Simple) → Subs sub → PKeeps (here_target sub) (here_target sub)
pkeeps_here_target sub k = pkept_lifted 0 0 (taking Blank) (taking Blank) (λ _ p. and_then (here sub p) (λ d. pure (target.Here d))) (λ _ p. and_then (here sub p) (λ d. pure (target.Here d))) (keeps_taking Blank)
    (λ _. pkeeps_then (here sub) (here sub) (λ d. pure (target.Here d)) (λ d. pure (target.Here d)) (pkeeps_here sub k) (λ d. pkeeps_pure (target.Here d)))

pkeeps_target : (sub : Text → Outcome Text Simple) → Subs sub → (o : Operator) → PKeeps (target_of sub o) (target_of sub o)
unfolding target_of
pkeeps_target sub k op.Same = pkept_lift 0 same same keeps_same
pkeeps_target sub k op.Write = pkept_lift 0 (write sub) (write sub) (keeps_write sub k)
pkeeps_target sub k op.Here = pkeeps_here_target sub k
pkeeps_target sub k op.Both = pkept_lift 0 (both sub) (both sub) (keeps_both sub k)
pkeeps_target sub k op.Read = pkept_lift 0 (read sub) (read sub) (keeps_read sub k)

pkeeps_targeted : (sub : Text → Outcome Text Simple) → Subs sub → (e : Elements) (o : Operator) (n : Option ℕ) → PKeeps (targeted sub e o n) (targeted sub e o n)
pkeeps_targeted sub k e o None = pkept_never 0
pkeeps_targeted sub k e o (Some n) = pkeeps_then (target_of sub o) (target_of sub o) (λ to. pure (with_redirection e o n to)) (λ to. pure (with_redirection e o n to)) (pkeeps_target sub k o) (λ to. pkeeps_pure (with_redirection e o n to))

abbrev one_here : (Text → Outcome Text Simple) → Elements → Text → Operator → Place → Outcome Place Elements
one_here sub e ds o p = if e.here && is_here o then None else targeted sub e o (number o ds) p

pkeeps_one_here : (sub : Text → Outcome Text Simple) → Subs sub → (e : Elements) (ds : Text) (o : Operator) → PKeeps (one_here sub e ds o) (one_here sub e ds o)
pkeeps_one_here sub k e ds o = pkept_if 0 (λ _. e.here && is_here o) pnever pnever (targeted sub e o (number o ds)) (targeted sub e o (number o ds)) (λ t b h. refl) (pkept_never 0) (pkeeps_targeted sub k e o (number o ds))

ptakes_redirection : (sub : Text → Outcome Text Simple) → Subs sub → (e : Elements) → PTakes (redirection sub e) (redirection sub e)
unfolding redirection
ptakes_redirection sub k e = pkept_lifted 0 1 (taking Digit) (taking Digit)
    (λ ds p. and_then (next_operator p.text) (λ o t. one_here sub e ds o (at_text p t))) (λ ds p. and_then (next_operator p.text) (λ o t. one_here sub e ds o (at_text p t))) (keeps_taking Digit)
    (λ ds. pkept_lifted 1 0 next_operator next_operator (one_here sub e ds) (one_here sub e ds) takes_operator (pkeeps_one_here sub k e ds))

ptakes_assigned : (sub : Text → Outcome Text Simple) → Subs sub → (e : Elements) → PTakes (assigned sub e) (assigned sub e)
unfolding assigned
ptakes_assigned sub k e = pkept_lifted 1 0 (assignment sub) (assignment sub) (λ a. pure (record e { assigns = e.assigns ++ a ∷ [] })) (λ a. pure (record e { assigns = e.assigns ++ a ∷ [] })) (takes_assignment sub k)
    (λ a. pkeeps_pure (record e { assigns = e.assigns ++ a ∷ [] }))

-- ---- words of commands

true_no : true ≡ false → ⊥
true_no e = cc

abbrev seen_on : Bool → List ℕ → Text → Bool
seen_on v ks t = is_some (if v then past ks t else None)

-- a word without stops is there or not
pub sees_same : (w : List ℕ) → Lacks w → IsTest (sees w)
sees_same [] lacks t b h = by_end (ends_word t) refl
  where
    by_end : (v : Bool) → ends_word t ≡ v → is_some (if ends_word (t ++ b) then Some (t ++ b) else None) ≡ is_some (if ends_word t then Some t else None)
    by_end true is = ap (λ v. is_some (if v then Some (t ++ b) else None)) (ends_word_same t b h ∙ is) ∙ sym (ap (λ v. is_some (if v then Some t else None)) is)
    by_end false is = ap (λ v. is_some (if v then Some (t ++ b) else None)) (ends_word_same t b h ∙ is) ∙ sym (ap (λ v. is_some (if v then Some t else None)) is)
sees_same (k ∷ ks) lacks [] b h = absurd h
sees_same (k ∷ ks) lacks (c ∷ t) b h = by_byte (c == k) refl h (λ g. sees_same ks lacks.1 t b g)
  where
    by_byte : (v : Bool) → (c == k) ≡ v → (is_stop c ≡ true) ⊎ Has t → (Has t → is_some (past ks (t ++ b)) ≡ is_some (past ks t)) → seen_on (c == k) ks (t ++ b) ≡ seen_on (c == k) ks t
    by_byte true is (inl s) rec = let n = is_same c k is lacks.0 in absurd (true_no (sym s ∙ n))
    by_byte true is (inr g) rec = ap (λ v. seen_on v ks (t ++ b)) is ∙ rec g ∙ sym (ap (λ v. seen_on v ks t) is)
    by_byte false is g rec = ap (λ v. seen_on v ks (t ++ b)) is ∙ sym (ap (λ v. seen_on v ks t) is)

keyword_same : IsTest is_keyword
keyword_same t b h = ap₂ (λ x y. x || y) (sees_same (codes "if") (refl, (refl, tt)) t b h) (ap₂ (λ x y. x || y) (sees_same (codes "then") (refl, (refl, (refl, (refl, tt)))) t b h)
    (ap₂ (λ x y. x || y) (sees_same (codes "else") (refl, (refl, (refl, (refl, tt)))) t b h) (sees_same (codes "fi") (refl, (refl, tt)) t b h)))

loop_same : IsTest is_loop
loop_same t b h = ap₂ (λ x y. x || y) (sees_same (codes "while") (refl, (refl, (refl, (refl, (refl, tt))))) t b h) (ap₂ (λ x y. x || y) (sees_same (codes "until") (refl, (refl, (refl, (refl, (refl, tt))))) t b h)
    (ap₂ (λ x y. x || y) (sees_same (codes "for") (refl, (refl, (refl, tt))) t b h) (ap₂ (λ x y. x || y) (sees_same (codes "do") (refl, (refl, tt)) t b h) (sees_same (codes "done") (refl, (refl, (refl, (refl, tt)))) t b h))))

left_out_same : IsTest is_left_out
left_out_same t b h = ap₂ (λ x y. x || y) (sees_same (codes "case") (refl, (refl, (refl, (refl, tt)))) t b h) (ap₂ (λ x y. x || y) (sees_same (codes "esac") (refl, (refl, (refl, (refl, tt)))) t b h)
    (ap₂ (λ x y. x || y) (sees_same (codes "elif") (refl, (refl, (refl, (refl, tt)))) t b h) (sees_same (codes "function") (refl, (refl, (refl, (refl, (refl, (refl, (refl, (refl, tt)))))))) t b h)))

reserved_same : IsTest is_reserved
unfolding is_reserved
reserved_same t b h = ap₂ (λ x y. x || y) (keyword_same t b h) (ap₂ (λ x y. x || y) (loop_same t b h) (left_out_same t b h))

calls_same : (t b : Text) → Has t → calls_at (t ++ b) ≡ calls_at t
calls_same t b h = ap₂ (λ x y. if x then calls.Exit else (if y then calls.Exec else calls.Other)) (sees_same (codes "exit") (refl, (refl, (refl, (refl, tt)))) t b h) (sees_same (codes "exec") (refl, (refl, (refl, (refl, tt)))) t b h)

abbrev word_by : (Text → Outcome Text Simple) → Elements → Calls → Place → Outcome Place Elements
word_by sub e k p = and_then (plain_word sub p.text) (λ w t. Some (with_word e k w, at_text p t))

ptakes_word_by : (sub : Text → Outcome Text Simple) → Subs sub → (e : Elements) (k : Calls) → PTakes (word_by sub e k) (word_by sub e k)
ptakes_word_by sub s e k = pkept_lifted 1 0 (plain_word sub) (plain_word sub) (λ w. pure (with_word e k w)) (λ w. pure (with_word e k w)) (takes_word sub s) (λ w. pkeeps_pure (with_word e k w))

ptakes_next_word : (sub : Text → Outcome Text Simple) → Subs sub → (e : Elements) → PTakes (next_word sub e) (next_word sub e)
unfolding next_word
ptakes_next_word sub k e = pkept_if_eaten 1 1 0 1 (omega arith) (omega arith) (past args) (pure (with_args e)) (pure (with_args e)) (λ p. word_by sub e (calls_at p.text) p) (λ p. word_by sub e (calls_at p.text) p) eats_args
    (pkeeps_pure (with_args e)) (pkept_by 1 calls_at (word_by sub e) (word_by sub e) calls_same (ptakes_word_by sub k e))

ptakes_element : (sub : Text → Outcome Text Simple) → Subs sub → (e : Elements) → PTakes (element sub e) (element sub e)
unfolding element
ptakes_element sub k e = pkept_if 1 redirects (redirection sub e) (redirection sub e) _ _ redirects_same (ptakes_redirection sub k e)
    (pkept_if 1 (λ t. is_nil e.words && is_assignment t) (assigned sub e) (assigned sub e) (next_word sub e) (next_word sub e) (λ t b h. ap (λ x. is_nil e.words && x) (is_assignment_same t b h)) (ptakes_assigned sub k e) (ptakes_next_word sub k e))

ends_same : IsTest ends_command
ends_same t b h = ap₂ (λ x y. not x && y) (redirects_same t b h) (ap₂ (λ x y. x || y) (ends_word_same t b h) (begins_with_same 35 t b h))

-- ---- the elements

pub record KeptElements (sub : Text → Outcome Text Simple) (e : Elements) (p : Place) (a : Elements) (r : Text) (fs : Option Text) (b : Text) : Type 0 where
  pub front : Text
  pub bodies : Option Text
  pub tail : Text
  pub left : Left p front bodies b tail
  pub eats : length r ≤ length front
  pub same : (c : Text) (m : ℕ) → length front ≤ m → elements sub m e (place front bodies c) ≡ Some (a, place r fs c)

abbrev or_on : Bool → Elements → Place → Outcome Place Elements → Outcome Place Elements
or_on v e p o = if v then Some (e, p) else o

stays : (sub : Text → Outcome Text Simple) (m : ℕ) (e : Elements) (p q : Place) → past_blanks p ≡ q → ends_command q.text ≡ true → elements sub m e p ≡ Some (e, q)
unfolding elements
stays sub zero e p q g is = ap (λ y. or_on (ends_command y.text) e y None) g ∙ ap (λ v. or_on v e q None) is
stays sub (suc m) e p q g is = ap (λ y. or_on (ends_command y.text) e y (and_then (element sub e y) (elements sub m))) g ∙ ap (λ v. or_on v e q (and_then (element sub e q) (elements sub m))) is

goes : (sub : Text → Outcome Text Simple) (m : ℕ) (e : Elements) (p q : Place) → past_blanks p ≡ q → ends_command q.text ≡ false → elements sub (suc m) e p ≡ and_then (element sub e q) (elements sub m)
unfolding elements
goes sub m e p q g is = ap (λ y. or_on (ends_command y.text) e y (and_then (element sub e y) (elements sub m))) g ∙ ap (λ v. or_on v e q (and_then (element sub e q) (elements sub m))) is

-- blanks in front
pub record KeptBlanks (p : Place) (r : Text) (fs : Option Text) (b tail : Text) : Type 0 where
  pub front : Text
  pub left : Left p front fs b tail
  pub eats : length r ≤ length front
  pub same : (c : Text) → past_blanks (place front fs c) ≡ place r fs c

pub kept_blanks : (p : Place) (r : Text) (fs : Option Text) (b tail : Text) → Left (past_blanks p) r fs b tail → KeptBlanks p r fs b tail
kept_blanks p r fs b tail l =
    let m = keeps_taking Blank p.text (run Blank p.text) r b (ap (λ y. Some (run Blank p.text, y)) l.is_text) l.has_stop in
    record {
      front = m.front;
      left = record { is_text = m.spelling; is_bodies = l.is_bodies; as_long = l.as_long; has_stop = m.has_stop; some = l.some };
      eats = omega (arith, m.eats);
      same = λ c. ap (λ y. at_text (place m.front fs c) y) (right_of (run Blank (m.front ++ c)) (run Blank p.text) (after Blank (m.front ++ c)) (r ++ c) (m.same c));
    }

at_end : (sub : Text → Outcome Text Simple) (e : Elements) (p : Place) (a : Elements) (q : Place) (r : Text) (fs : Option Text) (b tail : Text) → ends_command (past_blanks p).text ≡ true
    → ◌≡◌ {A = Option (Elements × Place)} (Some (e, past_blanks p)) (Some (a, q)) → Left q r fs b tail → KeptElements sub e p a r fs b
at_end sub e p a q r fs b tail is w l =
    let s = right_of e a (past_blanks p) q w in
    let m = kept_blanks p r fs b tail (subst (λ y. Left y r fs b tail) (sym s) l) in
    record {
      front = m.front;
      bodies = fs;
      tail = tail;
      left = m.left;
      eats = m.eats;
      same = λ c k le. stays sub k e (place m.front fs c) (place r fs c) (m.same c) (ends_same r c l.has_stop ∙ sym (ends_same r b l.has_stop) ∙ ap ends_command (sym (ap (λ y. y.text) s ∙ l.is_text)) ∙ is)
          ∙ ap (λ y. Some (y, place r fs c)) (left_of e a (past_blanks p) q w);
    }

pub kept_elements : (sub : Text → Outcome Text Simple) → Subs sub → (n : ℕ) (e : Elements) (p : Place) (a : Elements) (q : Place) (r : Text) (fs : Option Text) (b tail : Text) → elements sub n e p ≡ Some (a, q) → Left q r fs b tail → KeptElements sub e p a r fs b
unfolding elements
kept_elements sub k zero e p a q r fs b tail w l = by_end (ends_command (past_blanks p).text) refl w
  where
    by_end : (v : Bool) → ends_command (past_blanks p).text ≡ v → or_on v e (past_blanks p) None ≡ Some (a, q) → KeptElements sub e p a r fs b
    by_end true is w = at_end sub e p a q r fs b tail is w l
    by_end false is w = cc
kept_elements sub k (suc n) e p a q r fs b tail w l = by_end (ends_command (past_blanks p).text) refl w (λ d y g. kept_elements sub k n d y a q r fs b tail g l)
  where
    by_end : (v : Bool) → ends_command (past_blanks p).text ≡ v → or_on v e (past_blanks p) (and_then (element sub e (past_blanks p)) (elements sub n)) ≡ Some (a, q)
        → ((d : Elements) (y : Place) → elements sub n d y ≡ Some (a, q) → KeptElements sub d y a r fs b) → KeptElements sub e p a r fs b
    by_end true is w rec = at_end sub e p a q r fs b tail is w l
    by_end false is w rec =
        let o = both_of (element sub e (past_blanks p)) (elements sub n) (a, q) w in
        let m = rec o.first o.left o.is_second in
        let u = ptakes_element sub k e (past_blanks p) o.first o.left m.front m.bodies b m.tail o.is_first m.left in
        let g = kept_blanks p u.front u.bodies b u.tail u.left in
        record {
          front = g.front;
          bodies = u.bodies;
          tail = u.tail;
          left = g.left;
          eats = omega (arith, m.eats, u.eats, g.eats);
          same = λ c. elim [
            | zero ↦ λ le. absurd (omega (arith, le, u.eats, g.eats))
            | suc j ↦ λ le. goes sub j e (place g.front u.bodies c) (place u.front u.bodies c) (g.same c) (ends_same u.front c u.left.has_stop ∙ sym (ends_same u.front b u.left.has_stop) ∙ ap ends_command (sym u.left.is_text) ∙ is)
                ∙ ap (λ y. and_then y (elements sub j)) (u.same c) ∙ m.same c j (omega (arith, le, u.eats, g.eats))
          ];
        }

pub pkeeps_elements : (sub : Text → Outcome Text Simple) → Subs sub → (e : Elements) → PKeeps (λ p. elements sub (length p.text) e p) (λ p. elements sub (length p.text) e p)
pkeeps_elements sub k e p a q r fs b tail w l =
    let m = kept_elements sub k (length p.text) e p a q r fs b tail w l in
    record { front = m.front; bodies = m.bodies; tail = m.tail; left = m.left; eats = omega (arith, m.eats); same = λ c. m.same c (length (m.front ++ c)) (longer m.front c) }

abbrev finished : Elements → Place → Outcome Place Called
finished e p = if is_empty e then None else Some (called e, p)

pkeeps_finished : (e : Elements) → PKeeps (finished e) (finished e)
pkeeps_finished e = pkept_if 0 (λ _. is_empty e) pnever pnever (pure (called e)) (pure (called e)) (λ t b h. refl) (pkept_never 0) (pkeeps_pure (called e))

pub pkeeps_simple : (sub : Text → Outcome Text Simple) → Subs sub → PKeeps (simple sub) (simple sub)
unfolding simple
pkeeps_simple sub k = pkept_if 0 is_reserved pnever pnever _ _ reserved_same (pkept_never 0)
    (pkeeps_then (λ p. elements sub (length p.text) no_elements p) (λ p. elements sub (length p.text) no_elements p) finished finished (pkeeps_elements sub k no_elements) pkeeps_finished)

-- ---- `$(..)`

pub keeps_none : Subs no_substitution
keeps_none x a r b e h = cc

abbrev closed : Called → Place → Outcome Text Simple
closed c p = if c.leaves || waits p then None else and_then (expect 41 p.text) (λ _. pure c.simple)

record KeptClosed (c : Called) (p : Place) (a : Simple) (r b : Text) : Type 0 where
  pub front : Text
  pub left : Left p front None b b
  pub eats : length r ≤ length front
  pub same : (v : Text) → closed c (place front None v) ≡ Some (a, r ++ v)

kept_closed : (c : Called) (p : Place) (a : Simple) (r b : Text) → closed c p ≡ Some (a, r ++ b) → Has r → KeptClosed c p a r b
kept_closed c p a r b e h = by_leaving c.leaves refl p.bodies refl e
  where
    by_leaving : (v : Bool) → c.leaves ≡ v → (bs : Option Text) → p.bodies ≡ bs → (if v || is_some bs then None else and_then (expect 41 p.text) (λ _. pure c.simple)) ≡ Some (a, r ++ b) → KeptClosed c p a r b
    by_leaving true s bs is e = cc
    by_leaving false s (Some z) is e = cc
    by_leaving false s None is e =
        let k = keeps_then (expect 41) (expect 41) (λ _. pure c.simple) (λ _. pure c.simple) (keeps_expect 41) (λ _. keeps_pure c.simple) p.text a r b e h in
        record {
          front = k.front;
          left = record { is_text = k.spelling; is_bodies = is; as_long = refl; has_stop = k.has_stop; some = tt };
          eats = omega (arith, k.eats);
          same = λ v. ap (λ x. if x || false then None else and_then (expect 41 (k.front ++ v)) (λ _. pure c.simple)) s ∙ k.same v;
        }

no_bodies : (z tail : Text) → None ≡ Some (z ++ tail) → ⊥
no_bodies z tail e = cc

keeps_at_blank : Keeps (λ t. and_then (simple no_substitution (alone t)) closed) (λ t. and_then (simple no_substitution (alone t)) closed)
keeps_at_blank x a r b e h =
    let w = both_of (simple no_substitution (alone x)) closed (a, r ++ b) e in
    let m = kept_closed w.first w.left a r b w.is_second h in
    let k = pkeeps_simple no_substitution keeps_none (alone x) w.first w.left m.front None b b w.is_first m.left in
    by_bodies w.first m.front m.eats m.same k.front k.bodies k.tail k.left k.eats k.same
  where
    by_bodies : (c : Called) (y : Text) → length r ≤ length y → ((v : Text) → closed c (place y None v) ≡ Some (a, r ++ v))
        → (front : Text) (bodies : Option Text) (tail : Text) → Left (alone x) front bodies b tail → 0 + length y ≤ length front
        → ((v : Text) → simple no_substitution (place front bodies v) ≡ Some (c, place y None v)) → Kept 0 (λ t. and_then (simple no_substitution (alone t)) closed) x a r b
    by_bodies c y ly sy front (Some z) tail l le same = absurd (no_bodies z tail l.is_bodies)
    by_bodies c y ly sy front None tail l le same =
        record { front = front; spelling = l.is_text; has_stop = l.has_stop; eats = omega (arith, le, ly); same = λ v. ap (λ o. and_then o closed) (same v) ∙ sy v }

pub keeps_substitution : Subs substitution
unfolding substitution
keeps_substitution = keeps_then (taking Blank) (taking Blank) (λ _ t. and_then (simple no_substitution (alone t)) closed) (λ _ t. and_then (simple no_substitution (alone t)) closed) (keeps_taking Blank) (λ _. keeps_at_blank)
