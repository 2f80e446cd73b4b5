-- The pieces of a word stay when another text follows.
use Rattle.std.proofs.Common.{◌≡◌, ◌∙◌, ◌≤◌, ℕ, zero, suc, [], ◌∷◌, ◌++◌, inr, refl, sym, ap, ap₂, subst, Bool, true, false, if◌then◌else◌, ◌||◌, ◌&&◌, ◌==◌, not, length, arith, length-append}
use Rattle.std.specs.Prelude.{Option, Some, None}
use Rattle.ap_shparse.specs.Bytes.{Text, ends_word, is_among, is_plain, past_byte}
use Rattle.ap_shparse.specs.Reads.{Outcome, and_then, pure}
use Rattle.ap_shparse.specs.Pieces.{begins_name, braced, dollar, ends, escapable, escaped, expect, fallback, inside, name, none_found, other, output, outside, pieces, plain, quoted, single, unit, units, variable, with_bytes, with_part}
use Rattle.ap_shparse.specs.declared.class.Class.TheVariants.{Quoted, Name, Fallback}
use Rattle.ap_shparse.specs.declared.found.Found.{Found}
use Rattle.ap_shparse.specs.declared.tree.Part.TheVariants as part
use Rattle.ap_shparse.specs.declared.tree.Simple.{Simple}
use Rattle.ap_shparse.proofs.Keeps.{Has, IsTest, Kept, Keeps, eats_byte, ends_word_same, both_of, kept_eaten, kept_if, Takes, keeps_takes, takes_if_eaten, keeps_if, keeps_if_eaten, keeps_never, keeps_pure, keeps_then, left_of, never, right_of}
use Rattle.ap_shparse.proofs.KeptRuns.{keeps_taking, taking}

pub takes_expect : (k : ℕ) → Takes (expect k) (expect k)
takes_expect k = kept_eaten 1 (past_byte k) (eats_byte k)

pub keeps_expect : (k : ℕ) → Keeps (expect k) (expect k)
keeps_expect k = keeps_takes (expect k) (expect k) (takes_expect k)

pub begins_name_same : IsTest begins_name
begins_name_same [] b h = absurd h
begins_name_same (c ∷ t) b h = refl

pub keeps_name : Keeps name name
unfolding name
keeps_name = keeps_if begins_name (taking Name) (taking Name) never never begins_name_same (keeps_taking Name) keeps_never

keeps_other : (q : Bool) → Keeps (other q) (other q)
unfolding other
keeps_other q = keeps_then (taking (Fallback q)) (taking (Fallback q)) (λ w u. and_then (expect 125 u) (λ _. pure w)) (λ w u. and_then (expect 125 u) (λ _. pure w)) (keeps_taking (Fallback q))
    (λ w. keeps_then (expect 125) (expect 125) (λ _. pure w) (λ _. pure w) (keeps_expect 125) (λ _. keeps_pure w))

keeps_fallback : (q : Bool) (n : Text) → Keeps (fallback q n) (fallback q n)
unfolding fallback
keeps_fallback q n =
    keeps_then (expect 58) (expect 58) _ _ (keeps_expect 58) (λ _. keeps_then (expect 45) (expect 45) _ _ (keeps_expect 45)
    (λ _. keeps_then (other q) (other q) (λ w. pure (part.Fallback n w)) (λ w. pure (part.Fallback n w)) (keeps_other q) (λ w. keeps_pure (part.Fallback n w))))

keeps_braced : (q : Bool) → Keeps (braced q) (braced q)
unfolding braced
keeps_braced q = keeps_then name name _ _ keeps_name
    (λ n. keeps_if_eaten 1 (past_byte 125) (pure (part.Variable n)) (pure (part.Variable n)) (fallback q n) (fallback q n) (eats_byte 125) (keeps_pure (part.Variable n)) (keeps_fallback q n))

keeps_variable : Keeps variable variable
unfolding variable
keeps_variable = keeps_then name name _ _ keeps_name (λ n. keeps_pure (part.Variable n))

-- whatever may stand behind `$(`
keeps_output : (sub : Text → Outcome Text Simple) → Keeps sub sub → Keeps (output sub) (output sub)
keeps_output sub k = keeps_then sub sub _ _ k (λ c. keeps_pure (part.Output c))

keeps_dollar : (sub : Text → Outcome Text Simple) → Keeps sub sub → (q : Bool) → Keeps (dollar sub q) (dollar sub q)
unfolding dollar
keeps_dollar sub k q =
    keeps_if_eaten 1 (past_byte 36) (pure part.Process) (pure part.Process) _ _ (eats_byte 36) (keeps_pure part.Process)
    (keeps_if_eaten 1 (past_byte 48) (pure part.Zero) (pure part.Zero) _ _ (eats_byte 48) (keeps_pure part.Zero)
    (keeps_if_eaten 1 (past_byte 123) (braced q) (braced q) _ _ (eats_byte 123) (keeps_braced q)
    (keeps_if_eaten 1 (past_byte 40) (output sub) (output sub) variable variable (eats_byte 40) (keeps_output sub k) keeps_variable)))

keeps_single : (f : Found) → Keeps (single f) (single f)
unfolding single
keeps_single f = keeps_then (taking Quoted) (taking Quoted) (λ w u. and_then (expect 39 u) (λ _. pure (with_bytes f w))) (λ w u. and_then (expect 39 u) (λ _. pure (with_bytes f w))) (keeps_taking Quoted)
    (λ w. keeps_then (expect 39) (expect 39) (λ _. pure (with_bytes f w)) (λ _. pure (with_bytes f w)) (keeps_expect 39) (λ _. keeps_pure (with_bytes f w)))

-- ---- a byte

abbrev pub one_of : {A : Type 0} → Bool → A → Text → Outcome Text A
one_of v a t = if v then Some (a, t) else None

pub never_some : {X : Type 0} {x : X} → None ≡ Some x → ⊥
never_some e = cc

-- a byte that is taken stays
pub takes_byte : {A : Type 0} (P : Text → Outcome Text A) (g : ℕ → A) (q : ℕ → Bool) → ((c : ℕ) (t : Text) → P (c ∷ t) ≡ one_of (q c) (g c) t) → P [] ≡ None → Takes P P
takes_byte P g q is none [] a r b e h = absurd (never_some (sym none ∙ e))
takes_byte P g q is none (c ∷ t) a r b e h = by_test (q c) refl (sym (is c t) ∙ e)
  where
    by_test : (v : Bool) → q c ≡ v → one_of (q c) (g c) t ≡ Some (a, r ++ b) → Kept 1 P (c ∷ t) a r b
    by_test true s e =
        let m = sym (ap (λ v. one_of v (g c) t) s) ∙ e in
        record {
          front = c ∷ r;
          spelling = ap (λ y. c ∷ y) (right_of (g c) a t (r ++ b) m);
          has_stop = inr h;
          eats = omega arith;
          same = λ d. is c (r ++ d) ∙ ap (λ v. one_of v (g c) (r ++ d)) s ∙ ap (λ y. Some (y, r ++ d)) (left_of (g c) a t (r ++ b) m);
        }
    by_test false s e = absurd (never_some (sym (ap (λ v. one_of v (g c) t) s) ∙ e))

takes_plain : (f : Found) → Takes (plain f) (plain f)
unfolding plain
takes_plain f = takes_byte (plain f) (λ c. with_bytes (record f { tilde = f.tilde || c == 126 }) (c ∷ [])) is_plain (λ c t. refl) refl

takes_quoted : (f : Found) → Takes (quoted f) (quoted f)
unfolding quoted
takes_quoted f = takes_byte (quoted f) (λ c. with_bytes f (c ∷ [])) (λ c. not (c == 96)) (λ c t. turned (c == 96) (with_bytes f (c ∷ [])) t) refl
  where
    turned : (v : Bool) (g : Found) (t : Text) → (if v then None else one_of true g t) ≡ one_of (not v) g t
    turned true g t = refl
    turned false g t = refl

-- behind `\\` in double quotes: the byte is taken, or it isn't
abbrev by_escape : Bool → Bool → Found → ℕ → Text → Outcome Text Found
by_escape line among f c t = if line then None else (if among then Some (with_bytes f (c ∷ []), t) else Some (with_bytes f (92 ∷ []), c ∷ t))

keeps_escaped : (f : Found) → Keeps (escaped f) (escaped f)
unfolding escaped
keeps_escaped f [] a r b e h = cc
keeps_escaped f (c ∷ t) a r b e h = by_test (c == 10) (is_among c escapable) refl refl e
  where
    left : (r : Text) → Has r → c ∷ t ≡ r ++ b → with_bytes f (92 ∷ []) ≡ a → (c == 10) ≡ false → is_among c escapable ≡ false → Kept 0 (escaped f) (c ∷ t) a r b
    left [] h q w s m = absurd h
    left (d ∷ u) h q w s m =
        let hd : c ≡ d = cc in
        let tl : t ≡ u ++ b = cc in
        record {
          front = c ∷ u;
          spelling = ap (λ y. c ∷ y) tl;
          has_stop = subst (λ z. Has (z ∷ u)) (sym hd) h;
          eats = omega arith;
          same = λ v. ap₂ (λ x y. by_escape x y f c (u ++ v)) s m ∙ ap₂ (λ x y. Some (x, y ∷ (u ++ v))) w hd;
        }

    by_test : (x y : Bool) → (c == 10) ≡ x → is_among c escapable ≡ y → by_escape x y f c t ≡ Some (a, r ++ b) → Kept 0 (escaped f) (c ∷ t) a r b
    by_test true y s m e = absurd (never_some e)
    by_test false true s m e =
        let w = left_of (with_bytes f (c ∷ [])) a t (r ++ b) e in
        let q = right_of (with_bytes f (c ∷ [])) a t (r ++ b) e in
        record {
          front = c ∷ r;
          spelling = ap (λ y. c ∷ y) q;
          has_stop = inr h;
          eats = omega arith;
          same = λ v. ap₂ (λ x y. by_escape x y f c (r ++ v)) s m ∙ ap (λ x. Some (x, r ++ v)) w;
        }
    by_test false false s m e =
        left r h (right_of (with_bytes f (92 ∷ [])) a (c ∷ t) (r ++ b) e) (left_of (with_bytes f (92 ∷ [])) a (c ∷ t) (r ++ b) e) s m

takes_outside : (sub : Text → Outcome Text Simple) → Keeps sub sub → (f : Found) → Takes (outside sub f) (outside sub f)
unfolding outside
takes_outside sub k f =
    takes_if_eaten (past_byte 39) (single f) (single f) _ _ (eats_byte 39) (keeps_single f)
    (takes_if_eaten (past_byte 34) (pure (record f { inside = true })) (pure (record f { inside = true })) _ _ (eats_byte 34) (keeps_pure (record f { inside = true }))
    (takes_if_eaten (past_byte 36) _ _ (plain f) (plain f) (eats_byte 36)
    (keeps_then (dollar sub false) (dollar sub false) (λ p. pure (with_part (record f { dollar = true }) p)) (λ p. pure (with_part (record f { dollar = true }) p)) (keeps_dollar sub k false) (λ p. keeps_pure (with_part (record f { dollar = true }) p)))
    (takes_plain f)))

takes_inside : (sub : Text → Outcome Text Simple) → Keeps sub sub → (f : Found) → Takes (inside sub f) (inside sub f)
unfolding inside
takes_inside sub k f =
    takes_if_eaten (past_byte 34) (pure (record f { inside = false })) (pure (record f { inside = false })) _ _ (eats_byte 34) (keeps_pure (record f { inside = false }))
    (takes_if_eaten (past_byte 92) (escaped f) (escaped f) _ _ (eats_byte 92) (keeps_escaped f)
    (takes_if_eaten (past_byte 36) _ _ (quoted f) (quoted f) (eats_byte 36)
    (keeps_then (dollar sub true) (dollar sub true) (λ p. pure (with_part f p)) (λ p. pure (with_part f p)) (keeps_dollar sub k true) (λ p. keeps_pure (with_part f p)))
    (takes_quoted f)))

takes_unit : (sub : Text → Outcome Text Simple) → Keeps sub sub → (f : Found) → Takes (unit sub f) (unit sub f)
unfolding unit
takes_unit sub k f = kept_if 1 (λ _. f.inside) (inside sub f) (inside sub f) (outside sub f) (outside sub f) (λ t b h. refl) (takes_inside sub k f) (takes_outside sub k f)

-- ---- as far as they go

ends_same : (f : Found) → IsTest (ends f)
ends_same f t b h = ap (λ v. not f.inside && v) (ends_word_same t b h)

-- the turns that the front has bytes for are enough
pub record KeptTurns (sub : Text → Outcome Text Simple) (f : Found) (x : Text) (a : Found) (r b : Text) : Type 0 where
  pub front : Text
  pub spelling : x ≡ front ++ b
  pub has_stop : Has front
  pub eats : length r ≤ length front
  pub takes : ends f x ≡ false → suc (length r) ≤ length front
  pub same : (c : Text) (m : ℕ) → length front ≤ m → units sub m f (front ++ c) ≡ Some (a, r ++ c)

pub ends_here : (sub : Text → Outcome Text Simple) (m : ℕ) (f : Found) (x : Text) → ends f x ≡ true → units sub m f x ≡ Some (f, x)
unfolding units
ends_here sub zero f x is = ap (λ v. if v then Some (f, x) else None) is
ends_here sub (suc m) f x is = ap (λ v. if v then Some (f, x) else and_then (unit sub f x) (units sub m)) is

pub goes_on : (sub : Text → Outcome Text Simple) (m : ℕ) (f : Found) (x : Text) → ends f x ≡ false → units sub (suc m) f x ≡ and_then (unit sub f x) (units sub m)
unfolding units
goes_on sub m f x is = ap (λ v. if v then Some (f, x) else and_then (unit sub f x) (units sub m)) is

true_false : true ≡ false → ⊥
true_false e = cc

at_end : (sub : Text → Outcome Text Simple) (f : Found) (x : Text) (a : Found) (r b : Text) → ends f x ≡ true → ◌≡◌ {A = Option (Found × Text)} (Some (f, x)) (Some (a, r ++ b)) → Has r → KeptTurns sub f x a r b
at_end sub f x a r b is e h =
    let q = right_of f a x (r ++ b) e in
    record {
      front = r;
      spelling = q;
      has_stop = h;
      eats = omega arith;
      takes = λ goes. absurd (true_false (sym is ∙ goes));
      same = λ c m le. ends_here sub m f (r ++ c) (ends_same f r c h ∙ sym (ends_same f r b h) ∙ ap (ends f) (sym q) ∙ is) ∙ ap (λ y. Some (y, r ++ c)) (left_of f a x (r ++ b) e);
    }

abbrev or_more : Bool → Found → Text → Outcome Text Found → Outcome Text Found
or_more v f x o = if v then Some (f, x) else o

pub kept_units : (sub : Text → Outcome Text Simple) → Keeps sub sub → (n : ℕ) (f : Found) (x : Text) (a : Found) (r b : Text) → units sub n f x ≡ Some (a, r ++ b) → Has r → KeptTurns sub f x a r b
unfolding units
kept_units sub k zero f x a r b e h = by_end (ends f x) refl e
  where
    by_end : (v : Bool) → ends f x ≡ v → or_more v f x None ≡ Some (a, r ++ b) → KeptTurns sub f x a r b
    by_end true is e = at_end sub f x a r b is e h
    by_end false is e = cc
kept_units sub k (suc n) f x a r b e h = by_end (ends f x) refl e (λ g y q. kept_units sub k n g y a r b q h)
  where
    by_end : (v : Bool) → ends f x ≡ v → or_more v f x (and_then (unit sub f x) (units sub n)) ≡ Some (a, r ++ b)
        → ((g : Found) (y : Text) → units sub n g y ≡ Some (a, r ++ b) → KeptTurns sub g y a r b) → KeptTurns sub f x a r b
    by_end true is e rec = at_end sub f x a r b is e h
    by_end false is e rec =
        let w = both_of (unit sub f x) (units sub n) (a, r ++ b) e in
        let m = rec w.first w.left w.is_second in
        let u = takes_unit sub k f x w.first m.front b (w.is_first ∙ ap (λ y. Some (w.first, y)) m.spelling) m.has_stop in
        record {
          front = u.front;
          spelling = u.spelling;
          has_stop = u.has_stop;
          eats = omega (arith, m.eats, u.eats);
          takes = λ goes. omega (arith, m.eats, u.eats);
          same = λ c. elim [
            | zero ↦ λ le. absurd (omega (arith, le, u.eats))
            | suc j ↦ λ le. goes_on sub j f (u.front ++ c) (ends_same f u.front c u.has_stop ∙ sym (ends_same f u.front b u.has_stop) ∙ ap (ends f) (sym u.spelling) ∙ is)
                ∙ ap (λ o. and_then o (units sub j)) (u.same c) ∙ m.same c j (omega (arith, le, u.eats))
          ];
        }

pub longer : (t b : Text) → length t ≤ length (t ++ b)
longer t b = omega (arith, length-append t b)

pub keeps_pieces : (sub : Text → Outcome Text Simple) → Keeps sub sub → Keeps (pieces sub) (pieces sub)
unfolding pieces
keeps_pieces sub k x a r b e h =
    let m = kept_units sub k (length x) none_found x a r b e h in
    record { front = m.front; spelling = m.spelling; has_stop = m.has_stop; eats = omega (arith, m.eats); same = λ c. m.same c (length (m.front ++ c)) (longer m.front c) }

pub takes_pieces : (sub : Text → Outcome Text Simple) → Keeps sub sub → (x : Text) (a : Found) (r b : Text) → ends_word x ≡ false → pieces sub x ≡ Some (a, r ++ b) → Has r → Kept 1 (pieces sub) x a r b
unfolding pieces
takes_pieces sub k x a r b more e h =
    let m = kept_units sub k (length x) none_found x a r b e h in
    record { front = m.front; spelling = m.spelling; has_stop = m.has_stop; eats = omega (arith, m.takes more); same = λ c. m.same c (length (m.front ++ c)) (longer m.front c) }
