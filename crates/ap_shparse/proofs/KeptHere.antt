-- Lines and bodies of here-documents stay when another text follows.
use Rattle.std.proofs.Common.{◌≡◌, ◌∙◌, ◌≤◌, ◌+◌, ℕ, zero, suc, [], ◌∷◌, ◌++◌, inl, inr, refl, sym, ap, ap₂, Bool, true, false, if◌then◌else◌, ◌||◌, ◌&&◌, ◌==◌, length, arith}
use Rattle.std.specs.Prelude.{Option, Some, None, is_some}
use Rattle.std.specs.Str.{bytes_eq}
use Rattle.std.proofs.lemmas.Bool.Decides.{nat_tests}
use Rattle.ap_shparse.specs.Bytes.{Text, after, begins_with, enders, ends_word, gap, is_among, past, past_byte, run}
use Rattle.ap_shparse.specs.Reads.{Outcome, and_then, eaten, if_eaten, pure}
use Rattle.ap_shparse.specs.Pieces.{expect, pieces}
use Rattle.ap_shparse.specs.Places.{args, body, body_from, bracket, delimiter, is_delimiter, line, line_from, lone, token}
use Rattle.ap_shparse.specs.declared.class.Class.TheVariants.{Comment, Quoted}
use Rattle.ap_shparse.specs.declared.tree.Simple.{Simple}
use Rattle.ap_shparse.proofs.Keeps.{Eating, Has, Kept, KeptPast, Keeps, Takes, both_of, ends_word_same, inner, keeps_if, keeps_never, keeps_pure, keeps_then, left_of, never, right_of}
use Rattle.ap_shparse.proofs.KeptRuns.{keeps_taking, kept_gap, kept_run, taking}
use Rattle.ap_shparse.proofs.KeptPieces.{keeps_expect, longer, takes_pieces}
use Rattle.ap_shparse.proofs.KeptWords.{begins_with_same, eats_args, eats_bracket}

-- there is a byte
abbrev pub NotNil : Text → Type 0
NotNil [] = ⊥
NotNil (c ∷ t) = Unit {0}

-- ---- the delimiter

pub keeps_delimiter : Keeps delimiter delimiter
unfolding delimiter
keeps_delimiter = keeps_then (expect 39) (expect 39) _ _ (keeps_expect 39)
    (λ _. keeps_then (taking Quoted) (taking Quoted) (λ w u. and_then (expect 39 u) (λ _. closed w)) (λ w u. and_then (expect 39 u) (λ _. closed w)) (keeps_taking Quoted)
    (λ w. keeps_then (expect 39) (expect 39) (λ _. closed w) (λ _. closed w) (keeps_expect 39) (λ _. keeps_closed w)))
  where
    closed : Text → Text → Outcome Text Text
    closed w v = if is_delimiter w && ends_word v then Some (w, v) else None

    keeps_closed : (w : Text) → Keeps (closed w) (closed w)
    keeps_closed w = keeps_if (λ v. is_delimiter w && ends_word v) (pure w) (pure w) never never (λ t b h. ap (λ x. is_delimiter w && x) (ends_word_same t b h)) (keeps_pure w) keeps_never

-- ---- lines

eats_either : (E F : Text → Option Text) → Eating 1 E → Eating 1 F → Eating 1 (λ t. if_eaten (E t) (λ u. Some u) (F t))
eats_either E F k j = record { past = λ x u b e h. by_first x u b (E x) refl e h; none = λ t b c e h. by_none t b c (E (t ++ b)) refl e h }
  where
    by_first : (x u b : Text) (o : Option Text) → E x ≡ o → if_eaten o (λ u. Some u) (F x) ≡ Some (u ++ b) → Has u → KeptPast 1 (λ t. if_eaten (E t) (λ u. Some u) (F t)) x u b
    by_first x u b None is e h =
        let m = j.past x u b e h in
        record {
          front = m.front;
          spelling = m.spelling;
          has_stop = m.has_stop;
          eats = m.eats;
          same = λ c. ap (λ o. if_eaten o (λ u. Some u) (F (m.front ++ c))) (k.none m.front b c (ap E (sym m.spelling) ∙ is) m.has_stop) ∙ m.same c;
        }
    by_first x u b (Some v) is e h =
        let m = k.past x u b (is ∙ e) h in
        record { front = m.front; spelling = m.spelling; has_stop = m.has_stop; eats = m.eats; same = λ c. ap (λ o. if_eaten o (λ u. Some u) (F (m.front ++ c))) (m.same c) }

    by_none : (t b c : Text) (o : Option Text) → E (t ++ b) ≡ o → if_eaten o (λ u. Some u) (F (t ++ b)) ≡ None → Has t → if_eaten (E (t ++ c)) (λ u. Some u) (F (t ++ c)) ≡ None
    by_none t b c None is e h = ap (λ o. if_eaten o (λ u. Some u) (F (t ++ c))) (k.none t b c is h) ∙ j.none t b c e h
    by_none t b c (Some v) is e h = cc

eats_lone : Eating 1 lone
eats_lone = eats_either (past bracket) (past args) eats_bracket eats_args

abbrev or_word : (Text → Outcome Text Simple) → Bool → ℕ → Text → Outcome Text (Unit {0})
or_word sub v c t = if v then Some (tt, t) else if_eaten (lone (c ∷ t)) (pure tt) (and_then (pieces sub (c ∷ t)) (λ _. pure tt))

takes_token : (sub : Text → Outcome Text Simple) → Keeps sub sub → Takes (token sub) (token sub)
unfolding token ends_word
takes_token sub k [] a r b e h = cc
takes_token sub k (c ∷ t) a r b e h = by_ender (is_among c enders) refl e
  where
    by_lone : (o : Option Text) → lone (c ∷ t) ≡ o → is_among c enders ≡ false → if_eaten o (pure tt) (and_then (pieces sub (c ∷ t)) (λ _. pure tt)) ≡ Some (a, r ++ b) → Kept 1 (token sub) (c ∷ t) a r b
    by_lone None is plain e =
        let w = both_of (pieces sub (c ∷ t)) (λ _. pure tt) (a, r ++ b) e in
        let q = right_of tt a w.left (r ++ b) w.is_second in
        let m = takes_pieces sub k (c ∷ t) w.first r b plain (w.is_first ∙ ap (λ y. Some (w.first, y)) q) h in
        opened m.front m.spelling m.has_stop m.eats (λ v. ap (λ o. and_then o (λ _. pure tt)) (m.same v)) (λ v. eats_lone.none m.front b v (ap lone (sym m.spelling) ∙ is) m.has_stop) plain
      where
        opened : (front : Text) → c ∷ t ≡ front ++ b → Has front → 1 + length r ≤ length front → ((v : Text) → and_then (pieces sub (front ++ v)) (λ _. pure tt) ≡ Some (a, r ++ v))
            → ((v : Text) → lone (front ++ v) ≡ None) → is_among c enders ≡ false → Kept 1 (token sub) (c ∷ t) a r b
        opened [] s g l same lonely plain = absurd g
        opened (d ∷ u) s g l same lonely plain =
            let hd : c ≡ d = cc in
            record {
              front = d ∷ u;
              spelling = s;
              has_stop = g;
              eats = l;
              same = λ v. ap (λ x. or_word sub x d (u ++ v)) (ap (λ y. is_among y enders) (sym hd) ∙ plain)
                  ∙ ap (λ o. if_eaten o (pure tt) (and_then (pieces sub (d ∷ (u ++ v))) (λ _. pure tt))) (lonely v) ∙ same v;
            }
    by_lone (Some z) is plain e =
        let q = right_of tt a z (r ++ b) e in
        let m = eats_lone.past (c ∷ t) r b (is ∙ ap (λ y. Some y) q) h in
        opened m.front m.spelling m.has_stop m.eats m.same (left_of tt a z (r ++ b) e) plain
      where
        opened : (front : Text) → c ∷ t ≡ front ++ b → Has front → 1 + length r ≤ length front → ((v : Text) → lone (front ++ v) ≡ Some (r ++ v)) → tt ≡ a → is_among c enders ≡ false → Kept 1 (token sub) (c ∷ t) a r b
        opened [] s g l same w plain = absurd g
        opened (d ∷ u) s g l same w plain =
            let hd : c ≡ d = cc in
            record {
              front = d ∷ u;
              spelling = s;
              has_stop = g;
              eats = l;
              same = λ v. ap (λ x. or_word sub x d (u ++ v)) (ap (λ y. is_among y enders) (sym hd) ∙ plain)
                  ∙ ap (λ o. if_eaten o (pure tt) (and_then (pieces sub (d ∷ (u ++ v))) (λ _. pure tt))) (same v) ∙ ap (λ y. Some (y, r ++ v)) w;
            }

    by_ender : (v : Bool) → is_among c enders ≡ v → or_word sub v c t ≡ Some (a, r ++ b) → Kept 1 (token sub) (c ∷ t) a r b
    by_ender true is e =
        record {
          front = c ∷ r;
          spelling = ap (λ y. c ∷ y) (right_of tt a t (r ++ b) e);
          has_stop = inr h;
          eats = omega arith;
          same = λ v. ap (λ x. or_word sub x c (r ++ v)) is ∙ ap (λ y. Some (y, r ++ v)) (left_of tt a t (r ++ b) e);
        }
    by_ender false is e = by_lone (lone (c ∷ t)) refl is e

line_here : (sub : Text → Outcome Text Simple) (n : ℕ) (t g : Text) → gap t ≡ g → begins_with 10 g ≡ true → line_from sub (suc n) t ≡ Some (tt, g)
unfolding line_from
line_here sub n t g is newline = ap (λ y. if begins_with 10 y then Some (tt, y) else and_then (token sub y) (λ _. line_from sub n)) is ∙ ap (λ v. if v then Some (tt, g) else and_then (token sub g) (λ _. line_from sub n)) newline

line_on : (sub : Text → Outcome Text Simple) (n : ℕ) (t g : Text) → gap t ≡ g → begins_with 10 g ≡ false → line_from sub (suc n) t ≡ and_then (token sub g) (λ _. line_from sub n)
unfolding line_from
line_on sub n t g is newline = ap (λ y. if begins_with 10 y then Some (tt, y) else and_then (token sub y) (λ _. line_from sub n)) is ∙ ap (λ v. if v then Some (tt, g) else and_then (token sub g) (λ _. line_from sub n)) newline

pub record KeptLine (sub : Text → Outcome Text Simple) (x r b : Text) : Type 0 where
  pub front : Text
  pub spelling : x ≡ front ++ b
  pub has_stop : Has front
  pub eats : length r ≤ length front
  pub same : (c : Text) (m : ℕ) → length front ≤ m → line_from sub m (front ++ c) ≡ Some (tt, r ++ c)

true_no : true ≡ false → ⊥
true_no e = cc

has_newline : (r b : Text) → NotNil r → begins_with 10 (r ++ b) ≡ true → Has r
has_newline [] b g e = absurd g
has_newline (d ∷ u) b g e = inl (by_byte (d == 10) refl e)
  where
    by_byte : (v : Bool) → (d == 10) ≡ v → is_some (if d == 10 then Some (u ++ b) else None) ≡ true → (d == 10 || (d == 59 || d == 41)) ≡ true
    by_byte true is e = ap (λ v. v || (d == 59 || d == 41)) is
    by_byte false is e = absurd (true_no (sym e ∙ ap (λ v. is_some (if v then Some (u ++ b) else None)) is))

abbrev stopped : Bool → Text → Outcome Text (Unit {0}) → Outcome Text (Unit {0})
stopped v g o = if v then Some (tt, g) else o

not_zero : (r f : Text) → NotNil r → length r ≤ length f → length f ≤ 0 → ⊥
not_zero [] f g le z = g
not_zero (c ∷ t) f g le z = omega (arith, le, z)

pub kept_line : (sub : Text → Outcome Text Simple) → Keeps sub sub → (n : ℕ) (x : Text) (a : Unit {0}) (r b : Text) → line_from sub n x ≡ Some (a, r ++ b) → NotNil r → KeptLine sub x r b
unfolding line_from
kept_line sub k zero x a r b e g = cc
kept_line sub k (suc n) x a r b e g = by_newline (begins_with 10 (gap x)) refl e (λ y q. kept_line sub k n y a r b q g)
  where
    by_newline : (v : Bool) → begins_with 10 (gap x) ≡ v → stopped v (gap x) (and_then (token sub (gap x)) (λ _. line_from sub n)) ≡ Some (a, r ++ b)
        → ((y : Text) → line_from sub n y ≡ Some (a, r ++ b) → KeptLine sub y r b) → KeptLine sub x r b
    by_newline true is e rec =
        let q = right_of tt a (gap x) (r ++ b) e in
        let h = has_newline r b g (ap (begins_with 10) (sym q) ∙ is) in
        let m = kept_gap x r b q h in
        record {
          front = m.front;
          spelling = m.spelling;
          has_stop = m.has_stop;
          eats = m.eats;
          same = λ c. elim [
            | zero ↦ λ le. absurd (not_zero r m.front g m.eats le)
            | suc j ↦ λ le. line_here sub j (m.front ++ c) (r ++ c) (m.same c) (begins_with_same 10 r c h ∙ sym (begins_with_same 10 r b h) ∙ ap (begins_with 10) (sym q) ∙ is)
          ];
        }
    by_newline false is e rec =
        let w = both_of (token sub (gap x)) (λ _. line_from sub n) (a, r ++ b) e in
        let l = rec w.left w.is_second in
        let u = takes_token sub k (gap x) w.first l.front b (w.is_first ∙ ap (λ y. Some (w.first, y)) l.spelling) l.has_stop in
        let m = kept_gap x u.front b u.spelling u.has_stop in
        record {
          front = m.front;
          spelling = m.spelling;
          has_stop = m.has_stop;
          eats = omega (arith, m.eats, u.eats, l.eats);
          same = λ c. elim [
            | zero ↦ λ le. absurd (omega (arith, m.eats, u.eats, le))
            | suc j ↦ λ le. line_on sub j (m.front ++ c) (u.front ++ c) (m.same c) (begins_with_same 10 u.front c u.has_stop ∙ sym (begins_with_same 10 u.front b u.has_stop) ∙ ap (begins_with 10) (sym u.spelling) ∙ is)
                ∙ ap (λ o. and_then o (λ _. line_from sub j)) (u.same c) ∙ l.same c j (omega (arith, m.eats, u.eats, l.eats, le))
          ];
        }

pub keeps_line : (sub : Text → Outcome Text Simple) → Keeps sub sub → (x : Text) (a : Unit {0}) (r b : Text) → line sub x ≡ Some (a, r ++ b) → NotNil r → Kept 0 (line sub) x tt r b
unfolding line
keeps_line sub k x a r b e g =
    let m = kept_line sub k (length x) x a r b e g in
    record { front = m.front; spelling = m.spelling; has_stop = m.has_stop; eats = omega (arith, m.eats); same = λ c. m.same c (length (m.front ++ c)) (longer m.front c) }

-- ---- bodies

is_ten : (y : ℕ) → (y == 10) ≡ true → y ≡ 10
is_ten y e = grind (arith, nat_tests)

is_semi : (y : ℕ) → (y == 59) ≡ true → y ≡ 59
is_semi y e = grind (arith, nat_tests)

pub record KeptBody (d f : Text) (x a r b : Text) : Type 0 where
  pub front : Text
  pub spelling : x ≡ front ++ b
  pub eats : length r ≤ length front
  pub some : 1 ≤ length front
  pub same : (c : Text) (m : ℕ) → length front ≤ m → body_from d m f (front ++ c) ≡ Some (a, r ++ c)

abbrev lines_on : Text → ℕ → Text → Text → Bool → Outcome Text Text
lines_on d n f x v = if v then Some (f, after Comment x) else and_then (expect 10 (after Comment x)) (λ _. body_from d n (f ++ run Comment x ++ 10 ∷ []))

body_step : (d : Text) (n : ℕ) (f x : Text) → body_from d (suc n) f x ≡ lines_on d n f x (bytes_eq (run Comment x) d)
unfolding body_from
body_step d n f x = refl

pub expect_newline : (t u : Text) (a : Unit {0}) → expect 10 t ≡ Some (a, u) → t ≡ 10 ∷ u
expect_newline [] u a e = cc
expect_newline (c ∷ t) u a e = by_byte (c == 10) refl e
  where
    by_byte : (v : Bool) → (c == 10) ≡ v → eaten (if v then Some t else None) ≡ Some (a, u) → c ∷ t ≡ 10 ∷ u
    by_byte true is e = ap₂ (λ y z. y ∷ z) (is_ten c is) (right_of tt a t u e)
    by_byte false is e = cc

kept_body : (d : Text) (n : ℕ) (f x a r b : Text) → body_from d n f x ≡ Some (a, r ++ b) → NotNil r → KeptBody d f x a r b
unfolding body_from
kept_body d zero f x a r b e g = cc
kept_body d (suc n) f x a [] b e g = absurd g
kept_body d (suc n) f x a (y ∷ r) b e g = by_closing (bytes_eq (run Comment x) d) refl e (λ h z q. kept_body d n h z a (y ∷ r) b q g)
  where
    by_closing : (v : Bool) → bytes_eq (run Comment x) d ≡ v → lines_on d n f x v ≡ Some (a, y ∷ (r ++ b))
        → ((h z : Text) → body_from d n h z ≡ Some (a, y ∷ (r ++ b)) → KeptBody d h z a (y ∷ r) b) → KeptBody d f x a (y ∷ r) b
    by_closing true is e rec =
        let m = kept_run Comment x y r b (right_of f a (after Comment x) (y ∷ (r ++ b)) e) in
        record {
          front = m.front;
          spelling = m.spelling;
          eats = omega (arith, m.eats);
          some = omega (arith, m.eats);
          same = λ c. elim [
            | zero ↦ λ le. absurd (omega (arith, m.eats, le))
            | suc j ↦ λ le. body_step d j f (m.front ++ c) ∙ ap (lines_on d j f (m.front ++ c)) (ap (λ z. bytes_eq z d) (m.run_same c) ∙ is)
                ∙ ap₂ (λ p q. Some (p, q)) (left_of f a (after Comment x) (y ∷ (r ++ b)) e) (m.after_same c)
          ];
        }
    by_closing false is e rec =
        let w = both_of (expect 10 (after Comment x)) (λ _. body_from d n (f ++ run Comment x ++ 10 ∷ [])) (a, y ∷ (r ++ b)) e in
        let l = rec (f ++ run Comment x ++ 10 ∷ []) w.left w.is_second in
        let m = kept_run Comment x 10 l.front b (expect_newline (after Comment x) w.left w.first w.is_first ∙ ap (λ z. 10 ∷ z) l.spelling) in
        record {
          front = m.front;
          spelling = m.spelling;
          eats = omega (arith, m.eats, l.eats);
          some = omega (arith, m.eats);
          same = λ c. elim [
            | zero ↦ λ le. absurd (omega (arith, m.eats, le))
            | suc j ↦ λ le. body_step d j f (m.front ++ c) ∙ ap (lines_on d j f (m.front ++ c)) (ap (λ z. bytes_eq z d) (m.run_same c) ∙ is)
                ∙ ap (λ z. and_then (expect 10 z) (λ _. body_from d j (f ++ run Comment (m.front ++ c) ++ 10 ∷ []))) (m.after_same c)
                ∙ ap (λ z. body_from d j (f ++ z ++ 10 ∷ []) (l.front ++ c)) (m.run_same c) ∙ l.same c j (omega (arith, m.eats, le))
          ];
        }

pub record KeptWhole (d x a r b : Text) : Type 0 where
  pub front : Text
  pub spelling : x ≡ front ++ b
  pub some : NotNil front
  pub eats : length r ≤ length front
  pub same : (c : Text) → body d (front ++ c) ≡ Some (a, r ++ c)

pub whole_body : (d x a r b : Text) → body d x ≡ Some (a, r ++ b) → NotNil r → KeptWhole d x a r b
unfolding body
whole_body d x a r b e g =
    let w = both_of (expect 10 x) (λ _ u. body_from d (length u) [] u) (a, r ++ b) e in
    let m = kept_body d (length w.left) [] w.left a r b w.is_second g in
    record {
      front = 10 ∷ m.front;
      spelling = expect_newline x w.left w.first w.is_first ∙ ap (λ z. 10 ∷ z) m.spelling;
      some = tt;
      eats = omega (arith, m.eats);
      same = λ c. m.same c (length (m.front ++ c)) (longer m.front c);
    }

pub past_semi : (t u : Text) → past_byte 59 t ≡ Some u → t ≡ 59 ∷ u
past_semi [] u e = cc
past_semi (c ∷ t) u e = by_byte (c == 59) refl e
  where
    by_byte : (v : Bool) → (c == 59) ≡ v → (if v then Some t else None) ≡ Some u → c ∷ t ≡ 59 ∷ u
    by_byte true is e = ap₂ (λ y z. y ∷ z) (is_semi c is) (inner t u e)
    by_byte false is e = cc
