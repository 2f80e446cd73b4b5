-- Runs and gaps stay when another text follows.
use Rattle.std.proofs.Common.{◌≡◌, ◌∙◌, ◌≤◌, ℕ, suc, [], ◌∷◌, ◌++◌, ◌⊎◌, inl, inr, refl, sym, ap, ap₂, subst, Bool, true, false, if◌then◌else◌, ◌==◌, length, arith}
use Rattle.std.specs.Prelude.{Some}
use Rattle.std.proofs.lemmas.Bool.Decides.{nat_tests}
use Rattle.ap_shparse.specs.Bytes.{Text, after, gap, has, past_comment, run}
use Rattle.ap_shparse.specs.Reads.{Outcome}
use Rattle.ap_shparse.specs.declared.class.Class.{Class}
use Rattle.ap_shparse.specs.declared.class.Class.TheVariants.{Blank, Comment, Digit, Name}
use Rattle.ap_shparse.proofs.Keeps.{Has, Keeps, is_stop, left_of, right_of}

abbrev pub taking : Class → Text → Outcome Text Text
taking k t = Some (run k t, after k t)

-- a run that a byte ends
pub record KeptRun (k : Class) (x : Text) (d : ℕ) (u b : Text) : Type 0 where
  pub front : Text
  pub spelling : x ≡ front ++ b
  pub has_stop : Has (d ∷ u) → Has front
  pub eats : suc (length u) ≤ length front
  pub run_same : (c : Text) → run k (front ++ c) ≡ run k x
  pub after_same : (c : Text) → after k (front ++ c) ≡ d ∷ (u ++ c)

tail_of : (y d : ℕ) (x u : Text) → y ∷ x ≡ d ∷ u → x ≡ u
tail_of y d x u e = cc

head_of : (y d : ℕ) (x u : Text) → y ∷ x ≡ d ∷ u → y ≡ d
head_of y d x u e = cc

pub kept_run : (k : Class) (x : Text) (d : ℕ) (u b : Text) → after k x ≡ d ∷ (u ++ b) → KeptRun k x d u b
kept_run k [] d u b e = cc
kept_run k (y ∷ x) d u b e = by_has (has k y) refl e (kept_run k x d u b)
  where
    by_has : (v : Bool) → has k y ≡ v → (if v then after k x else y ∷ x) ≡ d ∷ (u ++ b) → (after k x ≡ d ∷ (u ++ b) → KeptRun k x d u b) → KeptRun k (y ∷ x) d u b
    by_has true is e rec =
        let m = rec e in
        record {
          front = y ∷ m.front;
          spelling = ap (λ z. y ∷ z) m.spelling;
          has_stop = λ h. inr (m.has_stop h);
          eats = omega (arith, m.eats);
          run_same = λ c. ap (λ v. if v then y ∷ run k (m.front ++ c) else []) is ∙ ap (λ z. y ∷ z) (m.run_same c) ∙ sym (ap (λ v. if v then y ∷ run k x else []) is);
          after_same = λ c. ap (λ v. if v then after k (m.front ++ c) else y ∷ (m.front ++ c)) is ∙ m.after_same c;
        }
    by_has false is e rec =
        let q = head_of y d x (u ++ b) e in
        record {
          front = y ∷ u;
          spelling = ap (λ z. y ∷ z) (tail_of y d x (u ++ b) e);
          has_stop = λ h. subst (λ z. Has (z ∷ u)) (sym q) h;
          eats = omega arith;
          run_same = λ c. ap (λ v. if v then y ∷ run k (u ++ c) else []) is ∙ sym (ap (λ v. if v then y ∷ run k x else []) is);
          after_same = λ c. ap (λ v. if v then after k (u ++ c) else y ∷ (u ++ c)) is ∙ ap (λ z. z ∷ (u ++ c)) q;
        }

pub keeps_taking : (k : Class) → Keeps (taking k) (taking k)
keeps_taking k x a [] b e h = absurd h
keeps_taking k x a (d ∷ u) b e h =
    let m = kept_run k x d u b (right_of (run k x) a (after k x) (d ∷ (u ++ b)) e) in
    record {
      front = m.front;
      spelling = m.spelling;
      has_stop = m.has_stop h;
      eats = omega (arith, m.eats);
      same = λ c. ap₂ (λ y z. Some (y, z)) (m.run_same c ∙ left_of (run k x) a (after k x) (d ∷ (u ++ b)) e) (m.after_same c);
    }

-- ---- classes without a newline, `;` or `)`

abbrev pub LacksStops : Class → Type 0
LacksStops k = (c : ℕ) → has k c ≡ true → is_stop c ≡ false

pub record KeptAfter (k : Class) (t : Text) : Type 0 where
  pub has_stop : Has (after k t)
  pub same : (b : Text) → after k (t ++ b) ≡ after k t ++ b

-- a stop stays behind such a run
pub kept_after : (k : Class) → LacksStops k → (t : Text) → Has t → KeptAfter k t
kept_after k lacks [] h = absurd h
kept_after k lacks (x ∷ t) h = by_has (has k x) refl h (kept_after k lacks t)
  where
    by_has : (v : Bool) → has k x ≡ v → (is_stop x ≡ true) ⊎ Has t → (Has t → KeptAfter k t) → KeptAfter k (x ∷ t)
    by_has true is (inl s) rec = let n = lacks x is in cc
    by_has true is (inr g) rec =
        let m = rec g in
        record {
          has_stop = subst Has (sym (ap (λ v. if v then after k t else x ∷ t) is)) m.has_stop;
          same = λ b. ap (λ v. if v then after k (t ++ b) else x ∷ (t ++ b)) is ∙ m.same b ∙ ap (λ y. y ++ b) (sym (ap (λ v. if v then after k t else x ∷ t) is));
        }
    by_has false is g rec =
        record {
          has_stop = subst Has (sym (ap (λ v. if v then after k t else x ∷ t) is)) g;
          same = λ b. ap (λ v. if v then after k (t ++ b) else x ∷ (t ++ b)) is ∙ ap (λ y. y ++ b) (sym (ap (λ v. if v then after k t else x ∷ t) is));
        }

digit_lacks : LacksStops Digit
unfolding has
digit_lacks c e = grind (arith, nat_tests)

name_lacks : LacksStops Name
unfolding has
name_lacks c e = grind (arith, nat_tests)

pub after_digits : (t : Text) → Has t → KeptAfter Digit t
after_digits = kept_after Digit digit_lacks

pub after_name : (t : Text) → Has t → KeptAfter Name t
after_name = kept_after Name name_lacks

-- ---- blanks and comments

pub record KeptGap (x r b : Text) : Type 0 where
  pub front : Text
  pub spelling : x ≡ front ++ b
  pub has_stop : Has front
  pub eats : length r ≤ length front
  pub same : (c : Text) → gap (front ++ c) ≡ r ++ c

pub kept_gap : (x r b : Text) → gap x ≡ r ++ b → Has r → KeptGap x r b
unfolding gap past_comment
kept_gap x [] b e h = absurd h
kept_gap x (d ∷ u) b e h = by_blanks (after Blank x) refl e
  where
    by_comment : (v : Bool) (y : ℕ) (w : Text) → (y == 35) ≡ v → after Blank x ≡ y ∷ w → (if v then after Comment w else y ∷ w) ≡ d ∷ (u ++ b) → KeptGap x (d ∷ u) b
    by_comment true y w is blanks e =
        let n = kept_run Comment w d u b e in
        let m = kept_run Blank x y n.front b (blanks ∙ ap (λ z. y ∷ z) n.spelling) in
        record {
          front = m.front;
          spelling = m.spelling;
          has_stop = m.has_stop (inr (n.has_stop h));
          eats = omega (arith, m.eats, n.eats);
          same = λ c. ap past_comment (m.after_same c) ∙ ap (λ v. if v then after Comment (n.front ++ c) else y ∷ (n.front ++ c)) is ∙ n.after_same c;
        }
    by_comment false y w is blanks e =
        let m = kept_run Blank x d u b (blanks ∙ e) in
        record {
          front = m.front;
          spelling = m.spelling;
          has_stop = m.has_stop h;
          eats = omega (arith, m.eats);
          same = λ c. ap past_comment (m.after_same c) ∙ ap (λ v. if v then after Comment (u ++ c) else d ∷ (u ++ c)) (ap (λ z. z == 35) (sym (head_of y d w (u ++ b) e)) ∙ is);
        }

    by_blanks : (v : Text) → after Blank x ≡ v → past_comment v ≡ d ∷ (u ++ b) → KeptGap x (d ∷ u) b
    by_blanks [] q e = cc
    by_blanks (y ∷ w) q e = by_comment (y == 35) y w refl q e
