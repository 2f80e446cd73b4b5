-- Blanks, comments and newlines to the end of a text, and before another one.
use Rattle.std.proofs.Common.{◌≡◌, ◌∙◌, ◌≤◌, ◌-◌, ℕ, zero, suc, [], ◌∷◌, ◌++◌, inr, refl, sym, ap, Bool, true, false, if◌then◌else◌, ◌==◌, length, arith, length-append, append-nil, length-drop, append_assoc}
use Rattle.std.specs.Prelude.{Option, Some, None, is_some, option_map}
use Rattle.ap_shparse.specs.Bytes.{Text, after, gap, has, past_comment, run}
use Rattle.ap_shparse.specs.Reads.{if_eaten}
use Rattle.ap_shparse.specs.Places.{Place, at_text, behind, newlines_from, past_gap, past_newline}
use Rattle.ap_shparse.specs.declared.class.Class.{Class}
use Rattle.ap_shparse.specs.declared.class.Class.TheVariants.{Blank, Comment}
use Rattle.ap_shparse.proofs.Keeps.{inner}
use Rattle.ap_shparse.proofs.KeptRuns.{kept_gap}
use Rattle.ap_shparse.proofs.KeptHere.{NotNil}
use Rattle.ap_shparse.proofs.KeptPlaces.{Some_, place}
use Rattle.ap_shparse.proofs.KeptLines.{at_newline, fits, goes_on, kept_newline, stays}

-- ---- lengths

pub after_short : (k : Class) (t : Text) → length (after k t) ≤ length t
after_short k [] = omega arith
after_short k (c ∷ t) = by_has (has k c) (after_short k t)
  where
    by_has : (v : Bool) → length (after k t) ≤ length t → length (if v then after k t else c ∷ t) ≤ suc (length t)
    by_has true l = omega (arith, l)
    by_has false l = omega arith

comment_short : (t : Text) → length (past_comment t) ≤ length t
unfolding past_comment
comment_short [] = omega arith
comment_short (c ∷ t) = by_hash (c == 35) (after_short Comment t)
  where
    by_hash : (v : Bool) → length (after Comment t) ≤ length t → length (if v then after Comment t else c ∷ t) ≤ suc (length t)
    by_hash true l = omega (arith, l)
    by_hash false l = omega arith

pub gap_short : (t : Text) → length (gap t) ≤ length t
unfolding gap
gap_short t = omega (arith, comment_short (after Blank t), after_short Blank t)

behind_short : (bs : Option Text) (t : Text) → length (behind bs t) ≤ length t
behind_short None t = omega arith
behind_short (Some z) t = omega (arith, length-drop (length t - (length z - 1)) t)

pub newline_short : (p q : Place) → past_newline p ≡ Some q → suc (length q.text) ≤ length p.text
newline_short p q e =
    let a = at_newline p q e in
    omega (arith, behind_short p.bodies a.rest, ap (λ y. length y.text) a.is_next, ap length a.is_text)

-- the turns that a text has bytes for are enough
pub total_lines : (n : ℕ) (p : Place) → length p.text ≤ n → is_some (newlines_from n p) ≡ true
unfolding newlines_from
total_lines zero p le = by_newline (past_newline (past_gap p)) refl
  where
    by_newline : (o : Option Place) → past_newline (past_gap p) ≡ o → is_some (if is_some o then None else Some (past_gap p)) ≡ true
    by_newline None e = refl
    by_newline (Some q) e = absurd (omega (arith, newline_short (past_gap p) q e, gap_short p.text, le))
total_lines (suc n) p le = by_newline (past_newline (past_gap p)) refl (λ q l. total_lines n q l)
  where
    by_newline : (o : Option Place) → past_newline (past_gap p) ≡ o → ((q : Place) → length q.text ≤ n → is_some (newlines_from n q) ≡ true) → is_some (if_eaten o (newlines_from n) (Some (past_gap p))) ≡ true
    by_newline None e rec = refl
    by_newline (Some q) e rec = rec q (omega (arith, newline_short (past_gap p) q e, gap_short p.text, le))

-- where they end
pub record Shorter (p q : Place) : Type 0 where
  pub short : length q.text ≤ length (gap p.text)
  pub none : p.bodies ≡ None → q.bodies ≡ None

pub lines_short : (n : ℕ) (p q : Place) → newlines_from n p ≡ Some q → Shorter p q
unfolding newlines_from
lines_short zero p q e = by_newline (past_newline (past_gap p)) e
  where
    by_newline : (o : Option Place) → (if is_some o then None else Some (past_gap p)) ≡ Some q → Shorter p q
    by_newline None e = let s = inner (past_gap p) q e in record { short = omega (arith, ap (λ y. length y.text) s); none = λ n. sym (ap (λ y. y.bodies) s) ∙ n }
    by_newline (Some s) e = cc
lines_short (suc n) p q e = by_newline (past_newline (past_gap p)) refl e (λ s w. lines_short n s q w)
  where
    by_newline : (o : Option Place) → past_newline (past_gap p) ≡ o → if_eaten o (newlines_from n) (Some (past_gap p)) ≡ Some q → ((s : Place) → newlines_from n s ≡ Some q → Shorter s q) → Shorter p q
    by_newline None is e rec = let s = inner (past_gap p) q e in record { short = omega (arith, ap (λ y. length y.text) s); none = λ n. sym (ap (λ y. y.bodies) s) ∙ n }
    by_newline (Some s) is e rec =
        let m = rec s e in
        record { short = omega (arith, m.short, gap_short s.text, newline_short (past_gap p) s is); none = λ n. m.none (sym (ap (λ y. y.bodies) (at_newline (past_gap p) s is).is_next)) }

-- ---- a gap to the end

pub after_nothing : (k : Class) (t b : Text) → after k t ≡ [] → after k (t ++ b) ≡ after k b
after_nothing k [] b e = refl
after_nothing k (c ∷ t) b e = by_has (has k c) refl e (after_nothing k t b)
  where
    by_has : (v : Bool) → has k c ≡ v → (if v then after k t else c ∷ t) ≡ [] → (after k t ≡ [] → after k (t ++ b) ≡ after k b) → (if has k c then after k (t ++ b) else c ∷ (t ++ b)) ≡ after k b
    by_has true is e rec = ap (λ v. if v then after k (t ++ b) else c ∷ (t ++ b)) is ∙ rec e
    by_has false is e rec = cc

after_some : (k : Class) (t b : Text) (y : ℕ) (w : Text) → after k t ≡ y ∷ w → after k (t ++ b) ≡ y ∷ (w ++ b)
after_some k [] b y w e = cc
after_some k (c ∷ t) b y w e = by_has (has k c) refl e (after_some k t b y w)
  where
    by_has : (v : Bool) → has k c ≡ v → (if v then after k t else c ∷ t) ≡ y ∷ w → (after k t ≡ y ∷ w → after k (t ++ b) ≡ y ∷ (w ++ b)) → (if has k c then after k (t ++ b) else c ∷ (t ++ b)) ≡ y ∷ (w ++ b)
    by_has true is e rec = ap (λ v. if v then after k (t ++ b) else c ∷ (t ++ b)) is ∙ rec e
    by_has false is e rec = ap (λ v. if v then after k (t ++ b) else c ∷ (t ++ b)) is ∙ ap (λ z. z ++ b) e

not_has : (k : Class) (t : Text) (y : ℕ) (w : Text) → after k t ≡ y ∷ w → has k y ≡ false
not_has k [] y w e = cc
not_has k (c ∷ t) y w e = by_has (has k c) refl e (not_has k t y w)
  where
    by_has : (v : Bool) → has k c ≡ v → (if v then after k t else c ∷ t) ≡ y ∷ w → (after k t ≡ y ∷ w → has k y ≡ false) → has k y ≡ false
    by_has true is e rec = rec e
    by_has false is e rec = let q : c ≡ y = cc in ap (has k) (sym q) ∙ is

pub run_front : (k : Class) (t : Text) → t ≡ run k t ++ after k t
run_front k [] = refl
run_front k (c ∷ t) = by_has (has k c) refl (run_front k t)
  where
    by_has : (v : Bool) → has k c ≡ v → t ≡ run k t ++ after k t → c ∷ t ≡ (if v then c ∷ run k t else []) ++ (if v then after k t else c ∷ t)
    by_has true is rec = ap (λ z. c ∷ z) rec
    by_has false is rec = refl

run_whole : (k : Class) (t : Text) → after k (run k t) ≡ []
run_whole k [] = refl
run_whole k (c ∷ t) = by_has (has k c) refl (run_whole k t)
  where
    by_has : (v : Bool) → has k c ≡ v → after k (run k t) ≡ [] → after k (if v then c ∷ run k t else []) ≡ []
    by_has true is rec = ap (λ v. if v then after k (run k t) else c ∷ run k t) is ∙ rec
    by_has false is rec = refl

-- what follows a gap that went to the end is no longer than what was added
pub gap_more : (t b : Text) → gap t ≡ [] → length (gap (t ++ b)) ≤ length b
unfolding gap past_comment
gap_more t b e = by_blanks (after Blank t) refl e
  where
    by_hash : (y : ℕ) (w : Text) → after Blank t ≡ y ∷ w → (v : Bool) → (y == 35) ≡ v → (if v then after Comment w else y ∷ w) ≡ [] → length (past_comment (after Blank (t ++ b))) ≤ length b
    by_hash y w q true is e =
        let l : past_comment (after Blank (t ++ b)) ≡ after Comment b = ap past_comment (after_some Blank t b y w q) ∙ ap (λ v. if v then after Comment (w ++ b) else y ∷ (w ++ b)) is ∙ after_nothing Comment w b e in
        omega (arith, ap length l, after_short Comment b)
    by_hash y w q false is e = cc

    by_blanks : (v : Text) → after Blank t ≡ v → past_comment v ≡ [] → length (past_comment (after Blank (t ++ b))) ≤ length b
    by_blanks [] q e =
        let l : past_comment (after Blank (t ++ b)) ≡ past_comment (after Blank b) = ap past_comment (after_nothing Blank t b q) in
        omega (arith, ap length l, comment_short (after Blank b), after_short Blank b)
    by_blanks (y ∷ w) q e = by_hash y w q (y == 35) refl e

-- the gap in front is a text of its own
pub record GapAlone (t : Text) : Type 0 where
  pub front : Text
  pub spelling : t ≡ front ++ gap t
  pub alone_gap : gap front ≡ []

gap_alone : (t : Text) → GapAlone t
unfolding gap past_comment
gap_alone t = by_blanks (after Blank t) refl
  where
    by_hash : (y : ℕ) (w : Text) → after Blank t ≡ y ∷ w → (v : Bool) → (y == 35) ≡ v → GapAlone t
    by_hash y w q true is =
        let n = not_has Blank t y w q in
        let g : gap t ≡ after Comment w = ap past_comment q ∙ ap (λ v. if v then after Comment w else y ∷ w) is in
        record {
          front = run Blank t ++ (y ∷ run Comment w);
          spelling = run_front Blank t ∙ ap (λ z. run Blank t ++ z) (q ∙ ap (λ z. y ∷ z) (run_front Comment w)) ∙ sym (append_assoc (run Blank t) (y ∷ run Comment w) (after Comment w)) ∙ ap (λ z. (run Blank t ++ (y ∷ run Comment w)) ++ z) (sym g);
          alone_gap = ap past_comment (after_nothing Blank (run Blank t) (y ∷ run Comment w) (run_whole Blank t) ∙ ap (λ v. if v then after Blank (run Comment w) else y ∷ run Comment w) n)
              ∙ ap (λ v. if v then after Comment (run Comment w) else y ∷ run Comment w) is ∙ run_whole Comment w;
        }
    by_hash y w q false is =
        let g : gap t ≡ y ∷ w = ap past_comment q ∙ ap (λ v. if v then after Comment w else y ∷ w) is in
        record {
          front = run Blank t;
          spelling = run_front Blank t ∙ ap (λ z. run Blank t ++ z) (q ∙ sym g);
          alone_gap = ap past_comment (run_whole Blank t);
        }

    by_blanks : (v : Text) → after Blank t ≡ v → GapAlone t
    by_blanks [] q = let g : gap t ≡ [] = ap past_comment q in record { front = t; spelling = sym (append-nil t) ∙ ap (λ z. t ++ z) (sym g); alone_gap = g }
    by_blanks (y ∷ w) q = by_hash y w q (y == 35) refl

-- ---- newlines of a front alone

abbrev pub nothing : Place
nothing = record { text = []; bodies = None }

pub record LinesAlone (p : Place) (b : Text) : Type 0 where
  pub front : Text
  pub bodies : Option Text
  pub tail : Text
  pub is_text : p.text ≡ front ++ b
  pub is_bodies : p.bodies ≡ option_map (λ z. z ++ tail) bodies
  pub as_long : length tail ≡ length b
  pub some : Some_ bodies
  pub same : (m : ℕ) → length front ≤ m → newlines_from m (place front bodies []) ≡ Some nothing

gap_here : (p q : Place) → past_gap p ≡ q → q.bodies ≡ None → LinesAlone p q.text
gap_here p q g n =
    let m = gap_alone p.text in
    record {
      front = m.front;
      bodies = None;
      tail = q.text;
      is_text = m.spelling ∙ ap (λ z. m.front ++ z) (ap (λ y. y.text) g);
      is_bodies = ap (λ y. y.bodies) g ∙ n;
      as_long = refl;
      some = tt;
      same = λ k le. stays k (place m.front None []) nothing (ap (λ z. at_text (place m.front None []) z) (ap gap (append-nil m.front) ∙ m.alone_gap)) refl;
    }

some_length : (b : Text) → NotNil b → 1 ≤ length b
some_length [] s = absurd s
some_length (c ∷ t) s = omega arith

pub lines_alone : (n : ℕ) (p q : Place) → newlines_from n p ≡ Some q → q.bodies ≡ None → NotNil q.text → LinesAlone p q.text
unfolding newlines_from
lines_alone zero p q e n s = by_newline (past_newline (past_gap p)) e
  where
    by_newline : (o : Option Place) → (if is_some o then None else Some (past_gap p)) ≡ Some q → LinesAlone p q.text
    by_newline None e = gap_here p q (inner (past_gap p) q e) n
    by_newline (Some s) e = cc
lines_alone (suc m) p q e n s = by_newline (past_newline (past_gap p)) refl e (λ y w. lines_alone m y q w n s)
  where
    by_line : (y : Place) → past_newline (past_gap p) ≡ Some y → (front : Text) (bodies : Option Text) (tail : Text) → y.text ≡ front ++ q.text → y.bodies ≡ option_map (λ z. z ++ tail) bodies
        → ((j : ℕ) → length front ≤ j → newlines_from j (place front bodies []) ≡ Some nothing) → LinesAlone p q.text
    by_line y is front (Some z) tail t bs same = absurd (no_bodies (ap (λ y. y.bodies) (at_newline (past_gap p) y is).is_next ∙ bs))
      where
        no_bodies : None ≡ Some (z ++ tail) → ⊥
        no_bodies e = cc
    by_line y is front None tail t bs same =
        let a = at_newline (past_gap p) y is in
        let f = fits (past_gap p).bodies a.rest y.text q.text (ap (λ y. y.text) a.is_next) (inr (some_length q.text s, omega (arith, ap length t, length-append front q.text))) in
        let u = kept_newline (past_gap p) y front q.text is t f in
        let g = kept_gap p.text u.front q.text u.left.is_text u.left.has_stop in
        record {
          front = g.front;
          bodies = u.bodies;
          tail = u.tail;
          is_text = g.spelling;
          is_bodies = u.left.is_bodies;
          as_long = u.left.as_long;
          some = u.left.some;
          same = elim [
            | zero ↦ λ le. absurd (omega (arith, le, u.eats, g.eats))
            | suc j ↦ λ le. goes_on j (place g.front u.bodies []) (place u.front u.bodies []) (place front None []) (ap (λ z. at_text (place g.front u.bodies []) z) (g.same [])) (u.same []) ∙ same j (omega (arith, le, u.eats, g.eats))
          ];
        }

    by_newline : (o : Option Place) → past_newline (past_gap p) ≡ o → if_eaten o (newlines_from m) (Some (past_gap p)) ≡ Some q → ((y : Place) → newlines_from m y ≡ Some q → LinesAlone y q.text) → LinesAlone p q.text
    by_newline None is e rec = gap_here p q (inner (past_gap p) q e) n
    by_newline (Some y) is e rec = let k = rec y e in by_line y is k.front k.bodies k.tail k.is_text k.is_bodies k.same
