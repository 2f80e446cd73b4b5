-- A whole front is read the same before any other text.
use Rattle.std.proofs.Common.{◌≡◌, ◌∙◌, ◌≤◌, ℕ, zero, suc, [], ◌∷◌, ◌++◌, refl, sym, ap, ap₂, subst, if◌then◌else◌, length, arith, append-nil}
use Rattle.std.specs.Prelude.{Option, Some, None, is_some, option_map}
use Rattle.ap_shparse.specs.Bytes.{Text}
use Rattle.ap_shparse.specs.Reads.{if_eaten}
use Rattle.ap_shparse.specs.Places.{Place, at_text, newlines, newlines_from, no_newline, past_gap, past_newline}
use Rattle.ap_shparse.specs.Scripts.{turn}
use Rattle.ap_shparse.specs.Fronts.{whole_item}
use Rattle.ap_shparse.specs.declared.script.Turn.{Turn}
use Rattle.ap_shparse.proofs.Keeps.{inner}
use Rattle.ap_shparse.proofs.KeptRuns.{kept_gap}
use Rattle.ap_shparse.proofs.KeptPieces.{never_some}
use Rattle.ap_shparse.proofs.KeptPlaces.{Left, PKeeps, Some_, place}
use Rattle.ap_shparse.proofs.KeptLines.{at_newline, goes_on, kept_all_lines, kept_newline}
use Rattle.ap_shparse.proofs.ItemLemmas.{as_turn, fits_nothing, kept_item, map_nil, read_whole}
use Rattle.ap_shparse.proofs.GapLemmas.{gap_more, lines_short}
use Rattle.ap_shparse.proofs.FrontLemmas.{Items}

-- a place, with this text behind
abbrev pub grown : Place → Text → Place
grown p b = place p.text p.bodies b

nil_of : (t : Text) → length t ≡ 0 → t ≡ []
nil_of [] e = refl
nil_of (c ∷ t) e = absurd (omega (arith, e))

-- what is left before nothing is all
pub left_nil : (q : Place) (front : Text) (bodies : Option Text) (tail : Text) → Left q front bodies [] tail → (c : Text) → place front bodies c ≡ grown q c
left_nil q front bodies tail l c =
    let t : q.text ≡ front = l.is_text ∙ append-nil front in
    let n : tail ≡ [] = nil_of tail l.as_long in
    let b : q.bodies ≡ bodies = l.is_bodies ∙ ap (λ x. option_map (λ z. z ++ x) bodies) n ∙ sym (map_nil bodies) in
    ap₂ (λ x y. place x y c) (sym t) (sym b)

-- ---- newlines

pub record GrownLine (p s : Place) (b : Text) : Type 0 where
  pub behind_gap : Place
  pub is_gap : past_gap (grown p b) ≡ behind_gap
  pub is_newline : past_newline behind_gap ≡ Some (grown s b)

pub grown_line : (p s : Place) (b : Text) → past_newline (past_gap p) ≡ Some s → Some_ p.bodies → GrownLine p s b
grown_line p s b e some =
    let u = kept_newline (past_gap p) s s.text [] e (sym (append-nil s.text)) (fits_nothing p.bodies some) in
    let g = kept_gap p.text u.front [] u.left.is_text u.left.has_stop in
    let n = ap (λ y. y.bodies) (at_newline (past_gap p) s e).is_next in
    let d : Left p g.front u.bodies [] u.tail = record { is_text = g.spelling; is_bodies = u.left.is_bodies; as_long = u.left.as_long; has_stop = g.has_stop; some = u.left.some } in
    record {
      behind_gap = place u.front u.bodies b;
      is_gap = ap past_gap (sym (left_nil p g.front u.bodies u.tail d b)) ∙ ap (λ z. at_text (place g.front u.bodies b) z) (g.same b);
      is_newline = u.same b ∙ ap (λ y. Some (place s.text y b)) n;
    }

pub more_lines : (n m : ℕ) (p q : Place) → n ≤ m → newlines_from n p ≡ Some q → newlines_from m p ≡ Some q
unfolding newlines_from
more_lines zero zero p q le e = e
more_lines zero (suc m) p q le e = by_newline (past_newline (past_gap p)) e
  where
    by_newline : (o : Option Place) → (if is_some o then None else Some (past_gap p)) ≡ Some q → if_eaten o (newlines_from m) (Some (past_gap p)) ≡ Some q
    by_newline None e = e
    by_newline (Some s) e = cc
more_lines (suc n) zero p q le e = absurd (omega (arith, le))
more_lines (suc n) (suc m) p q le e = by_newline (past_newline (past_gap p)) e (λ s w. more_lines n m s q (omega (arith, le)) w)
  where
    by_newline : (o : Option Place) → if_eaten o (newlines_from n) (Some (past_gap p)) ≡ Some q → ((s : Place) → newlines_from n s ≡ Some q → newlines_from m s ≡ Some q) → if_eaten o (newlines_from m) (Some (past_gap p)) ≡ Some q
    by_newline None e rec = e
    by_newline (Some s) e rec = rec s e

no_lines : (p g s : Place) (q : Place) → past_gap p ≡ g → past_newline g ≡ Some s → newlines_from zero p ≡ Some q → ⊥
unfolding newlines_from
no_lines p g s q i e w = never_some (sym (ap no_newline i ∙ ap (λ o. if is_some o then None else Some g) e) ∙ w)

-- where a front ends, what follows is no longer than what was added
pub tail_short : (n : ℕ) (p q : Place) (b : Text) → newlines_from n p ≡ Some q → q.text ≡ [] → q.bodies ≡ None → Some_ p.bodies → (m : ℕ) (r : Place) → newlines_from m (grown p b) ≡ Some r → (length r.text ≤ length b) × (r.bodies ≡ None)
unfolding newlines_from
tail_short zero p q b e t n some m r w = by_newline (past_newline (past_gap p)) e
  where
    here : past_gap p ≡ q → (length r.text ≤ length b) × (r.bodies ≡ None)
    here g =
        let l = lines_short m (grown p b) r w in
        (omega (arith, l.short, gap_more p.text b (ap (λ y. y.text) g ∙ t)), l.none (ap (option_map (λ z. z ++ b)) (ap (λ y. y.bodies) g ∙ n)))

    by_newline : (o : Option Place) → (if is_some o then None else Some (past_gap p)) ≡ Some q → (length r.text ≤ length b) × (r.bodies ≡ None)
    by_newline None e = here (inner (past_gap p) q e)
    by_newline (Some s) e = cc
tail_short (suc k) p q b e t n some m r w = by_newline (past_newline (past_gap p)) refl e (λ s v f. tail_short k s q b v t n f)
  where
    here : past_gap p ≡ q → (length r.text ≤ length b) × (r.bodies ≡ None)
    here g =
        let l = lines_short m (grown p b) r w in
        (omega (arith, l.short, gap_more p.text b (ap (λ y. y.text) g ∙ t)), l.none (ap (option_map (λ z. z ++ b)) (ap (λ y. y.bodies) g ∙ n)))

    by_fuel : (s : Place) → GrownLine p s b → ((j : ℕ) (r : Place) → newlines_from j (grown s b) ≡ Some r → (length r.text ≤ length b) × (r.bodies ≡ None)) → (m : ℕ) → newlines_from m (grown p b) ≡ Some r → (length r.text ≤ length b) × (r.bodies ≡ None)
    by_fuel s g rec zero w = absurd (no_lines (grown p b) g.behind_gap (grown s b) r g.is_gap g.is_newline w)
    by_fuel s g rec (suc j) w = rec j r (sym (goes_on j (grown p b) g.behind_gap (grown s b) g.is_gap g.is_newline) ∙ w)

    by_newline : (o : Option Place) → past_newline (past_gap p) ≡ o → if_eaten o (newlines_from k) (Some (past_gap p)) ≡ Some q
        → ((s : Place) → newlines_from k s ≡ Some q → Some_ s.bodies → (m : ℕ) (r : Place) → newlines_from m (grown s b) ≡ Some r → (length r.text ≤ length b) × (r.bodies ≡ None)) → (length r.text ≤ length b) × (r.bodies ≡ None)
    by_newline None is e rec = here (inner (past_gap p) q e)
    by_newline (Some s) is e rec = by_fuel s (grown_line p s b is some) (rec s e (subst Some_ (ap (λ y. y.bodies) (at_newline (past_gap p) s is).is_next) tt)) m w

-- ---- an item

pub record GrownItem (item : Items) (p : Place) (t : Turn) (s : Place) (b : Text) : Type 0 where
  pub start : Place
  pub is_start : newlines (grown p b) ≡ Some start
  pub is_turn : turn item start ≡ Some (t, grown s b)

pub grown_item : (item : Items) → PKeeps item item → (p q s : Place) (t : Turn) (b : Text) → newlines p ≡ Some q → whole_item item q ≡ Some (t, s) → Some_ s.bodies → GrownItem item p t s b
grown_item item k p q s t b e w some =
    let r = read_whole item q t s w in
    let i = r.is_read in
    let u = kept_item item k q i.behind s i.item_of s.text s.bodies [] [] i.is_item i.is_end (record { is_text = sym (append-nil s.text); is_bodies = map_nil s.bodies; as_long = refl; some = some }) (λ _. fits_nothing i.behind.bodies r.uncut) in
    let v = kept_all_lines p q u.front u.bodies [] u.tail e u.left in
    record {
      start = place u.front u.bodies b;
      is_start = ap newlines (sym (left_nil p v.front v.bodies v.tail v.left b)) ∙ v.same b;
      is_turn = as_turn item q i.behind i.item_of s.text s.bodies [] u b ∙ ap (λ z. Some (z, grown s b)) (sym i.is_turn);
    }
