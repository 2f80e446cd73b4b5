-- The here-documents that are read are those that the rules have.
use Rattle.std.proofs.Common.{◌≡◌, ◌∙◌, ◌≤◌, ◌+◌, ℕ, zero, suc, List, [], ◌∷◌, ◌++◌, inl, inr, refl, sym, ap, ap₂, subst, Bool, true, false, if◌then◌else◌, ◌&&◌, length, arith, length-append, append-nil, append_assoc}
use Rattle.std.specs.Prelude.{Option, Some, None}
use Rattle.std.specs.Str.{bytes_eq}
use Rattle.std.proofs.lemmas.Slice.Eq.{bytes_eq-Decides}
use Rattle.ap_shparse.specs.Bytes.{Text, after, begins_with, enders, ends_word, gap, is_among, past, run}
use Rattle.ap_shparse.specs.Reads.{Outcome, and_then, if_eaten, pure}
use Rattle.ap_shparse.specs.Pieces.{expect, pieces}
use Rattle.ap_shparse.specs.Places.{Place, args, body, body_from, body_of, bracket, delimiter, here, here_at, is_delimiter, line, line_from, lone, or_line, token}
use Rattle.ap_shparse.specs.PieceRules.{IsRun, TextRule}
use Rattle.ap_shparse.specs.LineRules.{HasNo}
use Rattle.ap_shparse.specs.HereRules.{IsBody, IsDelimiter, IsHere, IsLone, IsNewlineBehind, IsStart, IsToken, body_text}
use Rattle.ap_shparse.specs.declared.class.Class.TheVariants.{Comment, Quoted}
use Rattle.ap_shparse.specs.declared.tree.Simple.{Simple}
use Rattle.ap_shparse.proofs.Keeps.{both_of, left_of, right_of}
use Rattle.ap_shparse.proofs.GapLemmas.{gap_short}
use Rattle.ap_shparse.proofs.LineMeets.{Meets, past_is, past_none, past_sound, whole_short}
use Rattle.ap_shparse.proofs.KeptPieces.{never_some}
use Rattle.ap_shparse.proofs.PieceMeets.{TMeets, after_of, eaten_or, expected, pieces_sound, pieces_take, pieces_whole, run_is, run_of, run_short}

-- ---- tokens

abbrev by_word : (Text → Outcome Text Simple) → Text → Outcome Text (Unit {0})
by_word sub t = and_then (pieces sub t) (λ _. pure tt)

abbrev by_ender : (Text → Outcome Text Simple) → ℕ → Text → Bool → Outcome Text (Unit {0})
by_ender sub c t v = if v then Some (tt, t) else if_eaten (lone (c ∷ t)) (pure tt) (by_word sub (c ∷ t))

lone_sound : (t u : Text) → lone t ≡ Some u → IsLone t u
lone_sound t u e =
    eaten_or (past bracket t) (λ v. Some v) (past args t) (Some u) e (λ v i x. inl (past_sound bracket t u (i ∙ x))) (λ _ x. inr (past_sound args t u x))

lone_whole : (t u : Text) → IsLone t u → lone t ≡ Some u
lone_whole t u (inl x) = ap (λ o. if_eaten o (λ v. Some v) (past args t)) (past_is bracket t u x)
lone_whole t u (inr x) = ap (λ o. if_eaten o (λ v. Some v) (past args t)) (ap (past bracket) x.0) ∙ past_is args t u x

lone_none : (t : Text) → lone t ≡ None → HasNo bracket t × HasNo args t
lone_none t e = (λ u x. never_some (sym e ∙ lone_whole t u (inl x)), λ u x. never_some (sym e ∙ lone_whole t u (inr x)))

token_sound : (sub : Text → Outcome Text Simple) (IsSub : TextRule Simple) → TMeets 0 sub IsSub → (t u : Text) (a : Unit {0}) → token sub t ≡ Some (a, u) → IsToken IsSub t u
unfolding token ends_word
token_sound sub IsSub k [] u a e = cc
token_sound sub IsSub k (c ∷ t) u a e = by_test (is_among c enders) refl e
  where
    by_test : (v : Bool) → is_among c enders ≡ v → by_ender sub c t v ≡ Some (a, u) → IsToken IsSub (c ∷ t) u
    by_test true is e = inl (c, ap (λ y. c ∷ y) (right_of tt a t u e), is)
    by_test false is e =
        eaten_or (lone (c ∷ t)) (pure tt) (by_word sub (c ∷ t)) (Some (a, u)) e
        (λ v i x. inr (inl (lone_sound (c ∷ t) u (i ∙ ap (λ y. Some y) (right_of tt a v u x)))))
        (λ n x.
        let w = both_of (pieces sub (c ∷ t)) (λ _. pure tt) (a, u) x in
        let r = pieces_sound sub IsSub k (c ∷ t) u w.first (w.is_first ∙ ap (λ y. Some (w.first, y)) (right_of tt a w.left u w.is_second)) in
        inr (inr (r.pieces, is, (lone_none (c ∷ t) n).0, (lone_none (c ∷ t) n).1, r.are_pieces)))

lone_inside : (t u : Text) → IsLone t u → ends_word t ≡ false
unfolding ends_word
lone_inside t u (inl x) = ap ends_word x.0
lone_inside t u (inr x) = ap ends_word x.0

no_lone : (u : Text) → IsLone [] u → ⊥
no_lone u (inl x) = let e = x.0 in cc
no_lone u (inr x) = let e = x.0 in cc

none_lone : (t : Text) → HasNo bracket t → HasNo args t → lone t ≡ None
none_lone t b a = ap (λ o. if_eaten o (λ v. Some v) (past args t)) (past_none bracket t b) ∙ past_none args t a

token_whole : (sub : Text → Outcome Text Simple) (IsSub : TextRule Simple) → TMeets 0 sub IsSub → (t u : Text) → IsToken IsSub t u → token sub t ≡ Some (tt, u)
unfolding token ends_word
token_whole sub IsSub k t u (inl x) = ap (token sub) x.1 ∙ ap (by_ender sub x.0 u) x.2
token_whole sub IsSub k [] u (inr (inl x)) = absurd (no_lone u x)
token_whole sub IsSub k (c ∷ t) u (inr (inl x)) = ap (by_ender sub c t) (lone_inside (c ∷ t) u x) ∙ ap (λ o. if_eaten o (pure tt) (by_word sub (c ∷ t))) (lone_whole (c ∷ t) u x)
token_whole sub IsSub k [] u (inr (inr x)) = let e = x.1 in cc
token_whole sub IsSub k (c ∷ t) u (inr (inr x)) =
    ap (by_ender sub c t) x.1 ∙ ap (λ o. if_eaten o (pure tt) (by_word sub (c ∷ t))) (none_lone (c ∷ t) x.2 x.3) ∙ ap (λ o. and_then o (λ _. pure tt)) (pieces_whole sub IsSub k x.0 (c ∷ t) u x.4)

lone_short : (t u : Text) → IsLone t u → 1 + length u ≤ length t
lone_short t u (inl x) = omega (arith, whole_short bracket t u x)
lone_short t u (inr x) = omega (arith, whole_short args t u x)

token_short : (sub : Text → Outcome Text Simple) (IsSub : TextRule Simple) → TMeets 0 sub IsSub → (t u : Text) → IsToken IsSub t u → 1 + length u ≤ length t
token_short sub IsSub k t u (inl x) = omega (arith, ap length x.1)
token_short sub IsSub k t u (inr (inl x)) = lone_short t u x
token_short sub IsSub k t u (inr (inr x)) = pieces_take sub IsSub k x.0 t u x.1 x.4

-- ---- the next newline

abbrev line_if : (Text → Outcome Text Simple) → ℕ → Text → Bool → Outcome Text (Unit {0})
line_if sub n t v = if v then Some (tt, gap t) else and_then (token sub (gap t)) (λ _. line_from sub n)

line_sound : (sub : Text → Outcome Text Simple) (IsSub : TextRule Simple) → TMeets 0 sub IsSub → (n : ℕ) (t u : Text) (a : Unit {0}) → line_from sub n t ≡ Some (a, u) → (m : ℕ) × IsNewlineBehind IsSub m t u
unfolding line_from
line_sound sub IsSub k zero t u a e = cc
line_sound sub IsSub k (suc n) t u a e = by_test (begins_with 10 (gap t)) refl e (λ y b x. line_sound sub IsSub k n y u b x)
  where
    by_test : (v : Bool) → begins_with 10 (gap t) ≡ v → line_if sub n t v ≡ Some (a, u)
        → ((y : Text) (b : Unit {0}) → line_from sub n y ≡ Some (b, u) → (m : ℕ) × IsNewlineBehind IsSub m y u) → (m : ℕ) × IsNewlineBehind IsSub m t u
    by_test true is e rec = let r = right_of tt a (gap t) u e in (0, (sym r, ap (begins_with 10) (sym r) ∙ is))
    by_test false is e rec =
        let w = both_of (token sub (gap t)) (λ _. line_from sub n) (a, u) e in
        let r = rec w.left a w.is_second in
        (suc r.0, (w.left, is, token_sound sub IsSub k (gap t) w.left w.first w.is_first, r.1))

some_ten : (t : Text) → begins_with 10 t ≡ true → 1 ≤ length t
some_ten [] e = cc
some_ten (c ∷ t) e = omega arith

line_whole : (sub : Text → Outcome Text Simple) (IsSub : TextRule Simple) → TMeets 0 sub IsSub → (m n : ℕ) (t u : Text) → IsNewlineBehind IsSub m t u → length t ≤ n → line_from sub n t ≡ Some (tt, u)
unfolding line_from
line_whole sub IsSub k zero zero t u x le = absurd (omega (arith, le, some_ten u x.1, ap length x.0, gap_short t))
line_whole sub IsSub k zero (suc n) t u x le = ap (line_if sub n t) (ap (begins_with 10) (sym x.0) ∙ x.1) ∙ ap (λ y. Some (tt, y)) (sym x.0)
line_whole sub IsSub k (suc m) zero t u x le = absurd (omega (arith, le, token_short sub IsSub k (gap t) x.0 x.2, gap_short t))
line_whole sub IsSub k (suc m) (suc n) t u x le =
    ap (line_if sub n t) x.1 ∙ ap (λ o. and_then o (λ _. line_from sub n)) (token_whole sub IsSub k (gap t) x.0 x.2)
    ∙ line_whole sub IsSub k m n x.0 u x.3 (omega (arith, le, token_short sub IsSub k (gap t) x.0 x.2, gap_short t))

start_sound : (sub : Text → Outcome Text Simple) (IsSub : TextRule Simple) → TMeets 0 sub IsSub → (bs : Option Text) (t u : Text) (a : Unit {0}) → or_line sub t bs ≡ Some (a, u) → IsStart IsSub bs t u
unfolding line
start_sound sub IsSub k None t u a e = line_sound sub IsSub k (length t) t u a e
start_sound sub IsSub k (Some b) t u a e = sym (right_of tt a b u e)

start_whole : (sub : Text → Outcome Text Simple) (IsSub : TextRule Simple) → TMeets 0 sub IsSub → (bs : Option Text) (t u : Text) → IsStart IsSub bs t u → or_line sub t bs ≡ Some (tt, u)
unfolding line
start_whole sub IsSub k None t u x = line_whole sub IsSub k x.0 (length t) t u x.1 (omega arith)
start_whole sub IsSub k (Some b) t u x = ap (λ y. Some (tt, y)) (sym x)

-- ---- the body

record TheLines (d t u found all : Text) : Type 0 where
  pub lines : List Text
  pub is_body : IsBody d t u lines
  pub value : all ≡ found ++ body_text lines

abbrev body_if : Text → ℕ → Text → Text → Bool → Outcome Text Text
body_if d n found t v = if v then Some (found, after Comment t) else and_then (expect 10 (after Comment t)) (λ _. body_from d n (found ++ run Comment t ++ 10 ∷ []))

same_bytes : (a b : Text) → bytes_eq a b ≡ true → a ≡ b
same_bytes a b e = (bytes_eq-Decides a b).0 e

body_sound : (d : Text) (n : ℕ) (found t u all : Text) → body_from d n found t ≡ Some (all, u) → TheLines d t u found all
unfolding body_from
body_sound d zero found t u all e = cc
body_sound d (suc n) found t u all e = by_test (bytes_eq (run Comment t) d) refl e (λ f y x. body_sound d n f y u all x)
  where
    by_test : (v : Bool) → bytes_eq (run Comment t) d ≡ v → body_if d n found t v ≡ Some (all, u) → ((f y : Text) → body_from d n f y ≡ Some (all, u) → TheLines d y u f all) → TheLines d t u found all
    by_test true is e rec =
        record {
          lines = [];
          is_body = subst (λ y. IsRun Comment t y d) (right_of found all (after Comment t) u e) (subst (λ y. IsRun Comment t (after Comment t) y) (same_bytes (run Comment t) d is) (run_is Comment t));
          value = sym (left_of found all (after Comment t) u e) ∙ sym (append-nil found);
        }
    by_test false is e rec =
        let w = both_of (expect 10 (after Comment t)) (λ _. body_from d n (found ++ run Comment t ++ 10 ∷ [])) (all, u) e in
        let r = rec (found ++ run Comment t ++ 10 ∷ []) w.left w.is_second in
        record {
          lines = run Comment t ∷ r.lines;
          is_body = (w.left, subst (λ y. IsRun Comment t y (run Comment t)) (expected 10 (after Comment t) w.left w.first w.is_first) (run_is Comment t), is, r.is_body);
          value = r.value ∙ append_assoc (found ++ run Comment t) (10 ∷ []) (body_text r.lines) ∙ append_assoc found (run Comment t) (10 ∷ body_text r.lines);
        }

bytes_same : (d : Text) → bytes_eq d d ≡ true
bytes_same d = (bytes_eq-Decides d d).1 refl

some_delimiter : (d : Text) → is_delimiter d ≡ true → 1 ≤ length d
some_delimiter [] e = cc
some_delimiter (c ∷ d) e = omega arith

body_whole : (d : Text) → is_delimiter d ≡ true → (ls : List Text) (n : ℕ) (found t u : Text) → IsBody d t u ls → length t ≤ n → body_from d n found t ≡ Some (found ++ body_text ls, u)
unfolding body_from
body_whole d g [] zero found t u x le = absurd (omega (arith, le, some_delimiter d g, ap length x.spelling, length-append d u))
body_whole d g [] (suc n) found t u x le =
    ap (body_if d n found t) (ap (λ y. bytes_eq y d) (run_of Comment t u d x) ∙ bytes_same d) ∙ ap₂ (λ y z. Some (y, z)) (sym (append-nil found)) (after_of Comment t u d x)
body_whole d g (l ∷ ls) zero found t u x le = absurd (omega (arith, le, run_short Comment t (10 ∷ x.0) l x.1))
body_whole d g (l ∷ ls) (suc n) found t u x le =
    ap (body_if d n found t) (ap (λ y. bytes_eq y d) (run_of Comment t (10 ∷ x.0) l x.1) ∙ x.2)
    ∙ ap₂ (λ y z. and_then (expect 10 y) (λ _. body_from d n (found ++ z ++ 10 ∷ []))) (after_of Comment t (10 ∷ x.0) l x.1) (run_of Comment t (10 ∷ x.0) l x.1)
    ∙ body_whole d g ls n (found ++ l ++ 10 ∷ []) x.0 u x.3 (omega (arith, le, run_short Comment t (10 ∷ x.0) l x.1))
    ∙ ap (λ y. Some (y, u)) (append_assoc (found ++ l) (10 ∷ []) (body_text ls) ∙ append_assoc found l (10 ∷ body_text ls))

-- ---- here-documents

abbrev delimited : Text → Text → Bool → Outcome Text Text
delimited d v b = if b then Some (d, v) else None

was_true : (a b : Bool) (d x v u : Text) → delimited d v (a && b) ≡ Some (x, u) → (a ≡ true) × (b ≡ true) × (d ≡ x) × (v ≡ u)
was_true true true d x v u e = (refl, refl, left_of d x v u e, right_of d x v u e)
was_true true false d x v u e = cc
was_true false b d x v u e = cc

delimiter_sound : (t u d : Text) → delimiter t ≡ Some (d, u) → IsDelimiter t u d
unfolding delimiter
delimiter_sound t u d e =
    let a = both_of (expect 39 t) (λ _ w. and_then (expect 39 (after Quoted w)) (λ _ v. delimited (run Quoted w) v (is_delimiter (run Quoted w) && ends_word v))) (d, u) e in
    let b = both_of (expect 39 (after Quoted a.left)) (λ _ v. delimited (run Quoted a.left) v (is_delimiter (run Quoted a.left) && ends_word v)) (d, u) a.is_second in
    let c = was_true (is_delimiter (run Quoted a.left)) (ends_word b.left) (run Quoted a.left) d b.left u b.is_second in
    record {
      behind = a.left;
      opens = expected 39 t a.left a.first a.is_first;
      is_quoted = subst (λ y. IsRun Quoted a.left (39 ∷ u) y) c.2 (subst (λ y. IsRun Quoted a.left y (run Quoted a.left)) (expected 39 (after Quoted a.left) b.left b.first b.is_first ∙ ap (λ y. 39 ∷ y) c.3) (run_is Quoted a.left));
      is_good = ap is_delimiter (sym c.2) ∙ c.0;
      is_whole = ap ends_word (sym c.3) ∙ c.1;
    }

delimiter_whole : (t u d : Text) → IsDelimiter t u d → delimiter t ≡ Some (d, u)
unfolding delimiter
delimiter_whole t u d x =
    ap delimiter x.opens
    ∙ ap₂ (λ y z. and_then (expect 39 y) (λ _ v. delimited z v (is_delimiter z && ends_word v))) (after_of Quoted x.behind (39 ∷ u) d x.is_quoted) (run_of Quoted x.behind (39 ∷ u) d x.is_quoted)
    ∙ ap₂ (λ y z. delimited d u (y && z)) x.is_good x.is_whole

delimiter_short : (t u d : Text) → IsDelimiter t u d → 1 + length u ≤ length t
delimiter_short t u d x = omega (arith, ap length x.opens, run_short Quoted x.behind (39 ∷ u) d x.is_quoted)

abbrev at_start : Text → Text → Text → Outcome Place Text
at_start d t u = and_then (body d u) (λ found b. Some (found, here_at t b))

pub here_meets : (sub : Text → Outcome Text Simple) (IsSub : TextRule Simple) → TMeets 0 sub IsSub → Meets 1 (here sub) (IsHere IsSub)
unfolding here body
here_meets sub IsSub k = record {
  sound = λ p q b e.
      let d = both_of (delimiter p.text) (body_of sub p.bodies) (b, q) e in
      let s = both_of (or_line sub d.left p.bodies) (λ _ u. at_start d.first d.left u) (b, q) d.is_second in
      let o = both_of (body d.first s.left) (λ found z. Some (found, here_at d.left z)) (b, q) s.is_second in
      let n = both_of (expect 10 s.left) (λ _ u. body_from d.first (length u) [] u) (o.first, o.left) o.is_first in
      let l = body_sound d.first (length n.left) [] n.left o.left o.first n.is_second in
      record {
        delimiter = d.first;
        behind = d.left;
        body_start = n.left;
        body_end = o.left;
        lines = l.lines;
        is_delimiter = delimiter_sound p.text d.left d.first d.is_first;
        is_start = subst (IsStart IsSub p.bodies d.left) (expected 10 s.left n.left n.first n.is_first) (start_sound sub IsSub k p.bodies d.left s.left s.first s.is_first);
        is_body = l.is_body;
        is_place = sym (right_of o.first b (here_at d.left o.left) q o.is_second);
        value = sym (left_of o.first b (here_at d.left o.left) q o.is_second) ∙ l.value;
      };
  whole = λ p q b x.
      ap (λ o. and_then o (body_of sub p.bodies)) (delimiter_whole p.text x.behind x.delimiter x.is_delimiter)
      ∙ ap (λ o. and_then o (λ _ u. at_start x.delimiter x.behind u)) (start_whole sub IsSub k p.bodies x.behind (10 ∷ x.body_start) x.is_start)
      ∙ ap (λ o. and_then o (λ found z. Some (found, here_at x.behind z))) (body_whole x.delimiter x.is_delimiter.is_good x.lines (length x.body_start) [] x.body_start x.body_end x.is_body (omega arith))
      ∙ ap₂ (λ y z. Some (y, z)) (sym x.value) (sym x.is_place);
  short = λ p q b x. omega (arith, delimiter_short p.text x.behind x.delimiter x.is_delimiter, ap (λ y. length y.text) x.is_place);
}
