-- What is read between commands is what the rules say.
use Rattle.std.proofs.Common.{◌≡◌, ◌∙◌, ◌≤◌, ◌+◌, ℕ, zero, suc, [], ◌∷◌, ◌++◌, refl, sym, ap, ap₂, Bool, true, false, if◌then◌else◌, ◌==◌, length, arith, length-append}
use Rattle.std.proofs.lemmas.Bool.Decides.{nat_tests}
use Rattle.std.specs.Prelude.{Option, Some, None, is_some}
use Rattle.ap_shparse.specs.Bytes.{Text, begins_with, ends_word, past, past_byte}
use Rattle.ap_shparse.specs.Reads.{Outcome, and_then, eaten, if_eaten}
use Rattle.ap_shparse.specs.Places.{Place, at_text, newlines, newlines_from, next_line, past_gap, past_newline}
use Rattle.ap_shparse.specs.Lists.{keyword}
use Rattle.ap_shparse.specs.LineRules.{AreLines, HasNo, IsKeyword, IsNewline, IsWhole, Lines}
use Rattle.ap_shparse.proofs.Keeps.{inner, right_of}
use Rattle.ap_shparse.proofs.KeptPieces.{never_some}
use Rattle.ap_shparse.proofs.PieceMeets.{same_byte}
use Rattle.ap_shparse.proofs.KeptLines.{at_newline, goes_on, stays}
use Rattle.ap_shparse.proofs.FrontLemmas.{all_lines}
use Rattle.ap_shparse.proofs.GapLemmas.{gap_short, lines_short}
use Rattle.ap_shparse.proofs.GrownLemmas.{more_lines}
use Rattle.ap_shparse.proofs.LongestLemmas.{total}
use Rattle.ap_shparse.proofs.OutsideLemmas.{is_there}

-- ---- readings and rules

-- the reading gives a value and a place exactly where the rule has them, and n bytes are taken at least
pub record Meets {A : Type 0} (n : ℕ) (f : Place → Outcome Place A) (R : Place → Place → A → Type 0) : Type 0 where
  pub sound : (p q : Place) (a : A) → f p ≡ Some (a, q) → R p q a
  pub whole : (p q : Place) (a : A) → R p q a → f p ≡ Some (a, q)
  pub short : (p q : Place) (a : A) → R p q a → n + length q.text ≤ length p.text

-- ---- newlines

pub newline_sound : (p q : Place) → past_newline p ≡ Some q → IsNewline p q
newline_sound p q e = let a = at_newline p q e in (a.rest, a.is_text, sym a.is_next)

pub newline_whole : (p q : Place) → IsNewline p q → past_newline p ≡ Some q
newline_whole p q x = ap (λ t. if_eaten (past_byte 10 t) (λ u. Some (next_line p u)) None) x.1 ∙ ap (λ y. Some y) (sym x.2)

no_newline_at : (p : Place) → past_newline p ≡ None → begins_with 10 p.text ≡ false
no_newline_at p e = by_byte (past_byte 10 p.text) e
  where
    by_byte : (o : Option Text) → if_eaten o (λ u. Some (next_line p u)) None ≡ None → is_some o ≡ false
    by_byte None e = refl
    by_byte (Some t) e = cc

none_newline : (p : Place) → begins_with 10 p.text ≡ false → past_newline p ≡ None
none_newline p e = by_byte (past_byte 10 p.text) e
  where
    by_byte : (o : Option Text) → is_some o ≡ false → if_eaten o (λ u. Some (next_line p u)) None ≡ None
    by_byte None e = refl
    by_byte (Some t) e = cc

lines_from : (n : ℕ) (p q : Place) → newlines_from n p ≡ Some q → AreLines p q
unfolding newlines_from
lines_from zero p q e = by_newline (past_newline (past_gap p)) refl e
  where
    by_newline : (o : Option Place) → past_newline (past_gap p) ≡ o → (if is_some o then None else Some (past_gap p)) ≡ Some q → AreLines p q
    by_newline None is e = let s = inner (past_gap p) q e in (0, (sym s, ap (λ y. begins_with 10 y.text) (sym s) ∙ no_newline_at (past_gap p) is))
    by_newline (Some s) is e = cc
lines_from (suc n) p q e = by_newline (past_newline (past_gap p)) refl e (λ s w. lines_from n s q w)
  where
    by_newline : (o : Option Place) → past_newline (past_gap p) ≡ o → if_eaten o (newlines_from n) (Some (past_gap p)) ≡ Some q → ((s : Place) → newlines_from n s ≡ Some q → AreLines s q) → AreLines p q
    by_newline None is e rec = let s = inner (past_gap p) q e in (0, (sym s, ap (λ y. begins_with 10 y.text) (sym s) ∙ no_newline_at (past_gap p) is))
    by_newline (Some s) is e rec = let m = rec s e in (suc m.0, (s, newline_sound (past_gap p) s is, m.1))

pub lines_sound : (p q : Place) → newlines p ≡ Some q → AreLines p q
lines_sound p q e = lines_from (length p.text) p q (all_lines p q e)

lines_read : (n : ℕ) (p q : Place) → Lines n p q → newlines_from n p ≡ Some q
lines_read zero p q l = stays zero p q (sym l.0) (none_newline q l.1)
lines_read (suc n) p q l = goes_on n p (past_gap p) l.0 refl (newline_whole (past_gap p) l.0 l.1) ∙ lines_read n l.0 q l.2

same_end : (n m : ℕ) (p q r : Place) → newlines_from n p ≡ Some q → newlines_from m p ≡ Some r → q ≡ r
same_end n m p q r e w = inner q r (sym (more_lines n (n + m) p q (omega arith) e) ∙ more_lines m (n + m) p r (omega arith) w)

pub lines_whole : (p q : Place) → AreLines p q → newlines p ≡ Some q
lines_whole p q l =
    let r = is_there (newlines p) (total p) in
    r.1 ∙ ap (λ y. Some y) (sym (same_end l.0 (length p.text) p q r.0 (lines_read l.0 p q l.1) (all_lines p r.0 r.1)))

pub lines_shorter : (p q : Place) → AreLines p q → length q.text ≤ length p.text
lines_shorter p q l = omega (arith, (lines_short l.0 p q (lines_read l.0 p q l.1)).short, gap_short p.text)

-- ---- words that are seen whole

pub past_sound : (ks t u : Text) → past ks t ≡ Some u → IsWhole ks t u
past_sound [] t u e = by_end (ends_word t) refl e
  where
    by_end : (v : Bool) → ends_word t ≡ v → (if v then Some t else None) ≡ Some u → IsWhole [] t u
    by_end true is e = let s = inner t u e in (s, ap ends_word (sym s) ∙ is)
    by_end false is e = cc
past_sound (k ∷ ks) [] u e = cc
past_sound (k ∷ ks) (c ∷ t) u e = by_byte (c == k) refl e (λ w. past_sound ks t u w)
  where
    by_byte : (v : Bool) → (c == k) ≡ v → (if v then past ks t else None) ≡ Some u → (past ks t ≡ Some u → IsWhole ks t u) → IsWhole (k ∷ ks) (c ∷ t) u
    by_byte true is e rec = let r = rec e in (ap₂ (λ x y. x ∷ y) (same_byte c k is) r.0, r.1)
    by_byte false is e rec = cc

past_all : (ks u : Text) → ends_word u ≡ true → past ks (ks ++ u) ≡ Some u
past_all [] u e = ap (λ v. if v then Some u else None) e
past_all (k ∷ ks) u e = let s : (k == k) ≡ true = grind (arith, nat_tests) in ap (λ v. if v then past ks (ks ++ u) else None) s ∙ past_all ks u e

pub past_is : (ks t u : Text) → IsWhole ks t u → past ks t ≡ Some u
past_is ks t u x = ap (past ks) x.0 ∙ past_all ks u x.1

pub past_none : (ks t : Text) → HasNo ks t → past ks t ≡ None
past_none ks t n = by_past (past ks t) refl
  where
    by_past : (o : Option Text) → past ks t ≡ o → o ≡ None
    by_past None is = refl
    by_past (Some u) is = absurd (n u (past_sound ks t u is))

pub none_past : (ks t : Text) → past ks t ≡ None → HasNo ks t
none_past ks t e = λ u x. never_some (sym e ∙ past_is ks t u x)

pub whole_short : (ks t u : Text) → IsWhole ks t u → length ks + length u ≤ length t
whole_short ks t u x = omega (arith, ap length x.0, length-append ks u)

pub keyword_short : (k : Text) (p q : Place) → IsKeyword k p q → length k + length q.text ≤ length p.text
keyword_short k p q x = omega (arith, whole_short k p.text x.0 x.1, ap (λ y. length y.text) x.2)

pub keyword_past : (k : Text) (p : Place) (t : Text) → past k p.text ≡ Some t → IsKeyword k p (at_text p t)
keyword_past k p t e = (t, past_sound k p.text t e, refl)

pub past_keyword : (k : Text) (p q : Place) → (x : IsKeyword k p q) → past k p.text ≡ Some x.0
past_keyword k p q x = past_is k p.text x.0 x.1

pub keyword_sound : (k : Text) (p q : Place) (a : Unit {0}) → keyword k p ≡ Some (a, q) → IsKeyword k p q
keyword_sound k p q a e = by_past (past k p.text) refl e
  where
    by_past : (o : Option Text) → past k p.text ≡ o → and_then (eaten o) (λ x t. Some (x, at_text p t)) ≡ Some (a, q) → IsKeyword k p q
    by_past None is e = cc
    by_past (Some t) is e = (t, past_sound k p.text t is, sym (right_of tt a (at_text p t) q e))

pub keyword_whole : (k : Text) (p q : Place) → IsKeyword k p q → keyword k p ≡ Some (tt, q)
keyword_whole k p q x = ap (λ o. and_then (eaten o) (λ y t. Some (y, at_text p t))) (past_keyword k p q x) ∙ ap (λ y. Some (tt, y)) (sym x.2)
