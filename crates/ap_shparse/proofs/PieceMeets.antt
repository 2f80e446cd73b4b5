-- The pieces of a word that are read are those that the rules have.
use Rattle.std.proofs.Common.{◌≡◌, ◌∙◌, ◌≤◌, ◌+◌, ℕ, zero, suc, List, [], ◌∷◌, ◌++◌, ◌⊎◌, inl, inr, refl, sym, ap, ap₂, subst, Bool, true, false, if◌then◌else◌, ◌||◌, ◌==◌, not, map, length, arith, length-append, append-nil, append_assoc}
use Rattle.std.specs.Prelude.{Option, Some, None}
use Rattle.std.proofs.lemmas.Bool.Decides.{nat_tests}
use Rattle.ap_shparse.specs.Bytes.{Text, after, ends_word, has, is_among, is_digit, is_letter, is_plain, past_byte, run}
use Rattle.ap_shparse.specs.Reads.{Outcome, and_then, eaten, if_eaten, pure}
use Rattle.ap_shparse.specs.Pieces.{begins_name, braced, dollar, escapable, escaped, expect, fallback, inside, name, none_found, other, output, outside, parts_of, pieces, plain, quoted, single, unit, units, variable, with_bytes, with_part, with_text}
use Rattle.ap_shparse.specs.PieceRules as rule
use Rattle.ap_shparse.specs.PieceRules.{AreAll, ArePieces, AreQuoted, Given, IsExpansion, IsName, IsPiece, IsQuote, IsRun, Piece, Quote, TextRule, begins_in, gives, has_expansion, has_tilde, not_in_quotes, parts_behind, piece_gives, quote_gives, stays, text_part}
use Rattle.ap_shparse.specs.declared.class.Class.{Class}
use Rattle.ap_shparse.specs.declared.class.Class.TheVariants.{Fallback, Name, Quoted}
use Rattle.ap_shparse.specs.declared.found.Found.{Found}
use Rattle.ap_shparse.specs.declared.tree.Part.{Part}
use Rattle.ap_shparse.specs.declared.tree.Part.TheVariants as part
use Rattle.ap_shparse.specs.declared.tree.Simple.{Simple}
use Rattle.ap_shparse.proofs.Keeps.{both_of, inner, left_of, right_of}
use Rattle.ap_shparse.proofs.KeptPieces.{ends_here, goes_on}
use Rattle.ap_shparse.proofs.GapLemmas.{run_front}

-- the reading of a text gives a value and what is left exactly where the rule has them, and n bytes are taken at least
pub record TMeets {A : Type 0} (n : ℕ) (f : Text → Outcome Text A) (R : Text → Text → A → Type 0) : Type 0 where
  pub sound : (t u : Text) (a : A) → f t ≡ Some (a, u) → R t u a
  pub whole : (t u : Text) (a : A) → R t u a → f t ≡ Some (a, u)
  pub short : (t u : Text) (a : A) → R t u a → n + length u ≤ length t

-- ---- bytes

pub eaten_or : {R C : Type 0} (o : Option Text) (f : Text → R) (g x : R) → if_eaten o f g ≡ x → ((u : Text) → o ≡ Some u → f u ≡ x → C) → (o ≡ None → g ≡ x → C) → C
eaten_or None f g x e some none = none refl e
eaten_or (Some u) f g x e some none = some u refl e

pub same_byte : (c k : ℕ) → (c == k) ≡ true → c ≡ k
same_byte c k e = grind (arith, nat_tests)

pub byte_at : (k : ℕ) (t u : Text) → past_byte k t ≡ Some u → t ≡ k ∷ u
byte_at k [] u e = cc
byte_at k (c ∷ t) u e = by_byte (c == k) refl e
  where
    by_byte : (v : Bool) → (c == k) ≡ v → (if v then Some t else None) ≡ Some u → c ∷ t ≡ k ∷ u
    by_byte true is e = ap₂ (λ x y. x ∷ y) (same_byte c k is) (inner t u e)
    by_byte false is e = cc

pub no_byte : (k c : ℕ) (t : Text) → past_byte k (c ∷ t) ≡ None → (c == k) ≡ false
no_byte k c t e = by_byte (c == k) e
  where
    by_byte : (v : Bool) → (if v then Some t else None) ≡ None → v ≡ false
    by_byte true e = cc
    by_byte false e = refl

pub other_byte : (k c : ℕ) (t : Text) → (c == k) ≡ false → past_byte k (c ∷ t) ≡ None
other_byte k c t e = ap (λ v. if v then Some t else None) e

pub expected : (k : ℕ) (t u : Text) (a : Unit {0}) → expect k t ≡ Some (a, u) → t ≡ k ∷ u
expected k t u a e = by_byte (past_byte k t) refl e
  where
    by_byte : (o : Option Text) → past_byte k t ≡ o → eaten o ≡ Some (a, u) → t ≡ k ∷ u
    by_byte None is e = cc
    by_byte (Some v) is e = byte_at k t u (is ∙ ap (λ y. Some y) (right_of tt a v u e))

byte_is : (k : ℕ) (u : Text) → past_byte k (k ∷ u) ≡ Some u
byte_is k u = let e : (k == k) ≡ true = grind (arith, nat_tests) in ap (λ v. if v then Some u else None) e

pub expect_is : (k : ℕ) (u : Text) → expect k (k ∷ u) ≡ Some (tt, u)
expect_is k u = ap eaten (byte_is k u)

-- ---- runs and names

run_all : (k : Class) (t : Text) → AreAll k (run k t)
run_all k [] = tt
run_all k (c ∷ t) = by_has (has k c) refl (run_all k t)
  where
    by_has : (v : Bool) → has k c ≡ v → AreAll k (run k t) → AreAll k (if v then c ∷ run k t else [])
    by_has true is rec = (is, rec)
    by_has false is rec = tt

after_ends : (k : Class) (t : Text) → begins_in k (after k t) ≡ false
after_ends k [] = refl
after_ends k (c ∷ t) = by_has (has k c) refl (after_ends k t)
  where
    by_has : (v : Bool) → has k c ≡ v → begins_in k (after k t) ≡ false → begins_in k (if v then after k t else c ∷ t) ≡ false
    by_has true is rec = rec
    by_has false is rec = is

pub run_is : (k : Class) (t : Text) → IsRun k t (after k t) (run k t)
run_is k t = record { spelling = run_front k t; are_all = run_all k t; longest = after_ends k t }

stops_at : (k : Class) (u : Text) → begins_in k u ≡ false → (run k u ≡ []) × (after k u ≡ u)
stops_at k [] e = (refl, refl)
stops_at k (c ∷ u) e = (ap (λ v. if v then c ∷ run k u else []) e, ap (λ v. if v then after k u else c ∷ u) e)

goes_to : (k : Class) (b u : Text) → AreAll k b → begins_in k u ≡ false → (run k (b ++ u) ≡ b) × (after k (b ++ u) ≡ u)
goes_to k [] u a e = stops_at k u e
goes_to k (c ∷ b) u a e =
    let r = goes_to k b u a.1 e in
    (ap (λ v. if v then c ∷ run k (b ++ u) else []) a.0 ∙ ap (λ y. c ∷ y) r.0, ap (λ v. if v then after k (b ++ u) else c ∷ (b ++ u)) a.0 ∙ r.1)

pub run_of : (k : Class) (t u b : Text) → IsRun k t u b → run k t ≡ b
run_of k t u b x = ap (run k) x.spelling ∙ (goes_to k b u x.are_all x.longest).0

pub after_of : (k : Class) (t u b : Text) → IsRun k t u b → after k t ≡ u
after_of k t u b x = ap (after k) x.spelling ∙ (goes_to k b u x.are_all x.longest).1

pub run_short : (k : Class) (t u b : Text) → IsRun k t u b → length u ≤ length t
run_short k t u b x = omega (arith, ap length x.spelling, length-append b u)

letter_named : (c : ℕ) → is_letter c ≡ true → has Name c ≡ true
unfolding has
letter_named c e = ap (λ v. v || is_digit c) e

not_none : (t u n : Text) → IsName t u n → 1 ≤ length n
not_none t u [] x = by_text t x.begins (ap (begins_in Name) x.is_run.spelling ∙ x.is_run.longest)
  where
    by_text : (t : Text) → begins_name t ≡ true → begins_in Name t ≡ false → 1 ≤ 0
    by_text [] b e = cc
    by_text (c ∷ t) b e = let n = letter_named c b in cc
not_none t u (c ∷ n) x = omega arith

abbrev or_name : Bool → Text → Outcome Text Text
or_name v t = if v then Some (run Name t, after Name t) else None

pub name_meets : TMeets 1 name IsName
unfolding name
name_meets = record {
  sound = λ t u n e. by_begins t u n (begins_name t) refl e;
  whole = λ t u n x. ap (λ v. or_name v t) x.begins ∙ ap₂ (λ y z. Some (y, z)) (run_of Name t u n x.is_run) (after_of Name t u n x.is_run);
  short = λ t u n x. omega (arith, not_none t u n x, ap length x.is_run.spelling, length-append n u);
}
  where
    by_begins : (t u n : Text) (v : Bool) → begins_name t ≡ v → or_name v t ≡ Some (n, u) → IsName t u n
    by_begins t u n true is e =
        record { is_run = subst (λ y. IsRun Name t u y) (left_of (run Name t) n (after Name t) u e) (subst (λ y. IsRun Name t y (run Name t)) (right_of (run Name t) n (after Name t) u e) (run_is Name t)); begins = is }
    by_begins t u n false is e = cc

-- a name begins with no other byte
no_letter : (k : ℕ) (t : Text) → begins_name t ≡ true → is_letter k ≡ false → past_byte k t ≡ None
no_letter k [] e n = cc
no_letter k (c ∷ t) e n = by_byte (c == k) refl
  where
    by_byte : (v : Bool) → (c == k) ≡ v → (if v then Some t else None) ≡ None
    by_byte true is = let s = ap is_letter (same_byte c k is) in cc
    by_byte false is = refl

-- ---- expansions

braced_sound : (IsSub : TextRule Simple) (q : Bool) (t v u : Text) (p : Part) → t ≡ 123 ∷ v → braced q v ≡ Some (p, u) → IsExpansion IsSub q t u p
unfolding braced fallback other
braced_sound IsSub q t v u p is e =
    let w = both_of (name v) (λ n m. if_eaten (past_byte 125 m) (pure (part.Variable n)) (fallback q n m)) (p, u) e in
    let n = name_meets.sound v w.left w.first w.is_first in
    eaten_or (past_byte 125 w.left) (pure (part.Variable w.first)) (fallback q w.first w.left) (Some (p, u)) w.is_second
    (λ m i x.
    let b : w.left ≡ 125 ∷ u = byte_at 125 w.left m i ∙ ap (λ y. 125 ∷ y) (right_of (part.Variable w.first) p m u x) in
    subst (IsExpansion IsSub q t u) (left_of (part.Variable w.first) p m u x) (inr (v, is, subst (λ y. IsName v y w.first) b n)))
    (λ _ x.
    let c = both_of (expect 58 w.left) (λ _ s. and_then (expect 45 s) (λ _ r. and_then (other q r) (λ o. pure (part.Fallback w.first o)))) (p, u) x in
    let d = both_of (expect 45 c.left) (λ _ r. and_then (other q r) (λ o. pure (part.Fallback w.first o))) (p, u) c.is_second in
    let o = both_of (other q d.left) (λ o. pure (part.Fallback w.first o)) (p, u) d.is_second in
    let f = both_of (expect 125 (after (Fallback q) d.left)) (λ _ s. Some (run (Fallback q) d.left, s)) (o.first, o.left) o.is_first in
    let b : w.left ≡ 58 ∷ 45 ∷ d.left = expected 58 w.left c.left c.first c.is_first ∙ ap (λ y. 58 ∷ y) (expected 45 c.left d.left d.first d.is_first) in
    let l : f.left ≡ u = right_of (run (Fallback q) d.left) o.first f.left o.left f.is_second ∙ right_of (part.Fallback w.first o.first) p o.left u o.is_second in
    let a : after (Fallback q) d.left ≡ 125 ∷ u = expected 125 (after (Fallback q) d.left) f.left f.first f.is_first ∙ ap (λ y. 125 ∷ y) l in
    let r : IsRun (Fallback q) d.left (125 ∷ u) o.first = subst (λ y. IsRun (Fallback q) d.left (125 ∷ u) y) (left_of (run (Fallback q) d.left) o.first f.left o.left f.is_second) (subst (λ y. IsRun (Fallback q) d.left y (run (Fallback q) d.left)) a (run_is (Fallback q) d.left)) in
    subst (IsExpansion IsSub q t u) (left_of (part.Fallback w.first o.first) p o.left u o.is_second) (v, d.left, is, subst (λ y. IsName v y w.first) b n, r))

expansion_sound : (sub : Text → Outcome Text Simple) (IsSub : TextRule Simple) → TMeets 0 sub IsSub → (q : Bool) (t u : Text) (p : Part) → dollar sub q t ≡ Some (p, u) → IsExpansion IsSub q t u p
unfolding dollar variable
expansion_sound sub IsSub k q t u p e =
    eaten_or (past_byte 36 t) (pure part.Process) (if_eaten (past_byte 48 t) (pure part.Zero) (if_eaten (past_byte 123 t) (braced q) (if_eaten (past_byte 40 t) (output sub) (variable t)))) (Some (p, u)) e
    (λ v i x. subst (IsExpansion IsSub q t u) (left_of part.Process p v u x) (byte_at 36 t v i ∙ ap (λ y. 36 ∷ y) (right_of part.Process p v u x)))
    (λ _ e. eaten_or (past_byte 48 t) (pure part.Zero) (if_eaten (past_byte 123 t) (braced q) (if_eaten (past_byte 40 t) (output sub) (variable t))) (Some (p, u)) e
    (λ v i x. subst (IsExpansion IsSub q t u) (left_of part.Zero p v u x) (byte_at 48 t v i ∙ ap (λ y. 48 ∷ y) (right_of part.Zero p v u x)))
    (λ _ e. eaten_or (past_byte 123 t) (braced q) (if_eaten (past_byte 40 t) (output sub) (variable t)) (Some (p, u)) e
    (λ v i x. braced_sound IsSub q t v u p (byte_at 123 t v i) x)
    (λ _ e. eaten_or (past_byte 40 t) (output sub) (variable t) (Some (p, u)) e
    (λ v i x.
    let w = both_of (sub v) (λ c. pure (part.Output c)) (p, u) x in
    subst (IsExpansion IsSub q t u) (left_of (part.Output w.first) p w.left u w.is_second)
    (v, byte_at 40 t v i, k.sound v u w.first (w.is_first ∙ ap (λ y. Some (w.first, y)) (right_of (part.Output w.first) p w.left u w.is_second))))
    (λ _ e.
    let w = both_of (name t) (λ n. pure (part.Variable n)) (p, u) e in
    subst (IsExpansion IsSub q t u) (left_of (part.Variable w.first) p w.left u w.is_second)
    (inl (name_meets.sound t u w.first (w.is_first ∙ ap (λ y. Some (w.first, y)) (right_of (part.Variable w.first) p w.left u w.is_second))))))))

braced_name : (q : Bool) (v u n : Text) → IsName v (125 ∷ u) n → braced q v ≡ Some (part.Variable n, u)
unfolding braced
braced_name q v u n x = ap (λ o. and_then o (λ m s. if_eaten (past_byte 125 s) (pure (part.Variable m)) (fallback q m s))) (name_meets.whole v (125 ∷ u) n x)

braced_other : (q : Bool) (v m u n w : Text) → IsName v (58 ∷ 45 ∷ m) n → IsRun (Fallback q) m (125 ∷ u) w → braced q v ≡ Some (part.Fallback n w, u)
unfolding braced fallback other
braced_other q v m u n w x r =
    ap (λ o. and_then o (λ y s. if_eaten (past_byte 125 s) (pure (part.Variable y)) (fallback q y s))) (name_meets.whole v (58 ∷ 45 ∷ m) n x)
    ∙ ap₂ (λ y z. and_then (and_then (expect 125 y) (λ _ s. Some (z, s))) (λ o. pure (part.Fallback n o))) (after_of (Fallback q) m (125 ∷ u) w r) (run_of (Fallback q) m (125 ∷ u) w r)

named : (sub : Text → Outcome Text Simple) (q : Bool) (t u n : Text) → IsName t u n → dollar sub q t ≡ Some (part.Variable n, u)
unfolding dollar variable
named sub q t u n x =
    ap (λ o. if_eaten o (pure part.Process) (if_eaten (past_byte 48 t) (pure part.Zero) (if_eaten (past_byte 123 t) (braced q) (if_eaten (past_byte 40 t) (output sub) (variable t))))) (no_letter 36 t x.begins refl)
    ∙ ap (λ o. if_eaten o (pure part.Zero) (if_eaten (past_byte 123 t) (braced q) (if_eaten (past_byte 40 t) (output sub) (variable t)))) (no_letter 48 t x.begins refl)
    ∙ ap (λ o. if_eaten o (braced q) (if_eaten (past_byte 40 t) (output sub) (variable t))) (no_letter 123 t x.begins refl)
    ∙ ap (λ o. if_eaten o (output sub) (variable t)) (no_letter 40 t x.begins refl)
    ∙ ap (λ o. and_then o (λ y. pure (part.Variable y))) (name_meets.whole t u n x)

expansion_whole : (sub : Text → Outcome Text Simple) (IsSub : TextRule Simple) → TMeets 0 sub IsSub → (q : Bool) (t u : Text) (p : Part) → IsExpansion IsSub q t u p → dollar sub q t ≡ Some (p, u)
unfolding dollar
expansion_whole sub IsSub k q t u (part.Variable n) (inl x) = named sub q t u n x
expansion_whole sub IsSub k q t u (part.Variable n) (inr x) = ap (dollar sub q) x.1 ∙ braced_name q x.0 u n x.2
expansion_whole sub IsSub k q t u (part.Fallback n w) x = ap (dollar sub q) x.2 ∙ braced_other q x.0 x.1 u n w x.3 x.4
expansion_whole sub IsSub k q t u part.Zero x = ap (dollar sub q) x
expansion_whole sub IsSub k q t u part.Process x = ap (dollar sub q) x
expansion_whole sub IsSub k q t u (part.Output c) x = ap (dollar sub q) x.1 ∙ ap (λ o. and_then o (λ y. pure (part.Output y))) (k.whole x.0 u c x.2)
expansion_whole sub IsSub k q t u (part.Text b) x = absurd x

expansion_short : (sub : Text → Outcome Text Simple) (IsSub : TextRule Simple) → TMeets 0 sub IsSub → (q : Bool) (t u : Text) (p : Part) → IsExpansion IsSub q t u p → length u ≤ length t
expansion_short sub IsSub k q t u (part.Variable n) (inl x) = omega (arith, name_meets.short t u n x)
expansion_short sub IsSub k q t u (part.Variable n) (inr x) = omega (arith, ap length x.1, name_meets.short x.0 (125 ∷ u) n x.2)
expansion_short sub IsSub k q t u (part.Fallback n w) x = omega (arith, ap length x.2, name_meets.short x.0 (58 ∷ 45 ∷ x.1) n x.3, run_short (Fallback q) x.1 (125 ∷ u) w x.4)
expansion_short sub IsSub k q t u part.Zero x = omega (arith, ap length x)
expansion_short sub IsSub k q t u part.Process x = omega (arith, ap length x)
expansion_short sub IsSub k q t u (part.Output c) x = omega (arith, ap length x.1, k.short x.0 u c x.2)
expansion_short sub IsSub k q t u (part.Text b) x = absurd x

-- ---- double quotes

abbrev pub set : Bool → Found → Found
set v f = record f { inside = v }

abbrev pub add : Found → Given → Found
add f (rule.bytes b) = with_bytes f b
add f (rule.expanded p) = with_part f p

abbrev pub add_all : Found → List Given → Found
add_all f [] = f
add_all f (g ∷ gs) = add_all (add f g) gs

record NotIn (c : ℕ) : Type 0 where
  pub no_quote : (c == 34) ≡ false
  pub no_dollar : (c == 36) ≡ false
  pub no_backslash : (c == 92) ≡ false
  pub no_back : (c == 96) ≡ false

among_none : (c : ℕ) → (c == 34) ≡ false → (c == 36) ≡ false → (c == 92) ≡ false → (c == 96) ≡ false → is_among c not_in_quotes ≡ false
among_none c a b d e = grind (arith, nat_tests)

none_among : (c : ℕ) → is_among c not_in_quotes ≡ false → NotIn c
none_among c e = record { no_quote = grind (arith, nat_tests); no_dollar = grind (arith, nat_tests); no_backslash = grind (arith, nat_tests); no_back = grind (arith, nat_tests) }

not_line : (c : ℕ) → is_among c escapable ≡ true → (c == 10) ≡ false
not_line c e = grind (arith, nat_tests)

-- one that is read, or the quotes end
record OneQuote (IsSub : TextRule Simple) (f : Found) (t m : Text) (g : Found) : Type 0 where
  pub one : Quote
  pub is_one : IsQuote IsSub t m one
  pub value : g ≡ set true (add f (quote_gives one))

abbrev by_escape : Bool → Bool → Found → ℕ → Text → Outcome Text Found
by_escape line among f c t = if line then None else (if among then Some (with_bytes (set true f) (c ∷ []), t) else Some (with_bytes (set true f) (92 ∷ []), c ∷ t))

abbrev one_of : Bool → Found → Text → Outcome Text Found
one_of v f t = if v then Some (f, t) else None

abbrev none_or : Bool → Found → Text → Outcome Text Found
none_or v f t = if v then None else Some (f, t)

escaped_sound : (IsSub : TextRule Simple) (f : Found) (t v m : Text) (g : Found) → t ≡ 92 ∷ v → escaped (set true f) v ≡ Some (g, m) → OneQuote IsSub f t m g
unfolding escaped
escaped_sound IsSub f t [] m g is e = cc
escaped_sound IsSub f t (c ∷ w) m g is e = by_test (c == 10) (is_among c escapable) refl refl e
  where
    by_test : (x y : Bool) → (c == 10) ≡ x → is_among c escapable ≡ y
        → by_escape x y f c w ≡ Some (g, m) → OneQuote IsSub f t m g
    by_test true y l a e = cc
    by_test false true l a e =
        record { one = rule.escape c; is_one = (is ∙ ap (λ z. 92 ∷ c ∷ z) (right_of (with_bytes (set true f) (c ∷ [])) g w m e), a); value = sym (left_of (with_bytes (set true f) (c ∷ [])) g w m e) }
    by_test false false l a e =
        let r = right_of (with_bytes (set true f) (92 ∷ [])) g (c ∷ w) m e in
        record { one = rule.backslash; is_one = (is ∙ ap (λ z. 92 ∷ z) r, ap stays (sym r) ∙ ap₂ (λ x y. not (x || y)) l a); value = sym (left_of (with_bytes (set true f) (92 ∷ [])) g (c ∷ w) m e) }

abbrev expand_in : (Text → Outcome Text Simple) → Found → Text → Outcome Text Found
expand_in sub f u = and_then (dollar sub true u) (λ p. pure (with_part f p))

quote_sound : (sub : Text → Outcome Text Simple) (IsSub : TextRule Simple) → TMeets 0 sub IsSub → (f : Found) (t m : Text) (g : Found) → unit sub (set true f) t ≡ Some (g, m)
    → OneQuote IsSub f t m g ⊎ ((t ≡ 34 ∷ m) × (g ≡ set false f))
unfolding unit inside quoted
quote_sound sub IsSub k f t m g e =
    eaten_or (past_byte 34 t) (pure (set false f)) (if_eaten (past_byte 92 t) (escaped (set true f)) (if_eaten (past_byte 36 t) (expand_in sub (set true f)) (quoted (set true f) t))) (Some (g, m)) e
    (λ v i x. inr (byte_at 34 t v i ∙ ap (λ y. 34 ∷ y) (right_of (set false f) g v m x), sym (left_of (set false f) g v m x)))
    (λ nq e. eaten_or (past_byte 92 t) (escaped (set true f)) (if_eaten (past_byte 36 t) (expand_in sub (set true f)) (quoted (set true f) t)) (Some (g, m)) e
    (λ v i x. inl (escaped_sound IsSub f t v m g (byte_at 92 t v i) x))
    (λ nb e. eaten_or (past_byte 36 t) (expand_in sub (set true f)) (quoted (set true f) t) (Some (g, m)) e
    (λ v i x.
    let w = both_of (dollar sub true v) (λ p. pure (with_part (set true f) p)) (g, m) x in
    inl (record {
      one = rule.expands w.first;
      is_one = (v, byte_at 36 t v i, expansion_sound sub IsSub k true v m w.first (w.is_first ∙ ap (λ y. Some (w.first, y)) (right_of (with_part (set true f) w.first) g w.left m w.is_second)));
      value = sym (left_of (with_part (set true f) w.first) g w.left m w.is_second);
    }))
    (λ nd e. by_text t nq nb nd e)))
  where
    by_back : (c : ℕ) (u : Text) → (c == 34) ≡ false → (c == 92) ≡ false → (c == 36) ≡ false → (v : Bool) → (c == 96) ≡ v
        → none_or v (with_bytes (set true f) (c ∷ [])) u ≡ Some (g, m) → OneQuote IsSub f (c ∷ u) m g ⊎ ((c ∷ u ≡ 34 ∷ m) × (g ≡ set false f))
    by_back c u nq nb nd true is e = cc
    by_back c u nq nb nd false is e =
        inl (record { one = rule.byte c; is_one = (ap (λ y. c ∷ y) (right_of (with_bytes (set true f) (c ∷ [])) g u m e), among_none c nq nd nb is); value = sym (left_of (with_bytes (set true f) (c ∷ [])) g u m e) })

    by_text : (t : Text) → past_byte 34 t ≡ None → past_byte 92 t ≡ None → past_byte 36 t ≡ None → quoted (set true f) t ≡ Some (g, m) → OneQuote IsSub f t m g ⊎ ((t ≡ 34 ∷ m) × (g ≡ set false f))
    by_text [] nq nb nd e = cc
    by_text (c ∷ u) nq nb nd e = by_back c u (no_byte 34 c u nq) (no_byte 92 c u nb) (no_byte 36 c u nd) (c == 96) refl e

pub neither : (x y : Bool) → not (x || y) ≡ true → (x ≡ false) × (y ≡ false)
neither true y e = cc
neither false true e = cc
neither false false e = (refl, refl)

quote_whole : (sub : Text → Outcome Text Simple) (IsSub : TextRule Simple) → TMeets 0 sub IsSub → (f : Found) (t m : Text) (q : Quote) → IsQuote IsSub t m q → unit sub (set true f) t ≡ Some (set true (add f (quote_gives q)), m)
unfolding unit inside quoted escaped
quote_whole sub IsSub k f t m (rule.byte c) x =
    let n = none_among c x.1 in
    ap (unit sub (set true f)) x.0
    ∙ ap (λ o. if_eaten o (pure (set false f)) (if_eaten (past_byte 92 (c ∷ m)) (escaped (set true f)) (if_eaten (past_byte 36 (c ∷ m)) (expand_in sub (set true f)) (quoted (set true f) (c ∷ m))))) (other_byte 34 c m n.no_quote)
    ∙ ap (λ o. if_eaten o (escaped (set true f)) (if_eaten (past_byte 36 (c ∷ m)) (expand_in sub (set true f)) (quoted (set true f) (c ∷ m)))) (other_byte 92 c m n.no_backslash)
    ∙ ap (λ o. if_eaten o (expand_in sub (set true f)) (quoted (set true f) (c ∷ m))) (other_byte 36 c m n.no_dollar)
    ∙ ap (λ v. none_or v (with_bytes (set true f) (c ∷ [])) m) n.no_back
quote_whole sub IsSub k f t m rule.backslash x = ap (unit sub (set true f)) x.0 ∙ by_text m x.1
  where
    by_text : (m : Text) → stays m ≡ true → escaped (set true f) m ≡ Some (with_bytes (set true f) (92 ∷ []), m)
    by_text [] s = cc
    by_text (c ∷ w) s =
        let n = neither (c == 10) (is_among c escapable) s in
        ap₂ (λ x y. by_escape x y f c w) n.0 n.1
quote_whole sub IsSub k f t m (rule.escape c) x =
    ap (unit sub (set true f)) x.0
    ∙ ap₂ (λ y z. by_escape y z f c m) (not_line c x.1) x.1
quote_whole sub IsSub k f t m (rule.expands p) x = ap (unit sub (set true f)) x.1 ∙ ap (λ o. and_then o (λ y. pure (with_part (set true f) y))) (expansion_whole sub IsSub k true x.0 m p x.2)

quote_short : (sub : Text → Outcome Text Simple) (IsSub : TextRule Simple) → TMeets 0 sub IsSub → (t m : Text) (q : Quote) → IsQuote IsSub t m q → 1 + length m ≤ length t
quote_short sub IsSub k t m (rule.byte c) x = omega (arith, ap length x.0)
quote_short sub IsSub k t m rule.backslash x = omega (arith, ap length x.0)
quote_short sub IsSub k t m (rule.escape c) x = omega (arith, ap length x.0)
quote_short sub IsSub k t m (rule.expands p) x = omega (arith, ap length x.1, expansion_short sub IsSub k true x.0 m p x.2)

quoted_short : (sub : Text → Outcome Text Simple) (IsSub : TextRule Simple) → TMeets 0 sub IsSub → (qs : List Quote) (t u : Text) → AreQuoted IsSub t u qs → 1 + length u ≤ length t
quoted_short sub IsSub k [] t u x = omega (arith, ap length x)
quoted_short sub IsSub k (q ∷ qs) t u x = omega (arith, quote_short sub IsSub k t x.0 q x.1, quoted_short sub IsSub k qs x.0 u x.2)

closes_at : (sub : Text → Outcome Text Simple) (f : Found) (t u : Text) → t ≡ 34 ∷ u → unit sub (set true f) t ≡ Some (set false f, u)
unfolding unit inside
closes_at sub f t u x = ap (unit sub (set true f)) x

quoted_read : (sub : Text → Outcome Text Simple) (IsSub : TextRule Simple) → TMeets 0 sub IsSub → (qs : List Quote) (f : Found) (t u : Text) (a : Found) (r : Text) → AreQuoted IsSub t u qs
    → ((n : ℕ) → length u ≤ n → units sub n (set false (add_all f (map quote_gives qs))) u ≡ Some (a, r)) → (n : ℕ) → length t ≤ n → units sub n (set true f) t ≡ Some (a, r)
quoted_read sub IsSub k qs f t u a r x next zero le = absurd (omega (arith, le, quoted_short sub IsSub k qs t u x))
quoted_read sub IsSub k [] f t u a r x next (suc n) le =
    goes_on sub n (set true f) t refl ∙ ap (λ o. and_then o (units sub n)) (closes_at sub f t u x) ∙ next n (omega (arith, le, ap length x))
quoted_read sub IsSub k (q ∷ qs) f t u a r x next (suc n) le =
    goes_on sub n (set true f) t refl ∙ ap (λ o. and_then o (units sub n)) (quote_whole sub IsSub k f t x.0 q x.1)
    ∙ quoted_read sub IsSub k qs (add f (quote_gives q)) x.0 u a r x.2 next n (omega (arith, le, quote_short sub IsSub k t x.0 q x.1))

-- ---- pieces

abbrev with_piece : Found → Piece → Found
with_piece f (rule.plain c) = with_bytes (record f { tilde = f.tilde || c == 126 }) (c ∷ [])
with_piece f (rule.single b) = with_bytes f b
with_piece f (rule.double qs) = add_all f (map quote_gives qs)
with_piece f (rule.expansion p) = with_part (record f { dollar = true }) p

abbrev pub with_pieces : Found → List Piece → Found
with_pieces f [] = f
with_pieces f (p ∷ ps) = with_pieces (with_piece f p) ps

abbrev expand_out : (Text → Outcome Text Simple) → Found → Text → Outcome Text Found
expand_out sub f u = and_then (dollar sub false u) (λ p. pure (with_part (record f { dollar = true }) p))

record OnePiece (IsSub : TextRule Simple) (f : Found) (t m : Text) (g : Found) : Type 0 where
  pub one : Piece
  pub is_one : IsPiece IsSub t m one
  pub value : g ≡ set false (with_piece f one)

single_sound : (IsSub : TextRule Simple) (f : Found) (t v m : Text) (g : Found) → t ≡ 39 ∷ v → single (set false f) v ≡ Some (g, m) → OnePiece IsSub f t m g
unfolding single
single_sound IsSub f t v m g is e =
    let w = both_of (expect 39 (after Quoted v)) (λ _ u. Some (with_bytes (set false f) (run Quoted v), u)) (g, m) e in
    let l = right_of (with_bytes (set false f) (run Quoted v)) g w.left m w.is_second in
    record {
      one = rule.single (run Quoted v);
      is_one = (v, is, subst (λ y. IsRun Quoted v y (run Quoted v)) (expected 39 (after Quoted v) w.left w.first w.is_first ∙ ap (λ y. 39 ∷ y) l) (run_is Quoted v));
      value = sym (left_of (with_bytes (set false f) (run Quoted v)) g w.left m w.is_second);
    }

plain_sound : (IsSub : TextRule Simple) (f : Found) (t m : Text) (g : Found) → plain (set false f) t ≡ Some (g, m) → OnePiece IsSub f t m g
unfolding plain
plain_sound IsSub f [] m g e = cc
plain_sound IsSub f (c ∷ u) m g e = by_plain (is_plain c) refl e
  where
    by_plain : (v : Bool) → is_plain c ≡ v → one_of v (set false (with_piece f (rule.plain c))) u ≡ Some (g, m) → OnePiece IsSub f (c ∷ u) m g
    by_plain true is e = record { one = rule.plain c; is_one = (ap (λ y. c ∷ y) (right_of (set false (with_piece f (rule.plain c))) g u m e), is); value = sym (left_of (set false (with_piece f (rule.plain c))) g u m e) }
    by_plain false is e = cc

piece_sound : (sub : Text → Outcome Text Simple) (IsSub : TextRule Simple) → TMeets 0 sub IsSub → (f : Found) (t m : Text) (g : Found) → unit sub (set false f) t ≡ Some (g, m)
    → OnePiece IsSub f t m g ⊎ ((t ≡ 34 ∷ m) × (g ≡ set true f))
unfolding unit outside
piece_sound sub IsSub k f t m g e =
    eaten_or (past_byte 39 t) (single (set false f)) (if_eaten (past_byte 34 t) (pure (set true f)) (if_eaten (past_byte 36 t) (expand_out sub (set false f)) (plain (set false f) t))) (Some (g, m)) e
    (λ v i x. inl (single_sound IsSub f t v m g (byte_at 39 t v i) x))
    (λ _ e. eaten_or (past_byte 34 t) (pure (set true f)) (if_eaten (past_byte 36 t) (expand_out sub (set false f)) (plain (set false f) t)) (Some (g, m)) e
    (λ v i x. inr (byte_at 34 t v i ∙ ap (λ y. 34 ∷ y) (right_of (set true f) g v m x), sym (left_of (set true f) g v m x)))
    (λ _ e. eaten_or (past_byte 36 t) (expand_out sub (set false f)) (plain (set false f) t) (Some (g, m)) e
    (λ v i x.
    let w = both_of (dollar sub false v) (λ p. pure (set false (with_piece f (rule.expansion p)))) (g, m) x in
    inl (record {
      one = rule.expansion w.first;
      is_one = (v, byte_at 36 t v i, expansion_sound sub IsSub k false v m w.first (w.is_first ∙ ap (λ y. Some (w.first, y)) (right_of (set false (with_piece f (rule.expansion w.first))) g w.left m w.is_second)));
      value = sym (left_of (set false (with_piece f (rule.expansion w.first))) g w.left m w.is_second);
    }))
    (λ _ e. inl (plain_sound IsSub f t m g e))))

plain_not : (c k : ℕ) → is_plain c ≡ true → is_plain k ≡ false → (c == k) ≡ false
plain_not c k e n = by_byte (c == k) refl
  where
    by_byte : (v : Bool) → (c == k) ≡ v → v ≡ false
    by_byte true is = let s = ap is_plain (same_byte c k is) in cc
    by_byte false is = refl

specials : (is_plain 39 ≡ false) × (is_plain 34 ≡ false) × (is_plain 36 ≡ false)
unfolding is_plain
specials = (refl, refl, refl)

plain_inside : (c : ℕ) (u : Text) → is_plain c ≡ true → ends_word (c ∷ u) ≡ false
unfolding ends_word is_plain
plain_inside c u e = grind (arith, nat_tests)

quotes_inside : (u : Text) → (ends_word (39 ∷ u) ≡ false) × (ends_word (34 ∷ u) ≡ false) × (ends_word (36 ∷ u) ≡ false)
unfolding ends_word
quotes_inside u = (refl, refl, refl)

piece_inside : (IsSub : TextRule Simple) (t m : Text) (p : Piece) → IsPiece IsSub t m p → ends_word t ≡ false
piece_inside IsSub t m (rule.plain c) x = ap ends_word x.0 ∙ plain_inside c m x.1
piece_inside IsSub t m (rule.single b) x = ap ends_word x.1 ∙ (quotes_inside x.0).0
piece_inside IsSub t m (rule.double qs) x = ap ends_word x.1 ∙ (quotes_inside x.0).1
piece_inside IsSub t m (rule.expansion p) x = ap ends_word x.1 ∙ (quotes_inside x.0).2

piece_short : (sub : Text → Outcome Text Simple) (IsSub : TextRule Simple) → TMeets 0 sub IsSub → (t m : Text) (p : Piece) → IsPiece IsSub t m p → 1 + length m ≤ length t
piece_short sub IsSub k t m (rule.plain c) x = omega (arith, ap length x.0)
piece_short sub IsSub k t m (rule.single b) x = omega (arith, ap length x.1, run_short Quoted x.0 (39 ∷ m) b x.2)
piece_short sub IsSub k t m (rule.double qs) x = omega (arith, ap length x.1, quoted_short sub IsSub k qs x.0 m x.2)
piece_short sub IsSub k t m (rule.expansion p) x = omega (arith, ap length x.1, expansion_short sub IsSub k false x.0 m p x.2)

pub pieces_short : (sub : Text → Outcome Text Simple) (IsSub : TextRule Simple) → TMeets 0 sub IsSub → (ps : List Piece) (t u : Text) → ArePieces IsSub t u ps → length u ≤ length t
pieces_short sub IsSub k [] t u x = omega (arith, ap length x.0)
pieces_short sub IsSub k (p ∷ ps) t u x = omega (arith, piece_short sub IsSub k t x.0 p x.1, pieces_short sub IsSub k ps x.0 u x.2)

pub pieces_take : (sub : Text → Outcome Text Simple) (IsSub : TextRule Simple) → TMeets 0 sub IsSub → (ps : List Piece) (t u : Text) → ends_word t ≡ false → ArePieces IsSub t u ps → 1 + length u ≤ length t
pieces_take sub IsSub k [] t u n x = absurd (no_end (sym n ∙ ap ends_word x.0 ∙ x.1))
  where
    no_end : false ≡ true → ⊥
    no_end e = cc
pieces_take sub IsSub k (p ∷ ps) t u n x = omega (arith, piece_short sub IsSub k t x.0 p x.1, pieces_short sub IsSub k ps x.0 u x.2)

plain_read : (sub : Text → Outcome Text Simple) (f : Found) (t m : Text) (c : ℕ) → t ≡ c ∷ m → is_plain c ≡ true → unit sub (set false f) t ≡ Some (set false (with_piece f (rule.plain c)), m)
unfolding unit outside plain
plain_read sub f t m c is p =
    ap (unit sub (set false f)) is
    ∙ ap (λ o. if_eaten o (single (set false f)) (if_eaten (past_byte 34 (c ∷ m)) (pure (set true f)) (if_eaten (past_byte 36 (c ∷ m)) (expand_out sub (set false f)) (plain (set false f) (c ∷ m))))) (other_byte 39 c m (plain_not c 39 p specials.0))
    ∙ ap (λ o. if_eaten o (pure (set true f)) (if_eaten (past_byte 36 (c ∷ m)) (expand_out sub (set false f)) (plain (set false f) (c ∷ m)))) (other_byte 34 c m (plain_not c 34 p specials.1))
    ∙ ap (λ o. if_eaten o (expand_out sub (set false f)) (plain (set false f) (c ∷ m))) (other_byte 36 c m (plain_not c 36 p specials.2))
    ∙ ap (λ v. one_of v (set false (with_piece f (rule.plain c))) m) p

single_read : (sub : Text → Outcome Text Simple) (f : Found) (t m v b : Text) → t ≡ 39 ∷ v → IsRun Quoted v (39 ∷ m) b → unit sub (set false f) t ≡ Some (set false (with_bytes f b), m)
unfolding unit outside single
single_read sub f t m v b is r =
    ap (unit sub (set false f)) is ∙ ap₂ (λ y z. and_then (expect 39 y) (λ _ u. Some (with_bytes (set false f) z, u))) (after_of Quoted v (39 ∷ m) b r) (run_of Quoted v (39 ∷ m) b r)

opens_at : (sub : Text → Outcome Text Simple) (f : Found) (t v : Text) → t ≡ 34 ∷ v → unit sub (set false f) t ≡ Some (set true f, v)
unfolding unit outside
opens_at sub f t v x = ap (unit sub (set false f)) x

expansion_read : (sub : Text → Outcome Text Simple) (IsSub : TextRule Simple) → TMeets 0 sub IsSub → (f : Found) (t m v : Text) (p : Part) → t ≡ 36 ∷ v → IsExpansion IsSub false v m p
    → unit sub (set false f) t ≡ Some (set false (with_piece f (rule.expansion p)), m)
unfolding unit outside
expansion_read sub IsSub k f t m v p is x = ap (unit sub (set false f)) is ∙ ap (λ o. and_then o (λ y. pure (set false (with_piece f (rule.expansion y))))) (expansion_whole sub IsSub k false v m p x)

pieces_read : (sub : Text → Outcome Text Simple) (IsSub : TextRule Simple) → TMeets 0 sub IsSub → (ps : List Piece) (f : Found) (t u : Text) → ArePieces IsSub t u ps → (n : ℕ) → length t ≤ n → units sub n (set false f) t ≡ Some (set false (with_pieces f ps), u)
pieces_read sub IsSub k [] f t u x n le = ends_here sub n (set false f) t (ap ends_word x.0 ∙ x.1) ∙ ap (λ y. Some (set false f, y)) x.0
pieces_read sub IsSub k (p ∷ ps) f t u x zero le = absurd (omega (arith, le, piece_short sub IsSub k t x.0 p x.1))
pieces_read sub IsSub k (rule.plain c ∷ ps) f t u x (suc n) le =
    goes_on sub n (set false f) t (piece_inside IsSub t x.0 (rule.plain c) x.1) ∙ ap (λ o. and_then o (units sub n)) (plain_read sub f t x.0 c x.1.0 x.1.1)
    ∙ pieces_read sub IsSub k ps (with_piece f (rule.plain c)) x.0 u x.2 n (omega (arith, le, piece_short sub IsSub k t x.0 (rule.plain c) x.1))
pieces_read sub IsSub k (rule.single b ∷ ps) f t u x (suc n) le =
    goes_on sub n (set false f) t (piece_inside IsSub t x.0 (rule.single b) x.1) ∙ ap (λ o. and_then o (units sub n)) (single_read sub f t x.0 x.1.0 b x.1.1 x.1.2)
    ∙ pieces_read sub IsSub k ps (with_bytes f b) x.0 u x.2 n (omega (arith, le, piece_short sub IsSub k t x.0 (rule.single b) x.1))
pieces_read sub IsSub k (rule.double qs ∷ ps) f t u x (suc n) le =
    goes_on sub n (set false f) t (piece_inside IsSub t x.0 (rule.double qs) x.1) ∙ ap (λ o. and_then o (units sub n)) (opens_at sub f t x.1.0 x.1.1)
    ∙ quoted_read sub IsSub k qs f x.1.0 x.0 (set false (with_pieces (add_all f (map quote_gives qs)) ps)) u x.1.2 (λ m l. pieces_read sub IsSub k ps (add_all f (map quote_gives qs)) x.0 u x.2 m l) n (omega (arith, le, ap length x.1.1))
pieces_read sub IsSub k (rule.expansion p ∷ ps) f t u x (suc n) le =
    goes_on sub n (set false f) t (piece_inside IsSub t x.0 (rule.expansion p) x.1) ∙ ap (λ o. and_then o (units sub n)) (expansion_read sub IsSub k f t x.0 x.1.0 p x.1.1 x.1.2)
    ∙ pieces_read sub IsSub k ps (with_piece f (rule.expansion p)) x.0 u x.2 n (omega (arith, le, piece_short sub IsSub k t x.0 (rule.expansion p) x.1))

-- what a reading says, outside of double quotes and within them
pub record ReadOut (IsSub : TextRule Simple) (f : Found) (t u : Text) (a : Found) : Type 0 where
  pub pieces : List Piece
  pub are_pieces : ArePieces IsSub t u pieces
  pub value : a ≡ set false (with_pieces f pieces)

record ReadIn (IsSub : TextRule Simple) (f : Found) (t u : Text) (a : Found) : Type 0 where
  pub quotes : List Quote
  pub quotes_end : Text
  pub pieces : List Piece
  pub are_quotes : AreQuoted IsSub t quotes_end quotes
  pub are_pieces : ArePieces IsSub quotes_end u pieces
  pub value : a ≡ set false (with_pieces (add_all f (map quote_gives quotes)) pieces)

abbrev Read : Bool → TextRule Simple → Found → Text → Text → Found → Type 0
Read true IsSub f t u a = ReadIn IsSub f t u a
Read false IsSub f t u a = ReadOut IsSub f t u a

abbrev or_more : Bool → Found → Text → Outcome Text Found → Outcome Text Found
or_more v f t o = if v then Some (f, t) else o

units_sound : (sub : Text → Outcome Text Simple) (IsSub : TextRule Simple) → TMeets 0 sub IsSub → (n : ℕ) (v : Bool) (f : Found) (t u : Text) (a : Found) → units sub n (set v f) t ≡ Some (a, u) → Read v IsSub f t u a
unfolding units
units_sound sub IsSub k zero true f t u a e = cc
units_sound sub IsSub k zero false f t u a e = by_end (ends_word t) refl e
  where
    by_end : (v : Bool) → ends_word t ≡ v → or_more v (set false f) t None ≡ Some (a, u) → ReadOut IsSub f t u a
    by_end true is e = let r = right_of (set false f) a t u e in record { pieces = []; are_pieces = (r, ap ends_word (sym r) ∙ is); value = sym (left_of (set false f) a t u e) }
    by_end false is e = cc
units_sound sub IsSub k (suc n) true f t u a e =
    let w = both_of (unit sub (set true f) t) (units sub n) (a, u) e in
    by_quote w.first w.left w.is_second (quote_sound sub IsSub k f t w.left w.first w.is_first) (λ v g y x. units_sound sub IsSub k n v g y u a x)
  where
    by_quote : (g : Found) (m : Text) → units sub n g m ≡ Some (a, u) → OneQuote IsSub f t m g ⊎ ((t ≡ 34 ∷ m) × (g ≡ set false f))
        → ((v : Bool) (h : Found) (y : Text) → units sub n (set v h) y ≡ Some (a, u) → Read v IsSub h y u a) → ReadIn IsSub f t u a
    by_quote g m e (inl q) rec =
        let r = rec true (add f (quote_gives q.one)) m (ap (λ h. units sub n h m) (sym q.value) ∙ e) in
        record { quotes = q.one ∷ r.quotes; quotes_end = r.quotes_end; pieces = r.pieces; are_quotes = (m, q.is_one, r.are_quotes); are_pieces = r.are_pieces; value = r.value }
    by_quote g m e (inr c) rec =
        let r = rec false f m (ap (λ h. units sub n h m) (sym c.1) ∙ e) in
        record { quotes = []; quotes_end = m; pieces = r.pieces; are_quotes = c.0; are_pieces = r.are_pieces; value = r.value }
units_sound sub IsSub k (suc n) false f t u a e = by_end (ends_word t) refl e (λ v g y x. units_sound sub IsSub k n v g y u a x)
  where
    by_piece : (g : Found) (m : Text) → units sub n g m ≡ Some (a, u) → OnePiece IsSub f t m g ⊎ ((t ≡ 34 ∷ m) × (g ≡ set true f))
        → ((v : Bool) (h : Found) (y : Text) → units sub n (set v h) y ≡ Some (a, u) → Read v IsSub h y u a) → ReadOut IsSub f t u a
    by_piece g m e (inl p) rec =
        let r = rec false (with_piece f p.one) m (ap (λ h. units sub n h m) (sym p.value) ∙ e) in
        record { pieces = p.one ∷ r.pieces; are_pieces = (m, p.is_one, r.are_pieces); value = r.value }
    by_piece g m e (inr c) rec =
        let r = rec true f m (ap (λ h. units sub n h m) (sym c.1) ∙ e) in
        record { pieces = rule.double r.quotes ∷ r.pieces; are_pieces = (r.quotes_end, (m, c.0, r.are_quotes), r.are_pieces); value = r.value }

    by_end : (v : Bool) → ends_word t ≡ v → or_more v (set false f) t (and_then (unit sub (set false f) t) (units sub n)) ≡ Some (a, u)
        → ((v : Bool) (h : Found) (y : Text) → units sub n (set v h) y ≡ Some (a, u) → Read v IsSub h y u a) → ReadOut IsSub f t u a
    by_end true is e rec = let r = right_of (set false f) a t u e in record { pieces = []; are_pieces = (r, ap ends_word (sym r) ∙ is); value = sym (left_of (set false f) a t u e) }
    by_end false is e rec =
        let w = both_of (unit sub (set false f) t) (units sub n) (a, u) e in
        by_piece w.first w.left w.is_second (piece_sound sub IsSub k f t w.left w.first w.is_first) rec

pub pieces_sound : (sub : Text → Outcome Text Simple) (IsSub : TextRule Simple) → TMeets 0 sub IsSub → (t u : Text) (a : Found) → pieces sub t ≡ Some (a, u) → ReadOut IsSub none_found t u a
unfolding pieces
pieces_sound sub IsSub k t u a e = units_sound sub IsSub k (length t) false none_found t u a e

pub pieces_whole : (sub : Text → Outcome Text Simple) (IsSub : TextRule Simple) → TMeets 0 sub IsSub → (ps : List Piece) (t u : Text) → ArePieces IsSub t u ps → pieces sub t ≡ Some (set false (with_pieces none_found ps), u)
unfolding pieces
pieces_whole sub IsSub k ps t u x = pieces_read sub IsSub k ps none_found t u x (length t) (omega arith)

-- ---- what was found

texted : (ps : List Part) (t : Text) → with_text ps t ≡ ps ++ text_part t
texted ps [] = sym (append-nil ps)
texted ps (c ∷ t) = refl

parted : (ps : List Part) (t : Text) (p : Part) (gs : List Given) → (with_text ps t ++ p ∷ []) ++ parts_behind [] gs ≡ ps ++ (text_part t ++ p ∷ parts_behind [] gs)
parted ps t p gs =
    append_assoc (with_text ps t) (p ∷ []) (parts_behind [] gs) ∙ ap (λ y. y ++ p ∷ parts_behind [] gs) (texted ps t) ∙ append_assoc ps (text_part t) (p ∷ parts_behind [] gs)

added : (gs hs : List Given) (f : Found) → (add_all f gs).parts ++ parts_behind (add_all f gs).text hs ≡ f.parts ++ parts_behind f.text (gs ++ hs)
added [] hs f = refl
added (rule.bytes b ∷ gs) hs f = added gs hs (with_bytes f b)
added (rule.expanded p ∷ gs) hs f = added gs hs (with_part f p) ∙ parted f.parts f.text p (gs ++ hs)

found_parts : (ps : List Piece) (f : Found) → parts_of (with_pieces f ps) ≡ f.parts ++ parts_behind f.text (gives ps)
found_parts [] f = texted f.parts f.text
found_parts (rule.plain c ∷ ps) f = found_parts ps (with_piece f (rule.plain c))
found_parts (rule.single b ∷ ps) f = found_parts ps (with_bytes f b)
found_parts (rule.double qs ∷ ps) f = found_parts ps (add_all f (map quote_gives qs)) ∙ added (map quote_gives qs) (gives ps) f
found_parts (rule.expansion p ∷ ps) f = found_parts ps (with_piece f (rule.expansion p)) ∙ parted f.parts f.text p (gives ps)

added_dollar : (gs : List Given) (f : Found) → (add_all f gs).dollar ≡ f.dollar
added_dollar [] f = refl
added_dollar (rule.bytes b ∷ gs) f = added_dollar gs (with_bytes f b)
added_dollar (rule.expanded p ∷ gs) f = added_dollar gs (with_part f p)

added_tilde : (gs : List Given) (f : Found) → (add_all f gs).tilde ≡ f.tilde
added_tilde [] f = refl
added_tilde (rule.bytes b ∷ gs) f = added_tilde gs (with_bytes f b)
added_tilde (rule.expanded p ∷ gs) f = added_tilde gs (with_part f p)

pub or_false : (v : Bool) → v ≡ v || false
or_false true = refl
or_false false = refl

pub or_true : (v : Bool) → true ≡ v || true
or_true true = refl
or_true false = refl

or_or : (a b c : Bool) → (a || b) || c ≡ a || (b || c)
or_or true b c = refl
or_or false b c = refl

stays_true : (ps : List Piece) (f : Found) → f.dollar ≡ true → (with_pieces f ps).dollar ≡ true
stays_true [] f e = e
stays_true (rule.plain c ∷ ps) f e = stays_true ps (with_piece f (rule.plain c)) e
stays_true (rule.single b ∷ ps) f e = stays_true ps (with_bytes f b) e
stays_true (rule.double qs ∷ ps) f e = stays_true ps (add_all f (map quote_gives qs)) (added_dollar (map quote_gives qs) f ∙ e)
stays_true (rule.expansion p ∷ ps) f e = stays_true ps (with_piece f (rule.expansion p)) refl

found_dollar : (ps : List Piece) (f : Found) → (with_pieces f ps).dollar ≡ f.dollar || has_expansion ps
found_dollar [] f = or_false f.dollar
found_dollar (rule.plain c ∷ ps) f = found_dollar ps (with_piece f (rule.plain c))
found_dollar (rule.single b ∷ ps) f = found_dollar ps (with_bytes f b)
found_dollar (rule.double qs ∷ ps) f = found_dollar ps (add_all f (map quote_gives qs)) ∙ ap (λ v. v || has_expansion ps) (added_dollar (map quote_gives qs) f)
found_dollar (rule.expansion p ∷ ps) f = stays_true ps (with_piece f (rule.expansion p)) refl ∙ or_true f.dollar

found_tilde : (ps : List Piece) (f : Found) → (with_pieces f ps).tilde ≡ f.tilde || has_tilde ps
found_tilde [] f = or_false f.tilde
found_tilde (rule.plain c ∷ ps) f = found_tilde ps (with_piece f (rule.plain c)) ∙ or_or f.tilde (c == 126) (has_tilde ps)
found_tilde (rule.single b ∷ ps) f = found_tilde ps (with_bytes f b)
found_tilde (rule.double qs ∷ ps) f = found_tilde ps (add_all f (map quote_gives qs)) ∙ ap (λ v. v || has_tilde ps) (added_tilde (map quote_gives qs) f)
found_tilde (rule.expansion p ∷ ps) f = found_tilde ps (with_piece f (rule.expansion p))

pub all_parts : (ps : List Piece) → parts_of (with_pieces none_found ps) ≡ rule.parts ps
all_parts ps = found_parts ps none_found

pub any_expansion : (ps : List Piece) → (with_pieces none_found ps).dollar ≡ has_expansion ps
any_expansion ps = found_dollar ps none_found

pub any_tilde : (ps : List Piece) → (with_pieces none_found ps).tilde ≡ has_tilde ps
any_tilde ps = found_tilde ps none_found
