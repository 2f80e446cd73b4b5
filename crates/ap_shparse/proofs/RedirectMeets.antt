-- The redirections that are read are those that the rules have.
use Rattle.std.proofs.Common.{◌≡◌, ◌∙◌, ◌≤◌, ◌+◌, ℕ, [], ◌∷◌, ◌++◌, refl, sym, ap, ap₂, subst, Bool, true, false, if◌then◌else◌, ◌||◌, ◌-◌, not, length, arith, length-append}
use Rattle.std.specs.Prelude.{Option, Some, None, is_some}
use Rattle.std.proofs.lemmas.Bool.Decides.{nat_tests}
use Rattle.ap_shparse.specs.Bytes.{Text, after, begins_with, has, is_digit, past_byte, run}
use Rattle.ap_shparse.specs.Reads.{Outcome, and_then, if_eaten, pure}
use Rattle.ap_shparse.specs.Places.{Place, at_text, here}
use Rattle.ap_shparse.specs.Words.{plain_word}
use Rattle.ap_shparse.specs.Commands.{past_blanks, redirection_of}
use Rattle.ap_shparse.specs.Redirects.{allows, file_word, is_angle, is_same, next_operator, number, redirects, same, same_at, target_of}
use Rattle.ap_shparse.specs.PieceRules.{AreAll, IsRun, TextRule, begins_in}
use Rattle.ap_shparse.specs.RedirectRules.{IsFile, IsNumber, IsRedirectOperator, IsRedirection, IsTarget, written}
use Rattle.ap_shparse.specs.declared.class.Class.TheVariants.{Blank, Digit}
use Rattle.ap_shparse.specs.declared.redirect.Operator.{Operator}
use Rattle.ap_shparse.specs.declared.redirect.Operator.TheVariants as op
use Rattle.ap_shparse.specs.declared.tree.Redirection.{Redirection}
use Rattle.ap_shparse.specs.declared.tree.Simple.{Simple}
use Rattle.ap_shparse.specs.declared.tree.Target.{Target}
use Rattle.ap_shparse.specs.declared.tree.Target.TheVariants as target
use Rattle.ap_shparse.specs.declared.tree.Word.{Word}
use Rattle.ap_shparse.proofs.Keeps.{both_of, left_of, right_of}
use Rattle.ap_shparse.proofs.GapLemmas.{after_short, run_front}
use Rattle.ap_shparse.proofs.HereMeets.{here_meets}
use Rattle.ap_shparse.proofs.PieceMeets.{TMeets, after_of, byte_at, eaten_or, neither, run_of}
use Rattle.ap_shparse.proofs.WordMeets.{word_meets}

-- ---- operators

none_begins : (k : ℕ) (t : Text) → past_byte k t ≡ None → begins_with k t ≡ false
none_begins k t e = ap is_some e

begins_none : (k : ℕ) (t : Text) → begins_with k t ≡ false → past_byte k t ≡ None
begins_none k t e = by_byte (past_byte k t) e
  where
    by_byte : (o : Option Text) → is_some o ≡ false → o ≡ None
    by_byte None e = refl
    by_byte (Some u) e = cc

abbrev less_sign : Text → Outcome Text Operator
less_sign u = if_eaten (past_byte 60 u) (pure op.Here) (if_eaten (past_byte 62 u) (pure op.Both) (Some (op.Read, u)))

abbrev greater_sign : Text → Outcome Text Operator
greater_sign u = if_eaten (past_byte 38 u) (pure op.Same) (Some (op.Write, u))

operator_sound : (t u : Text) (o : Operator) → next_operator t ≡ Some (o, u) → IsRedirectOperator t u o
unfolding next_operator
operator_sound t u o e =
    eaten_or (past_byte 62 t) greater_sign (if_eaten (past_byte 60 t) less_sign None) (Some (o, u)) e
    (λ v i x. eaten_or (past_byte 38 v) (pure op.Same) (Some (op.Write, v)) (Some (o, u)) x
    (λ w j y. subst (IsRedirectOperator t u) (left_of op.Same o w u y) (byte_at 62 t v i ∙ ap (λ z. 62 ∷ z) (byte_at 38 v w j) ∙ ap (λ z. 62 ∷ 38 ∷ z) (right_of op.Same o w u y), refl))
    (λ j y. let r = right_of op.Write o v u y in
    subst (IsRedirectOperator t u) (left_of op.Write o v u y) (byte_at 62 t v i ∙ ap (λ z. 62 ∷ z) r, ap (λ z. not (begins_with 38 z)) (sym r) ∙ ap not (none_begins 38 v j))))
    (λ _ e. eaten_or (past_byte 60 t) less_sign None (Some (o, u)) e
    (λ v i x. eaten_or (past_byte 60 v) (pure op.Here) (if_eaten (past_byte 62 v) (pure op.Both) (Some (op.Read, v))) (Some (o, u)) x
    (λ w j y. subst (IsRedirectOperator t u) (left_of op.Here o w u y) (byte_at 60 t v i ∙ ap (λ z. 60 ∷ z) (byte_at 60 v w j) ∙ ap (λ z. 60 ∷ 60 ∷ z) (right_of op.Here o w u y), refl))
    (λ j y. eaten_or (past_byte 62 v) (pure op.Both) (Some (op.Read, v)) (Some (o, u)) y
    (λ w l z. subst (IsRedirectOperator t u) (left_of op.Both o w u z) (byte_at 60 t v i ∙ ap (λ s. 60 ∷ s) (byte_at 62 v w l) ∙ ap (λ s. 60 ∷ 62 ∷ s) (right_of op.Both o w u z), refl))
    (λ l z. let r = right_of op.Read o v u z in
    subst (IsRedirectOperator t u) (left_of op.Read o v u z)
    (byte_at 60 t v i ∙ ap (λ s. 60 ∷ s) r, ap (λ s. not (begins_with 60 s || begins_with 62 s)) (sym r) ∙ ap₂ (λ a b. not (a || b)) (none_begins 60 v j) (none_begins 62 v l)))))
    (λ _ e. cc))

not_true : (v : Bool) → not v ≡ true → v ≡ false
not_true true e = cc
not_true false e = refl

operator_whole : (t u : Text) (o : Operator) → IsRedirectOperator t u o → next_operator t ≡ Some (o, u)
unfolding next_operator
operator_whole t u op.Write x = ap next_operator x.0 ∙ ap (λ o. if_eaten o (pure op.Same) (Some (op.Write, u))) (begins_none 38 u (not_true (begins_with 38 u) x.1))
operator_whole t u op.Same x = ap next_operator x.0
operator_whole t u op.Here x = ap next_operator x.0
operator_whole t u op.Both x = ap next_operator x.0
operator_whole t u op.Read x =
    let n = neither (begins_with 60 u) (begins_with 62 u) x.1 in
    ap next_operator x.0 ∙ ap (λ o. if_eaten o (pure op.Here) (if_eaten (past_byte 62 u) (pure op.Both) (Some (op.Read, u)))) (begins_none 60 u n.0)
    ∙ ap (λ o. if_eaten o (pure op.Both) (Some (op.Read, u))) (begins_none 62 u n.1)

written_angle : (o : Operator) (u : Text) → (is_angle (written o ++ u) ≡ true) × (begins_in Digit (written o ++ u) ≡ false)
unfolding has
written_angle op.Write u = (refl, refl)
written_angle op.Read u = (refl, refl)
written_angle op.Both u = (refl, refl)
written_angle op.Same u = (refl, refl)
written_angle op.Here u = (refl, refl)

operator_short : (t u : Text) (o : Operator) → IsRedirectOperator t u o → 1 + length u ≤ length t
operator_short t u op.Write x = omega (arith, ap length x.0)
operator_short t u op.Read x = omega (arith, ap length x.0)
operator_short t u op.Both x = omega (arith, ap length x.0)
operator_short t u op.Same x = omega (arith, ap length x.0)
operator_short t u op.Here x = omega (arith, ap length x.0)

-- ---- targets

abbrev some_file : (Text → Outcome Text Simple) → (Word → Target) → Place → Outcome Place Target
some_file sub make p = and_then (and_then (file_word sub p.text) (λ w. pure (make w))) (λ a t. Some (a, at_text p t))

record AFile (IsSub : TextRule Simple) (make : Word → Target) (p q : Place) (to : Target) : Type 0 where
  pub file : Word
  pub is_file : IsFile IsSub p q file
  pub value : make file ≡ to

abbrev file_if : (Text → Outcome Text Simple) → Text → Bool → Outcome Text Word
file_if sub t v = if v then None else plain_word sub t

file_sound : (sub : Text → Outcome Text Simple) (IsSub : TextRule Simple) → TMeets 0 sub IsSub → (make : Word → Target) (p q : Place) (to : Target) → some_file sub make p ≡ Some (to, q) → AFile IsSub make p q to
unfolding file_word
file_sound sub IsSub k make p q to e =
    let a = both_of (and_then (file_word sub p.text) (λ w. pure (make w))) (λ a t. Some (a, at_text p t)) (to, q) e in
    let b = both_of (file_word sub p.text) (λ w. pure (make w)) (a.first, a.left) a.is_first in
    by_redirects b.first b.left (redirects (past_blanks p).text) refl b.is_first (right_of (make b.first) a.first b.left a.left b.is_second) (right_of a.first to (at_text p a.left) q a.is_second)
    (left_of (make b.first) a.first b.left a.left b.is_second ∙ left_of a.first to (at_text p a.left) q a.is_second)
  where
    by_redirects : (w : Word) (t : Text) {s : Text} → (v : Bool) → redirects (past_blanks p).text ≡ v → file_if sub (past_blanks p).text v ≡ Some (w, t) → t ≡ s → at_text p s ≡ q → make w ≡ to → AFile IsSub make p q to
    by_redirects w t true is e l r m = cc
    by_redirects w t false is e l r m =
        record { file = w; is_file = (t, is, (word_meets sub IsSub k).sound (past_blanks p).text t w e, sym r ∙ ap (at_text p) (sym l)); value = m }

file_whole : (sub : Text → Outcome Text Simple) (IsSub : TextRule Simple) → TMeets 0 sub IsSub → (make : Word → Target) (p q : Place) (w : Word) → IsFile IsSub p q w → some_file sub make p ≡ Some (make w, q)
unfolding file_word
file_whole sub IsSub k make p q w x =
    ap (λ v. and_then (and_then (file_if sub (past_blanks p).text v) (λ y. pure (make y))) (λ a t. Some (a, at_text p t))) x.1
    ∙ ap (λ o. and_then (and_then o (λ y. pure (make y))) (λ a t. Some (a, at_text p t))) ((word_meets sub IsSub k).whole (past_blanks p).text x.0 w x.2)
    ∙ ap (λ y. Some (make w, y)) (sym x.3)

file_short : (sub : Text → Outcome Text Simple) (IsSub : TextRule Simple) → TMeets 0 sub IsSub → (p q : Place) (w : Word) → IsFile IsSub p q w → length q.text ≤ length p.text
file_short sub IsSub k p q w x = omega (arith, (word_meets sub IsSub k).short (past_blanks p).text x.0 w x.2, ap (λ y. length y.text) x.3, after_short Blank p.text)

abbrev same_if : ℕ → Text → Bool → Outcome Text Target
same_if d t v = if v then Some (target.Same (d - 48), t) else None

abbrev lifted : Place → Outcome Text Target → Outcome Place Target
lifted p o = and_then o (λ a t. Some (a, at_text p t))

same_sound : (IsSub : TextRule Simple) (p q : Place) (to : Target) → lifted p (same p.text) ≡ Some (to, q) → IsTarget IsSub op.Same p q to
unfolding same
same_sound IsSub p q to e = by_text (past_blanks p).text refl e
  where
    by_same : (d : ℕ) (t : Text) → (past_blanks p).text ≡ d ∷ t → (v : Bool) → is_same d t ≡ v → lifted p (same_if d t v) ≡ Some (to, q) → IsTarget IsSub op.Same p q to
    by_same d t b true is e =
        subst (IsTarget IsSub op.Same p q) (left_of (target.Same (d - 48)) to (at_text p t) q e) (d, t, b, is, refl, sym (right_of (target.Same (d - 48)) to (at_text p t) q e))
    by_same d t b false is e = cc

    by_text : (b : Text) → (past_blanks p).text ≡ b → lifted p (same_at b) ≡ Some (to, q) → IsTarget IsSub op.Same p q to
    by_text [] b e = cc
    by_text (d ∷ t) b e = by_same d t b (is_same d t) refl e

same_whole : (p q : Place) (n : ℕ) → IsNumber p q n → lifted p (same p.text) ≡ Some (target.Same n, q)
unfolding same
same_whole p q n x =
    ap (λ b. lifted p (same_at b)) x.2 ∙ ap (λ v. lifted p (same_if x.0 x.1 v)) x.3 ∙ ap₂ (λ y z. Some (target.Same y, z)) (sym x.4) (sym x.5)

target_sound : (sub : Text → Outcome Text Simple) (IsSub : TextRule Simple) → TMeets 0 sub IsSub → (o : Operator) (p q : Place) (to : Target) → target_of sub o p ≡ Some (to, q) → IsTarget IsSub o p q to
unfolding target_of
target_sound sub IsSub k op.Same p q to e = same_sound IsSub p q to e
target_sound sub IsSub k op.Write p q to e = let f = file_sound sub IsSub k target.Write p q to e in subst (IsTarget IsSub op.Write p q) f.value f.is_file
target_sound sub IsSub k op.Read p q to e = let f = file_sound sub IsSub k target.Read p q to e in subst (IsTarget IsSub op.Read p q) f.value f.is_file
target_sound sub IsSub k op.Both p q to e = let f = file_sound sub IsSub k target.Both p q to e in subst (IsTarget IsSub op.Both p q) f.value f.is_file
target_sound sub IsSub k op.Here p q to e =
    let w = both_of (here sub (past_blanks p)) (λ b. pure (target.Here b)) (to, q) e in
    subst (IsTarget IsSub op.Here p q) (left_of (target.Here w.first) to w.left q w.is_second)
    ((here_meets sub IsSub k).sound (past_blanks p) q w.first (w.is_first ∙ ap (λ y. Some (w.first, y)) (right_of (target.Here w.first) to w.left q w.is_second)))

target_whole : (sub : Text → Outcome Text Simple) (IsSub : TextRule Simple) → TMeets 0 sub IsSub → (o : Operator) (p q : Place) (to : Target) → IsTarget IsSub o p q to → target_of sub o p ≡ Some (to, q)
unfolding target_of
target_whole sub IsSub k op.Write p q (target.Write w) x = file_whole sub IsSub k target.Write p q w x
target_whole sub IsSub k op.Read p q (target.Read w) x = file_whole sub IsSub k target.Read p q w x
target_whole sub IsSub k op.Both p q (target.Both w) x = file_whole sub IsSub k target.Both p q w x
target_whole sub IsSub k op.Same p q (target.Same n) x = same_whole p q n x
target_whole sub IsSub k op.Here p q (target.Here b) x = ap (λ o. and_then o (λ y. pure (target.Here y))) ((here_meets sub IsSub k).whole (past_blanks p) q b x)
target_whole sub IsSub k o p q to x = absurd x

number_short : (p q : Place) (n : ℕ) → IsNumber p q n → length q.text ≤ length p.text
number_short p q n x = omega (arith, ap length x.2, ap (λ y. length y.text) x.5, after_short Blank p.text)

target_short : (sub : Text → Outcome Text Simple) (IsSub : TextRule Simple) → TMeets 0 sub IsSub → (o : Operator) (p q : Place) (to : Target) → IsTarget IsSub o p q to → length q.text ≤ length p.text
target_short sub IsSub k op.Write p q (target.Write w) x = file_short sub IsSub k p q w x
target_short sub IsSub k op.Read p q (target.Read w) x = file_short sub IsSub k p q w x
target_short sub IsSub k op.Both p q (target.Both w) x = file_short sub IsSub k p q w x
target_short sub IsSub k op.Same p q (target.Same n) x = number_short p q n x
target_short sub IsSub k op.Here p q (target.Here b) x = omega (arith, (here_meets sub IsSub k).short (past_blanks p) q b x, after_short Blank p.text)
target_short sub IsSub k o p q to x = absurd x

-- ---- redirections

allowed_digit : (o : Operator) (d : ℕ) → allows o d ≡ true → is_digit d ≡ true
allowed_digit op.Write d e = grind (arith, nat_tests)
allowed_digit op.Read d e = grind (arith, nat_tests)
allowed_digit op.Both d e = grind (arith, nat_tests)
allowed_digit op.Same d e = grind (arith, nat_tests)
allowed_digit op.Here d e = grind (arith, nat_tests)

number_digits : (o : Operator) (ds : Text) (n : ℕ) → number o ds ≡ Some n → AreAll Digit ds
unfolding number has
number_digits o [] n e = tt
number_digits o (d ∷ []) n e = by_allows (allows o d) refl e
  where
    by_allows : (v : Bool) → allows o d ≡ v → (if v then Some (d - 48) else None) ≡ Some n → AreAll Digit (d ∷ [])
    by_allows true is e = (allowed_digit o d is, tt)
    by_allows false is e = cc
number_digits o (d ∷ c ∷ ds) n e = cc

pub digits_run : (IsSub : TextRule Simple) (o : Operator) (p q : Place) (r : Redirection) → (x : IsRedirection IsSub o p q r) → IsRun Digit p.text x.at_operator x.digits
digits_run IsSub o p q r x =
    record { spelling = x.spelling; are_all = number_digits o x.digits x.descriptor x.is_number; longest = ap (begins_in Digit) x.is_operator.0 ∙ (written_angle o x.behind).1 }

pub redirection_begins : (IsSub : TextRule Simple) (o : Operator) (p q : Place) (r : Redirection) → IsRedirection IsSub o p q r → redirects p.text ≡ true
unfolding redirects
redirection_begins IsSub o p q r x = ap is_angle (after_of Digit p.text x.at_operator x.digits (digits_run IsSub o p q r x) ∙ x.is_operator.0) ∙ (written_angle o x.behind).0

pub redirection_sound : (sub : Text → Outcome Text Simple) (IsSub : TextRule Simple) → TMeets 0 sub IsSub → (p q : Place) (o : Operator) (t : Text) (n : ℕ) (to : Target)
    → next_operator (after Digit p.text) ≡ Some (o, t) → number o (run Digit p.text) ≡ Some n → target_of sub o (at_text p t) ≡ Some (to, q) → IsRedirection IsSub o p q (redirection_of n to)
redirection_sound sub IsSub k p q o t n to e w x = record {
  digits = run Digit p.text;
  at_operator = after Digit p.text;
  behind = t;
  descriptor = n;
  to = to;
  spelling = run_front Digit p.text;
  is_operator = operator_sound (after Digit p.text) t o e;
  is_number = w;
  is_target = target_sound sub IsSub k o (at_text p t) q to x;
  value = refl;
}

-- what a reading finds of a redirection
pub record IsFound (sub : Text → Outcome Text Simple) (o : Operator) (p q : Place) (behind : Text) (descriptor : ℕ) (to : Target) : Type 0 where
  pub is_operator : next_operator (after Digit p.text) ≡ Some (o, behind)
  pub is_number : number o (run Digit p.text) ≡ Some descriptor
  pub is_target : target_of sub o (at_text p behind) ≡ Some (to, q)

pub redirection_whole : (sub : Text → Outcome Text Simple) (IsSub : TextRule Simple) → TMeets 0 sub IsSub → (o : Operator) (p q : Place) (r : Redirection) → (x : IsRedirection IsSub o p q r) → IsFound sub o p q x.behind x.descriptor x.to
redirection_whole sub IsSub k o p q r x =
    let d = digits_run IsSub o p q r x in
    record {
      is_operator = ap next_operator (after_of Digit p.text x.at_operator x.digits d) ∙ operator_whole x.at_operator x.behind o x.is_operator;
      is_number = ap (number o) (run_of Digit p.text x.at_operator x.digits d) ∙ x.is_number;
      is_target = target_whole sub IsSub k o (at_text p x.behind) q x.to x.is_target;
    }

pub redirection_short : (sub : Text → Outcome Text Simple) (IsSub : TextRule Simple) → TMeets 0 sub IsSub → (o : Operator) (p q : Place) (r : Redirection) → IsRedirection IsSub o p q r → 1 + length q.text ≤ length p.text
redirection_short sub IsSub k o p q r x =
    omega (arith, ap length x.spelling, length-append x.digits x.at_operator, operator_short x.at_operator x.behind o x.is_operator, target_short sub IsSub k o (at_text p x.behind) q x.to x.is_target)
