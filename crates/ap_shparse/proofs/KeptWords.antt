-- Words, assignments and operators stay when another text follows.
use Rattle.std.proofs.Common.{◌≡◌, ◌∙◌, ◌-◌, ℕ, [], ◌∷◌, ◌++◌, inr, refl, sym, ap, ap₂, Bool, true, false, if◌then◌else◌, ◌||◌, ◌&&◌, ◌==◌, not, arith}
use Rattle.std.specs.Prelude.{Some, None, is_some}
use Rattle.std.proofs.lemmas.Bool.Decides.{nat_tests}
use Rattle.ap_shparse.specs.Bytes.{Text, after, begins_with, ends_word, is_plain, past, past_byte}
use Rattle.ap_shparse.specs.Reads.{Outcome, and_then, pure}
use Rattle.ap_shparse.specs.Pieces.{expect, name, parts_of, pieces}
use Rattle.ap_shparse.specs.Places.{args, bracket}
use Rattle.ap_shparse.specs.Words.{assign, assignment, begins_word, differs, is_assignment, pieced, plain_word, text_word, value}
use Rattle.ap_shparse.specs.Redirects.{both, file_word, is_angle, is_same, next_operator, read, redirects, same, same_at, write}
use Rattle.ap_shparse.specs.declared.class.Class.TheVariants.{Blank, Digit, Name}
use Rattle.ap_shparse.specs.declared.redirect.Operator.TheVariants as op
use Rattle.ap_shparse.specs.declared.tree.Simple.{Simple}
use Rattle.ap_shparse.specs.declared.tree.Target.TheVariants as target
use Rattle.ap_shparse.specs.declared.tree.Word.{Word}
use Rattle.ap_shparse.specs.declared.tree.Word.TheVariants as word
use Rattle.ap_shparse.proofs.Keeps.{Eating, IsTest, Kept, Keeps, Takes, both_of, eats_byte, eats_word, ends_word_same, keeps_if, keeps_if_eaten, keeps_never, keeps_pure, keeps_takes, keeps_then, kept_never, never, takes_if_eaten, takes_then, then_takes}
use Rattle.ap_shparse.proofs.KeptRuns.{after_digits, after_name, keeps_taking, taking}
use Rattle.ap_shparse.proofs.KeptPieces.{begins_name_same, keeps_name, keeps_pieces, takes_expect, takes_pieces, never_some}

-- ---- tests

pub begins_with_same : (k : ℕ) → IsTest (begins_with k)
begins_with_same k [] b h = absurd h
begins_with_same k (c ∷ t) b h = by_byte (c == k) refl
  where
    by_byte : (v : Bool) → (c == k) ≡ v → is_some (if c == k then Some (t ++ b) else None) ≡ is_some (if c == k then Some t else None)
    by_byte true is = ap (λ v. is_some (if v then Some (t ++ b) else None)) is ∙ sym (ap (λ v. is_some (if v then Some t else None)) is)
    by_byte false is = ap (λ v. is_some (if v then Some (t ++ b) else None)) is ∙ sym (ap (λ v. is_some (if v then Some t else None)) is)

pub begins_word_same : IsTest begins_word
unfolding begins_word
begins_word_same [] b h = absurd h
begins_word_same (c ∷ t) b h = refl

pub is_angle_same : IsTest is_angle
is_angle_same t b h = ap₂ (λ x y. x || y) (begins_with_same 60 t b h) (begins_with_same 62 t b h)

pub redirects_same : IsTest redirects
unfolding redirects
redirects_same t b h = let k = after_digits t h in ap is_angle (k.same b) ∙ is_angle_same (after Digit t) b k.has_stop

pub is_assignment_same : IsTest is_assignment
unfolding is_assignment
is_assignment_same t b h =
    let k = after_name t h in
    ap₂ (λ x y. x && y) (begins_name_same t b h) (ap (begins_with 61) (k.same b) ∙ begins_with_same 61 (after Name t) b k.has_stop)

-- ---- words

-- a word takes a byte at least
pub begins_inside : (t : Text) → begins_word t ≡ true → ends_word t ≡ false
unfolding begins_word ends_word is_plain
begins_inside [] e = cc
begins_inside (c ∷ t) e = grind (arith, nat_tests)

abbrev with_found : Bool → Word → Text → Outcome Text Word
with_found bad w u = if bad then None else Some (w, u)

keeps_found : (bad : Bool) (w : Word) → Keeps (with_found bad w) (with_found bad w)
keeps_found true w x a r b e h = cc
keeps_found false w x a r b e h = keeps_pure w x a r b e h

takes_pieced : (sub : Text → Outcome Text Simple) → Keeps sub sub → Takes (pieced sub) (pieced sub)
unfolding pieced
takes_pieced sub k x a r b e h = by_test (begins_word x) refl e
  where
    by_test : (v : Bool) → begins_word x ≡ v → (if v then and_then (pieces sub x) (λ f u. with_found f.dollar (word.Parts (parts_of f)) u) else None) ≡ Some (a, r ++ b) → Kept 1 (pieced sub) x a r b
    by_test true is e =
        let w = both_of (pieces sub x) (λ f u. with_found f.dollar (word.Parts (parts_of f)) u) (a, r ++ b) e in
        let m = keeps_found w.first.dollar (word.Parts (parts_of w.first)) w.left a r b w.is_second h in
        let u = takes_pieces sub k x w.first m.front b (begins_inside x is) (w.is_first ∙ ap (λ y. Some (w.first, y)) m.spelling) m.has_stop in
        record {
          front = u.front;
          spelling = u.spelling;
          has_stop = u.has_stop;
          eats = omega (arith, u.eats, m.eats);
          same = λ c. ap (λ v. if v then and_then (pieces sub (u.front ++ c)) (λ f y. with_found f.dollar (word.Parts (parts_of f)) y) else None)
              (begins_word_same u.front c u.has_stop ∙ sym (begins_word_same u.front b u.has_stop) ∙ ap begins_word (sym u.spelling) ∙ is)
              ∙ ap (λ o. and_then o (λ f y. with_found f.dollar (word.Parts (parts_of f)) y)) (u.same c) ∙ m.same c;
        }
    by_test false is e = absurd (never_some e)

pub eats_bracket : Eating 1 (past bracket)
eats_bracket = eats_word 91 [] (refl, tt)

pub eats_args : Eating 1 (past args)
eats_args = eats_word 34 (36 ∷ 64 ∷ 34 ∷ []) (refl, (refl, (refl, (refl, tt))))

pub takes_word : (sub : Text → Outcome Text Simple) → Keeps sub sub → Takes (plain_word sub) (plain_word sub)
unfolding plain_word
takes_word sub k =
    takes_if_eaten (past bracket) (pure (text_word bracket)) (pure (text_word bracket)) _ _ eats_bracket (keeps_pure (text_word bracket))
    (takes_if_eaten (past differs) (pure (text_word differs)) (pure (text_word differs)) (pieced sub) (pieced sub) (eats_word 33 (61 ∷ []) (refl, (refl, tt))) (keeps_pure (text_word differs)) (takes_pieced sub k))

keeps_value : (sub : Text → Outcome Text Simple) → Keeps sub sub → Keeps (value sub) (value sub)
unfolding value
keeps_value sub k = keeps_then (pieces sub) (pieces sub) (λ f. with_found f.tilde (word.Parts (parts_of f))) (λ f. with_found f.tilde (word.Parts (parts_of f))) (keeps_pieces sub k) (λ f. keeps_found f.tilde (word.Parts (parts_of f)))

pub takes_assignment : (sub : Text → Outcome Text Simple) → Keeps sub sub → Takes (assignment sub) (assignment sub)
unfolding assignment
takes_assignment sub k = then_takes name name _ _ keeps_name (λ n. takes_then (expect 61) (expect 61) _ _ (takes_expect 61)
    (λ _. keeps_then (value sub) (value sub) (λ w. pure (assign n w)) (λ w. pure (assign n w)) (keeps_value sub k) (λ w. keeps_pure (assign n w))))

-- ---- operators and what follows them

pub takes_operator : Takes next_operator next_operator
unfolding next_operator
takes_operator =
    takes_if_eaten (past_byte 62) _ _ _ _ (eats_byte 62) (keeps_if_eaten 1 (past_byte 38) (pure op.Same) (pure op.Same) (pure op.Write) (pure op.Write) (eats_byte 38) (keeps_pure op.Same) (keeps_pure op.Write))
    (takes_if_eaten (past_byte 60) _ _ never never (eats_byte 60)
    (keeps_if_eaten 1 (past_byte 60) (pure op.Here) (pure op.Here) _ _ (eats_byte 60) (keeps_pure op.Here)
    (keeps_if_eaten 1 (past_byte 62) (pure op.Both) (pure op.Both) (pure op.Read) (pure op.Read) (eats_byte 62) (keeps_pure op.Both) (keeps_pure op.Read)))
    (kept_never 1))

-- behind blanks
keeps_blanks : {A : Type 0} (f f' : Text → Outcome Text A) → Keeps f f' → Keeps (λ t. f (after Blank t)) (λ t. f' (after Blank t))
keeps_blanks f f' k = keeps_then (taking Blank) (taking Blank) (λ _. f) (λ _. f') (keeps_taking Blank) (λ _. k)

keeps_file_word : (sub : Text → Outcome Text Simple) → Keeps sub sub → Keeps (file_word sub) (file_word sub)
unfolding file_word
keeps_file_word sub k = keeps_blanks (λ t. if redirects t then None else plain_word sub t) (λ t. if redirects t then None else plain_word sub t)
    (keeps_if redirects never never (plain_word sub) (plain_word sub) redirects_same keeps_never (keeps_takes (plain_word sub) (plain_word sub) (takes_word sub k)))

pub keeps_write : (sub : Text → Outcome Text Simple) → Keeps sub sub → Keeps (write sub) (write sub)
keeps_write sub k = keeps_then (file_word sub) (file_word sub) (λ w. pure (target.Write w)) (λ w. pure (target.Write w)) (keeps_file_word sub k) (λ w. keeps_pure (target.Write w))

pub keeps_read : (sub : Text → Outcome Text Simple) → Keeps sub sub → Keeps (read sub) (read sub)
keeps_read sub k = keeps_then (file_word sub) (file_word sub) (λ w. pure (target.Read w)) (λ w. pure (target.Read w)) (keeps_file_word sub k) (λ w. keeps_pure (target.Read w))

pub keeps_both : (sub : Text → Outcome Text Simple) → Keeps sub sub → Keeps (both sub) (both sub)
keeps_both sub k = keeps_then (file_word sub) (file_word sub) (λ w. pure (target.Both w)) (λ w. pure (target.Both w)) (keeps_file_word sub k) (λ w. keeps_pure (target.Both w))

is_same_same : (d : ℕ) → IsTest (is_same d)
is_same_same d t b h = ap₂ (λ x y. (d == 49 || d == 50) && x && not y) (ends_word_same t b h) (is_angle_same t b h)

keeps_same_at : Keeps same_at same_at
keeps_same_at [] a r b e h = cc
keeps_same_at (d ∷ t) a r b e h =
    let m = keeps_if (is_same d) (pure (target.Same (d - 48))) (pure (target.Same (d - 48))) never never (is_same_same d) (keeps_pure (target.Same (d - 48))) keeps_never t a r b e h in
    record { front = d ∷ m.front; spelling = ap (λ y. d ∷ y) m.spelling; has_stop = inr m.has_stop; eats = omega (arith, m.eats); same = m.same }

pub keeps_same : Keeps same same
unfolding same
keeps_same = keeps_blanks same_at same_at keeps_same_at
