-- The words and assignments that are read are those that the rules have.
use Rattle.std.proofs.Common.{◌≡◌, ◌∙◌, ◌≤◌, ◌+◌, ℕ, [], ◌∷◌, inl, inr, refl, sym, ap, ap₂, Bool, true, false, if◌then◌else◌, ◌&&◌, ◌==◌, length, arith}
use Rattle.std.specs.Prelude.{Some, None}
use Rattle.ap_shparse.specs.Bytes.{Text, begins_with, is_plain, past}
use Rattle.ap_shparse.specs.Reads.{Outcome, and_then, if_eaten, pure}
use Rattle.ap_shparse.specs.Pieces.{expect, name, none_found, parts_of, pieces}
use Rattle.ap_shparse.specs.Places.{bracket}
use Rattle.ap_shparse.specs.Words.{assign, assignment, begins_word, differs, is_assignment, pieced, plain_word, text_word, value}
use Rattle.ap_shparse.specs.PieceRules.{TextRule}
use Rattle.ap_shparse.specs.WordRules.{IsAssignment, IsPieced, IsValue, IsWord}
use Rattle.ap_shparse.specs.declared.class.Class.TheVariants.{Name}
use Rattle.ap_shparse.specs.declared.found.Found.{Found}
use Rattle.ap_shparse.specs.declared.tree.Assign.{Assign}
use Rattle.ap_shparse.specs.declared.tree.Simple.{Simple}
use Rattle.ap_shparse.specs.declared.tree.Word.{Word}
use Rattle.ap_shparse.specs.declared.tree.Word.TheVariants as word
use Rattle.ap_shparse.proofs.Keeps.{both_of, left_of, right_of}
use Rattle.ap_shparse.proofs.KeptWords.{begins_inside}
use Rattle.ap_shparse.proofs.LineMeets.{past_is, past_sound, whole_short}
use Rattle.ap_shparse.proofs.PieceMeets.{TMeets, after_of, all_parts, any_expansion, any_tilde, eaten_or, expect_is, expected, name_meets, pieces_short, pieces_sound, pieces_take, pieces_whole, same_byte, with_pieces}

abbrev word_of : Found → Word
word_of f = word.Parts (parts_of f)

abbrev unless : Bool → Word → Text → Outcome Text Word
unless v w u = if v then None else Some (w, u)

was_false : (v : Bool) (w x : Word) (u s : Text) → unless v w u ≡ Some (x, s) → (v ≡ false) × (w ≡ x) × (u ≡ s)
was_false true w x u s e = cc
was_false false w x u s e = (refl, left_of w x u s e, right_of w x u s e)

-- ---- words

abbrev pieced_if : (Text → Outcome Text Simple) → Text → Bool → Outcome Text Word
pieced_if sub t v = if v then and_then (pieces sub t) (λ f u. unless f.dollar (word_of f) u) else None

pieced_sound : (sub : Text → Outcome Text Simple) (IsSub : TextRule Simple) → TMeets 0 sub IsSub → (t u : Text) (w : Word) → pieced sub t ≡ Some (w, u) → IsPieced IsSub t u w
unfolding pieced
pieced_sound sub IsSub k t u w e = by_begins (begins_word t) refl e
  where
    by_begins : (v : Bool) → begins_word t ≡ v → pieced_if sub t v ≡ Some (w, u) → IsPieced IsSub t u w
    by_begins false is e = cc
    by_begins true is e =
        let b = both_of (pieces sub t) (λ f u. unless f.dollar (word_of f) u) (w, u) e in
        let n = was_false b.first.dollar (word_of b.first) w b.left u b.is_second in
        let r = pieces_sound sub IsSub k t u b.first (b.is_first ∙ ap (λ y. Some (b.first, y)) n.2) in
        record {
          pieces = r.pieces;
          are_pieces = r.are_pieces;
          begins = is;
          no_expansion = sym (any_expansion r.pieces) ∙ ap (λ f. f.dollar) (sym r.value) ∙ n.0;
          value = sym n.1 ∙ ap word_of r.value ∙ ap word.Parts (all_parts r.pieces);
        }

pieced_whole : (sub : Text → Outcome Text Simple) (IsSub : TextRule Simple) → TMeets 0 sub IsSub → (t u : Text) (w : Word) → IsPieced IsSub t u w → pieced sub t ≡ Some (w, u)
unfolding pieced
pieced_whole sub IsSub k t u w x =
    ap (pieced_if sub t) x.begins
    ∙ ap (λ o. and_then o (λ f s. unless f.dollar (word_of f) s)) (pieces_whole sub IsSub k x.pieces t u x.are_pieces)
    ∙ ap (λ v. unless v (word_of (with_pieces none_found x.pieces)) u) (any_expansion x.pieces ∙ x.no_expansion)
    ∙ ap (λ y. Some (y, u)) (ap word.Parts (all_parts x.pieces) ∙ sym x.value)

-- where pieces begin a word, neither `[` nor `!=` stands
no_first : (k : ℕ) (ks t : Text) → begins_word t ≡ true → begins_word (k ∷ []) ≡ false → past (k ∷ ks) t ≡ None
unfolding begins_word
no_first k ks [] e n = cc
no_first k ks (c ∷ t) e n = by_byte (c == k) refl
  where
    by_byte : (v : Bool) → (c == k) ≡ v → (if v then past ks t else None) ≡ None
    by_byte true is = let s = ap (λ y. begins_word (y ∷ [])) (same_byte c k is) in cc
    by_byte false is = refl

not_words : (begins_word (91 ∷ []) ≡ false) × (begins_word (33 ∷ []) ≡ false)
unfolding begins_word is_plain
not_words = (refl, refl)

pub word_meets : (sub : Text → Outcome Text Simple) (IsSub : TextRule Simple) → TMeets 0 sub IsSub → TMeets 1 (plain_word sub) (IsWord IsSub)
unfolding plain_word
word_meets sub IsSub k = record { sound = sound; whole = whole; short = short }
  where
    sound : (t u : Text) (w : Word) → plain_word sub t ≡ Some (w, u) → IsWord IsSub t u w
    sound t u w e =
        eaten_or (past bracket t) (pure (text_word bracket)) (if_eaten (past differs t) (pure (text_word differs)) (pieced sub t)) (Some (w, u)) e
        (λ v i x. inl (past_sound bracket t u (i ∙ ap (λ y. Some y) (right_of (text_word bracket) w v u x)), sym (left_of (text_word bracket) w v u x)))
        (λ _ e. eaten_or (past differs t) (pure (text_word differs)) (pieced sub t) (Some (w, u)) e
        (λ v i x. inr (inl (past_sound differs t u (i ∙ ap (λ y. Some y) (right_of (text_word differs) w v u x)), sym (left_of (text_word differs) w v u x))))
        (λ _ e. inr (inr (pieced_sound sub IsSub k t u w e))))

    whole : (t u : Text) (w : Word) → IsWord IsSub t u w → plain_word sub t ≡ Some (w, u)
    whole t u w (inl x) = ap (λ o. if_eaten o (pure (text_word bracket)) (if_eaten (past differs t) (pure (text_word differs)) (pieced sub t))) (past_is bracket t u x.0) ∙ ap (λ y. Some (y, u)) (sym x.1)
    whole t u w (inr (inl x)) =
        ap (λ o. if_eaten o (pure (text_word bracket)) (if_eaten (past differs t) (pure (text_word differs)) (pieced sub t))) (ap (past bracket) x.0.0)
        ∙ ap (λ o. if_eaten o (pure (text_word differs)) (pieced sub t)) (past_is differs t u x.0) ∙ ap (λ y. Some (y, u)) (sym x.1)
    whole t u w (inr (inr x)) =
        ap (λ o. if_eaten o (pure (text_word bracket)) (if_eaten (past differs t) (pure (text_word differs)) (pieced sub t))) (no_first 91 [] t x.begins not_words.0)
        ∙ ap (λ o. if_eaten o (pure (text_word differs)) (pieced sub t)) (no_first 33 (61 ∷ []) t x.begins not_words.1)
        ∙ pieced_whole sub IsSub k t u w x

    short : (t u : Text) (w : Word) → IsWord IsSub t u w → 1 + length u ≤ length t
    short t u w (inl x) = omega (arith, whole_short bracket t u x.0)
    short t u w (inr (inl x)) = omega (arith, whole_short differs t u x.0)
    short t u w (inr (inr x)) = pieces_take sub IsSub k x.pieces t u (begins_inside t x.begins) x.are_pieces

-- ---- assignments

value_meets : (sub : Text → Outcome Text Simple) (IsSub : TextRule Simple) → TMeets 0 sub IsSub → TMeets 0 (value sub) (IsValue IsSub)
unfolding value
value_meets sub IsSub k = record {
  sound = λ t u w e.
      let b = both_of (pieces sub t) (λ f u. unless f.tilde (word_of f) u) (w, u) e in
      let n = was_false b.first.tilde (word_of b.first) w b.left u b.is_second in
      let r = pieces_sound sub IsSub k t u b.first (b.is_first ∙ ap (λ y. Some (b.first, y)) n.2) in
      record {
        pieces = r.pieces;
        are_pieces = r.are_pieces;
        no_tilde = sym (any_tilde r.pieces) ∙ ap (λ f. f.tilde) (sym r.value) ∙ n.0;
        value = sym n.1 ∙ ap word_of r.value ∙ ap word.Parts (all_parts r.pieces);
      };
  whole = λ t u w x.
      ap (λ o. and_then o (λ f s. unless f.tilde (word_of f) s)) (pieces_whole sub IsSub k x.pieces t u x.are_pieces)
      ∙ ap (λ v. unless v (word_of (with_pieces none_found x.pieces)) u) (any_tilde x.pieces ∙ x.no_tilde)
      ∙ ap (λ y. Some (y, u)) (ap word.Parts (all_parts x.pieces) ∙ sym x.value);
  short = λ t u w x. omega (arith, pieces_short sub IsSub k x.pieces t u x.are_pieces);
}

abbrev at_value : (Text → Outcome Text Simple) → Text → Text → Outcome Text Assign
at_value sub n v = and_then (value sub v) (λ w. pure (assign n w))

pub assignment_meets : (sub : Text → Outcome Text Simple) (IsSub : TextRule Simple) → TMeets 0 sub IsSub → TMeets 1 (assignment sub) (IsAssignment IsSub)
unfolding assignment
assignment_meets sub IsSub k = record {
  sound = λ t u a e.
      let n = both_of (name t) (λ m s. and_then (expect 61 s) (λ _ v. at_value sub m v)) (a, u) e in
      let q = both_of (expect 61 n.left) (λ _ v. at_value sub n.first v) (a, u) n.is_second in
      let v = both_of (value sub q.left) (λ w. pure (assign n.first w)) (a, u) q.is_second in
      record {
        name = n.first;
        behind = q.left;
        value = v.first;
        is_name = name_meets.sound t (61 ∷ q.left) n.first (n.is_first ∙ ap (λ y. Some (n.first, y)) (expected 61 n.left q.left q.first q.is_first));
        is_value = (value_meets sub IsSub k).sound q.left u v.first (v.is_first ∙ ap (λ y. Some (v.first, y)) (right_of (assign n.first v.first) a v.left u v.is_second));
        is_assign = sym (left_of (assign n.first v.first) a v.left u v.is_second);
      };
  whole = λ t u a x.
      ap (λ o. and_then o (λ m s. and_then (expect 61 s) (λ _ v. at_value sub m v))) (name_meets.whole t (61 ∷ x.behind) x.name x.is_name)
      ∙ ap (λ o. and_then o (λ _ v. at_value sub x.name v)) (expect_is 61 x.behind)
      ∙ ap (λ o. and_then o (λ w. pure (assign x.name w))) ((value_meets sub IsSub k).whole x.behind u x.value x.is_value)
      ∙ ap (λ y. Some (y, u)) (sym x.is_assign);
  short = λ t u a x. omega (arith, name_meets.short t (61 ∷ x.behind) x.name x.is_name, (value_meets sub IsSub k).short x.behind u x.value x.is_value);
}

-- an assignment looks like one
pub looks_so : (IsSub : TextRule Simple) (t u : Text) (a : Assign) → IsAssignment IsSub t u a → is_assignment t ≡ true
unfolding is_assignment
looks_so IsSub t u a x = ap₂ (λ y z. y && begins_with 61 z) x.is_name.begins (after_of Name t (61 ∷ x.behind) x.name x.is_name.is_run)
