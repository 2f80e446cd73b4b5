-- What is read of a text stays read when another text follows, where what is left before it has a newline, `;` or `)`.
use Rattle.std.proofs.Common.{◌≡◌, ◌∙◌, ◌≤◌, ◌+◌, ℕ, List, [], ◌∷◌, ◌++◌, ◌⊎◌, inl, inr, refl, sym, ap, Bool, true, false, if◌then◌else◌, ◌||◌, ◌==◌, length, arith}
use Rattle.std.specs.Prelude.{Option, Some, None}
use Rattle.std.proofs.lemmas.Bool.Decides.{nat_tests}
use Rattle.ap_shparse.specs.Bytes.{Text, ends_word, past, past_byte}
use Rattle.ap_shparse.specs.Reads.{Outcome, and_then, eaten, if_eaten, pure}

-- newline, `;` and `)`
abbrev pub is_stop : ℕ → Bool
is_stop c = c == 10 || (c == 59 || c == 41)

abbrev pub Has : Text → Type 0
Has [] = ⊥
Has (c ∷ t) = (is_stop c ≡ true) ⊎ Has t

-- the text is a front, of which r is left, and then b, which may be any other text
pub record Kept {A : Type 0} (n : ℕ) (P : Text → Outcome Text A) (x : Text) (a : A) (r b : Text) : Type 0 where
  pub front : Text
  pub spelling : x ≡ front ++ b
  pub has_stop : Has front
  pub eats : n + length r ≤ length front
  pub same : (c : Text) → P (front ++ c) ≡ Some (a, r ++ c)

-- n bytes are taken at least
abbrev pub KeepsAt : {A : Type 0} → ℕ → (Text → Outcome Text A) → (Text → Outcome Text A) → Type 0
KeepsAt {A} n P P' = (x : Text) (a : A) (r b : Text) → P x ≡ Some (a, r ++ b) → Has r → Kept n P' x a r b

abbrev pub Keeps : {A : Type 0} → (Text → Outcome Text A) → (Text → Outcome Text A) → Type 0
Keeps P P' = KeepsAt 0 P P'

abbrev pub Takes : {A : Type 0} → (Text → Outcome Text A) → (Text → Outcome Text A) → Type 0
Takes P P' = KeepsAt 1 P P'

pub kept_less : {A : Type 0} (n m : ℕ) (P : Text → Outcome Text A) (x : Text) (a : A) (r b : Text) → n ≤ m → Kept m P x a r b → Kept n P x a r b
kept_less n m P x a r b le k = record { front = k.front; spelling = k.spelling; has_stop = k.has_stop; eats = omega (arith, k.eats); same = k.same }

pub keeps_takes : {A : Type 0} (P P' : Text → Outcome Text A) → Takes P P' → Keeps P P'
keeps_takes P P' k x a r b e h = kept_less 0 1 P' x a r b (omega arith) (k x a r b e h)

-- ---- outcomes

pub record Both {S T A B : Type 0} (o : Outcome S A) (f : A → S → Outcome T B) (x : B × T) : Type 0 where
  pub first : A
  pub left : S
  pub is_first : o ≡ Some (first, left)
  pub is_second : f first left ≡ Some x

pub both_of : {S T A B : Type 0} (o : Outcome S A) (f : A → S → Outcome T B) (x : B × T) → and_then o f ≡ Some x → Both o f x
both_of None f x e = cc
both_of (Some p) f x e = record { first = p.0; left = p.1; is_first = refl; is_second = e }

pub inner : {X : Type 0} (x y : X) → Some x ≡ Some y → x ≡ y
inner x y e = cc

pub left_of : {A S : Type 0} (a x : A) (t r : S) → ◌≡◌ {A = Option (A × S)} (Some (a, t)) (Some (x, r)) → a ≡ x
left_of a x t r e = ap (λ z. z.0) (inner (a, t) (x, r) e)

pub right_of : {A S : Type 0} (a x : A) (t r : S) → ◌≡◌ {A = Option (A × S)} (Some (a, t)) (Some (x, r)) → t ≡ r
right_of a x t r e = ap (λ z. z.1) (inner (a, t) (x, r) e)

-- ---- combinators

pub kept_then : {A B : Type 0} (n m : ℕ) (P P' : Text → Outcome Text A) (f f' : A → Text → Outcome Text B) → KeepsAt n P P' → ((a : A) → KeepsAt m (f a) (f' a)) → KeepsAt (n + m) (λ t. and_then (P t) f) (λ t. and_then (P' t) f')
kept_then n m P P' f f' kp kf t x r b e h =
    let w = both_of (P t) f (x, r ++ b) e in
    let k = kf w.first w.left x r b w.is_second h in
    let j = kp t w.first k.front b (w.is_first ∙ ap (λ u. Some (w.first, u)) k.spelling) k.has_stop in
    record { front = j.front; spelling = j.spelling; has_stop = j.has_stop; eats = omega (arith, j.eats, k.eats); same = λ c. ap (λ o. and_then o f') (j.same c) ∙ k.same c }

pub keeps_then : {A B : Type 0} (P P' : Text → Outcome Text A) (f f' : A → Text → Outcome Text B) → Keeps P P' → ((a : A) → Keeps (f a) (f' a)) → Keeps (λ t. and_then (P t) f) (λ t. and_then (P' t) f')
keeps_then P P' f f' kp kf = kept_then 0 0 P P' f f' kp kf

pub takes_then : {A B : Type 0} (P P' : Text → Outcome Text A) (f f' : A → Text → Outcome Text B) → Takes P P' → ((a : A) → Keeps (f a) (f' a)) → Takes (λ t. and_then (P t) f) (λ t. and_then (P' t) f')
takes_then P P' f f' kp kf = kept_then 1 0 P P' f f' kp kf

pub then_takes : {A B : Type 0} (P P' : Text → Outcome Text A) (f f' : A → Text → Outcome Text B) → Keeps P P' → ((a : A) → Takes (f a) (f' a)) → Takes (λ t. and_then (P t) f) (λ t. and_then (P' t) f')
then_takes P P' f f' kp kf = kept_then 0 1 P P' f f' kp kf

pub keeps_pure : {A : Type 0} (a : A) → Keeps (pure a) (pure a)
keeps_pure a t x r b e h =
    record { front = r; spelling = right_of a x t (r ++ b) e; has_stop = h; eats = omega arith; same = λ c. ap (λ y. Some (y, r ++ c)) (left_of a x t (r ++ b) e) }

abbrev pub never : {A : Type 0} → Text → Outcome Text A
never t = None

pub kept_never : {A : Type 0} (n : ℕ) → KeepsAt n (never {A = A}) (never {A = A})
kept_never n t a r b e h = cc

pub keeps_never : {A : Type 0} → Keeps (never {A = A}) (never {A = A})
keeps_never {A} = kept_never {A = A} 0

-- a test that another text behind doesn't change
abbrev pub IsTest : (Text → Bool) → Type 0
IsTest q = (t b : Text) → Has t → q (t ++ b) ≡ q t

pub kept_if : {A : Type 0} (n : ℕ) (q : Text → Bool) (P P' Q Q' : Text → Outcome Text A) → IsTest q → KeepsAt n P P' → KeepsAt n Q Q'
    → KeepsAt n (λ t. if q t then P t else Q t) (λ t. if q t then P' t else Q' t)
kept_if n q P P' Q Q' same kp kq t a r b e h = by_test (q t) refl e
  where
    by_test : (v : Bool) → q t ≡ v → (if v then P t else Q t) ≡ Some (a, r ++ b) → Kept n (λ u. if q u then P' u else Q' u) t a r b
    by_test true is e =
        let k = kp t a r b e h in
        record {
          front = k.front;
          spelling = k.spelling;
          has_stop = k.has_stop;
          eats = k.eats;
          same = λ c. ap (λ v. if v then P' (k.front ++ c) else Q' (k.front ++ c)) (same k.front c k.has_stop ∙ sym (same k.front b k.has_stop) ∙ ap q (sym k.spelling) ∙ is) ∙ k.same c;
        }
    by_test false is e =
        let k = kq t a r b e h in
        record {
          front = k.front;
          spelling = k.spelling;
          has_stop = k.has_stop;
          eats = k.eats;
          same = λ c. ap (λ v. if v then P' (k.front ++ c) else Q' (k.front ++ c)) (same k.front c k.has_stop ∙ sym (same k.front b k.has_stop) ∙ ap q (sym k.spelling) ∙ is) ∙ k.same c;
        }

pub keeps_if : {A : Type 0} (q : Text → Bool) (P P' Q Q' : Text → Outcome Text A) → IsTest q → Keeps P P' → Keeps Q Q'
    → Keeps (λ t. if q t then P t else Q t) (λ t. if q t then P' t else Q' t)
keeps_if q P P' Q Q' same kp kq = kept_if 0 q P P' Q Q' same kp kq

-- ---- what is eaten in front

pub record KeptPast (n : ℕ) (E : Text → Option Text) (x u b : Text) : Type 0 where
  pub front : Text
  pub spelling : x ≡ front ++ b
  pub has_stop : Has front
  pub eats : n + length u ≤ length front
  pub same : (c : Text) → E (front ++ c) ≡ Some (u ++ c)

pub record Eating (n : ℕ) (E : Text → Option Text) : Type 0 where
  pub past : (x u b : Text) → E x ≡ Some (u ++ b) → Has u → KeptPast n E x u b
  pub none : (t b c : Text) → E (t ++ b) ≡ None → Has t → E (t ++ c) ≡ None

pub kept_eaten : (n : ℕ) (E : Text → Option Text) → Eating n E → KeepsAt n (λ t. eaten (E t)) (λ t. eaten (E t))
kept_eaten n E k t a r b e h = by_eaten (E t) refl e
  where
    by_eaten : (o : Option Text) → E t ≡ o → eaten o ≡ Some (a, r ++ b) → Kept n (λ u. eaten (E u)) t a r b
    by_eaten None is e = cc
    by_eaten (Some u) is e =
        let m = k.past t r b (is ∙ ap (λ v. Some v) (right_of tt a u (r ++ b) e)) h in
        record { front = m.front; spelling = m.spelling; has_stop = m.has_stop; eats = m.eats; same = λ c. ap eaten (m.same c) ∙ ap (λ x. Some (x, r ++ c)) (left_of tt a u (r ++ b) e) }

-- l is no more than either way takes
pub kept_if_eaten : {A : Type 0} (l n m o : ℕ) → l ≤ n + m → l ≤ o → (E : Text → Option Text) (f f' g g' : Text → Outcome Text A) → Eating n E → KeepsAt m f f' → KeepsAt o g g'
    → KeepsAt l (λ t. if_eaten (E t) f (g t)) (λ t. if_eaten (E t) f' (g' t))
kept_if_eaten l n m o le lo E f f' g g' k kf kg t a r b e h = by_eaten (E t) refl e
  where
    by_eaten : (w : Option Text) → E t ≡ w → if_eaten w f (g t) ≡ Some (a, r ++ b) → Kept l (λ u. if_eaten (E u) f' (g' u)) t a r b
    by_eaten None is e =
        let j = kg t a r b e h in
        record {
          front = j.front;
          spelling = j.spelling;
          has_stop = j.has_stop;
          eats = omega (arith, j.eats, lo);
          same = λ c. ap (λ w. if_eaten w f' (g' (j.front ++ c))) (k.none j.front b c (ap E (sym j.spelling) ∙ is) j.has_stop) ∙ j.same c;
        }
    by_eaten (Some u) is e =
        let j = kf u a r b e h in
        let w = k.past t j.front b (is ∙ ap (λ v. Some v) j.spelling) j.has_stop in
        record {
          front = w.front;
          spelling = w.spelling;
          has_stop = w.has_stop;
          eats = omega (arith, j.eats, w.eats, le);
          same = λ c. ap (λ z. if_eaten z f' (g' (w.front ++ c))) (w.same c) ∙ j.same c;
        }

pub keeps_if_eaten : {A : Type 0} (n : ℕ) (E : Text → Option Text) (f f' g g' : Text → Outcome Text A) → Eating n E → Keeps f f' → Keeps g g'
    → Keeps (λ t. if_eaten (E t) f (g t)) (λ t. if_eaten (E t) f' (g' t))
keeps_if_eaten n E f f' g g' k kf kg = kept_if_eaten 0 n 0 0 (omega arith) (omega arith) E f f' g g' k kf kg

pub takes_if_eaten : {A : Type 0} (E : Text → Option Text) (f f' g g' : Text → Outcome Text A) → Eating 1 E → Keeps f f' → Takes g g'
    → Takes (λ t. if_eaten (E t) f (g t)) (λ t. if_eaten (E t) f' (g' t))
takes_if_eaten E f f' g g' k kf kg = kept_if_eaten 1 1 0 1 (omega arith) (omega arith) E f f' g g' k kf kg

pub eats_byte : (k : ℕ) → Eating 1 (past_byte k)
eats_byte k = record { past = some; none = nothing }
  where
    by_byte : (v : Bool) (d : ℕ) (t u b : Text) → (d == k) ≡ v → (if v then Some t else None) ≡ Some (u ++ b) → Has u → KeptPast 1 (past_byte k) (d ∷ t) u b
    by_byte true d t u b is e h =
        record { front = d ∷ u; spelling = ap (λ y. d ∷ y) (inner t (u ++ b) e); has_stop = inr h; eats = omega arith; same = λ c. ap (λ v. if v then Some (u ++ c) else None) is }
    by_byte false d t u b is e h = cc

    some : (x u b : Text) → past_byte k x ≡ Some (u ++ b) → Has u → KeptPast 1 (past_byte k) x u b
    some [] u b e h = cc
    some (d ∷ t) u b e h = by_byte (d == k) d t u b refl e h

    no_byte : (v : Bool) (d : ℕ) (t b c : Text) → (d == k) ≡ v → (if v then Some (t ++ b) else None) ≡ None → past_byte k (d ∷ (t ++ c)) ≡ None
    no_byte true d t b c is e = cc
    no_byte false d t b c is e = ap (λ v. if v then Some (t ++ c) else None) is

    nothing : (t b c : Text) → past_byte k (t ++ b) ≡ None → Has t → past_byte k (t ++ c) ≡ None
    nothing [] b c e h = absurd h
    nothing (d ∷ t) b c e h = no_byte (d == k) d t b c refl e

-- ---- words

-- no stop is among these bytes
abbrev pub Lacks : List ℕ → Type 0
Lacks [] = Unit {0}
Lacks (k ∷ ks) = (is_stop k ≡ false) × Lacks ks

pub ends_word_same : IsTest ends_word
unfolding ends_word
ends_word_same [] b h = absurd h
ends_word_same (c ∷ t) b h = refl

eats_nothing : Eating 0 (past [])
eats_nothing = record { past = some; none = nothing }
  where
    by_end : (v : Bool) (t u b : Text) → ends_word t ≡ v → (if v then Some t else None) ≡ Some (u ++ b) → Has u → KeptPast 0 (past []) t u b
    by_end true t u b is e h =
        let q = inner t (u ++ b) e in
        record {
          front = u;
          spelling = q;
          has_stop = h;
          eats = omega arith;
          same = λ c. ap (λ v. if v then Some (u ++ c) else None) (ends_word_same u c h ∙ sym (ends_word_same u b h) ∙ ap ends_word (sym q) ∙ is);
        }
    by_end false t u b is e h = cc

    some : (x u b : Text) → past [] x ≡ Some (u ++ b) → Has u → KeptPast 0 (past []) x u b
    some x u b e h = by_end (ends_word x) x u b refl e h

    no_end : (v : Bool) (t b c : Text) → ends_word (t ++ b) ≡ v → (if v then Some (t ++ b) else None) ≡ None → Has t → past [] (t ++ c) ≡ None
    no_end true t b c is e h = cc
    no_end false t b c is e h = ap (λ v. if v then Some (t ++ c) else None) (ends_word_same t c h ∙ sym (ends_word_same t b h) ∙ is)

    nothing : (t b c : Text) → past [] (t ++ b) ≡ None → Has t → past [] (t ++ c) ≡ None
    nothing t b c e h = no_end (ends_word (t ++ b)) t b c refl e h

pub is_same : (c k : ℕ) → (c == k) ≡ true → is_stop k ≡ false → is_stop c ≡ false
is_same c k e l = grind (arith, nat_tests)

eats_more : (k : ℕ) (ks : List ℕ) → is_stop k ≡ false → Eating 0 (past ks) → Eating 1 (past (k ∷ ks))
eats_more k ks lacks rec = record { past = some; none = nothing }
  where
    by_byte : (v : Bool) (d : ℕ) (t u b : Text) → (d == k) ≡ v → (if v then past ks t else None) ≡ Some (u ++ b) → Has u → KeptPast 1 (past (k ∷ ks)) (d ∷ t) u b
    by_byte true d t u b is e h =
        let m = rec.past t u b e h in
        record { front = d ∷ m.front; spelling = ap (λ y. d ∷ y) m.spelling; has_stop = inr m.has_stop; eats = omega (arith, m.eats); same = λ c. ap (λ v. if v then past ks (m.front ++ c) else None) is ∙ m.same c }
    by_byte false d t u b is e h = cc

    some : (x u b : Text) → past (k ∷ ks) x ≡ Some (u ++ b) → Has u → KeptPast 1 (past (k ∷ ks)) x u b
    some [] u b e h = cc
    some (d ∷ t) u b e h = by_byte (d == k) d t u b refl e h

    no_byte : (v : Bool) (d : ℕ) (t b c : Text) → (d == k) ≡ v → (if v then past ks (t ++ b) else None) ≡ None → (is_stop d ≡ true) ⊎ Has t → past (k ∷ ks) (d ∷ (t ++ c)) ≡ None
    no_byte true d t b c is e (inl s) = let n = is_same d k is lacks in cc
    no_byte true d t b c is e (inr g) = ap (λ v. if v then past ks (t ++ c) else None) is ∙ rec.none t b c e g
    no_byte false d t b c is e g = ap (λ v. if v then past ks (t ++ c) else None) is

    nothing : (t b c : Text) → past (k ∷ ks) (t ++ b) ≡ None → Has t → past (k ∷ ks) (t ++ c) ≡ None
    nothing [] b c e h = absurd h
    nothing (d ∷ t) b c e h = no_byte (d == k) d t b c refl e h

eats_none : (E : Text → Option Text) → Eating 1 E → Eating 0 E
eats_none E k = record { past = λ x u b e h. let m = k.past x u b e h in record { front = m.front; spelling = m.spelling; has_stop = m.has_stop; eats = omega (arith, m.eats); same = m.same }; none = k.none }

-- a word without stops is there or not, whatever follows
eats_all : (w : List ℕ) → Lacks w → Eating 0 (past w)
eats_all [] lacks = eats_nothing
eats_all (k ∷ ks) lacks = eats_none (past (k ∷ ks)) (eats_more k ks lacks.0 (eats_all ks lacks.1))

pub eats_word : (k : ℕ) (ks : List ℕ) → Lacks (k ∷ ks) → Eating 1 (past (k ∷ ks))
eats_word k ks lacks = eats_more k ks lacks.0 (eats_all ks lacks.1)
