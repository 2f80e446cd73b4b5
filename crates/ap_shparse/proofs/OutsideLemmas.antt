-- The place of a text that has no script, in both readings of NUL.
use Rattle.std.proofs.Common.{◌≡◌, ◌∙◌, ◌≤◌, ◌<◌, ◌-◌, ℕ, zero, suc, List, [], ◌∷◌, ◌++◌, ◌⊎◌, inl, inr, refl, sym, ap, subst, Bool, true, false, if◌then◌else◌, ◌==◌, not, length, arith, length-append, append-nil, take, drop, filter}
use Rattle.std.specs.Prelude.{Option, Some, None, Ok, Err, is_some, option_map}
use Rattle.std.proofs.Math.Nat.{eq-or-lt_of_le}
use Rattle.std.proofs.lemmas.List.{take-append-drop, length-take-le}
use Rattle.std.proofs.lemmas.List.Elements.{filter-append}
use Rattle.std.proofs.Math.Seq.{take-append_seam}
use Rattle.ap_shparse.specs.Bytes.{Text, gap, past_comment}
use Rattle.ap_shparse.specs.Places.{newlines, newlines_from}
use Rattle.ap_shparse.specs.Commands.{alone}
use Rattle.ap_shparse.specs.Lists.{chain, list}
use Rattle.ap_shparse.specs.Scripts.{script, script_from}
use Rattle.ap_shparse.specs.Fronts.{chains, front, front_from}
use Rattle.ap_shparse.specs.Grammar.{IsOutside, past_nul}
use Rattle.ap_shparse.specs.declared.script.Turn.{Turn}
use Rattle.ap_shparse.specs.declared.tree.Chain.{Chain}
use Rattle.ap_shparse.specs.declared.tree.Nul.TheVariants as nul
use Rattle.ap_shparse.proofs.KeptPlaces.{PKeeps, place}
use Rattle.ap_shparse.proofs.KeptItems.{pkeeps_chain, pkeeps_list}
use Rattle.ap_shparse.proofs.FrontLemmas.{FrontLeft, Items, front_left, less_left, no_err, some_left}
use Rattle.ap_shparse.proofs.LongestLemmas.{longest}

abbrev pub items : Items
items = chain (list 64)

pub kept : PKeeps items items
kept = pkeeps_chain (list 64) (pkeeps_list 64)

-- ---- a text as it is

pub record Split (t : Text) (l : ℕ) : Type 0 where
  pub whole : Text
  pub rest : Text
  pub spelling : t ≡ whole ++ rest
  pub is_long : length rest ≡ l
  pub turns : List Turn
  pub is_front : front whole ≡ Some turns

pub is_there : {X : Type 0} (o : Option X) → is_some o ≡ true → (x : X) × (o ≡ Some x)
is_there None e = cc
is_there (Some x) e = (x, refl)

front_nothing : front [] ≡ Some []
unfolding front front_from newlines newlines_from gap past_comment
front_nothing = refl

alone_place : (x : Text) → place x None [] ≡ alone x
alone_place x = ap alone (append-nil x)

as_front : (x : Text) (ts : List Turn) → front_from items (length x) [] (alone x) ≡ Some ts → front x ≡ Some ts
unfolding front
as_front x ts e = e

pub from_front : (x : Text) (ts : List Turn) → front x ≡ Some ts → front_from items (length x) [] (alone x) ≡ Some ts
unfolding front
from_front x ts e = e

split_of : (t : Text) (l : ℕ) → script t ≡ Err l → Split t l
unfolding script
split_of t l e = by_less (eq-or-lt_of_le (less_left items (length t) (length t) [] (alone t) l e))
  where
    by_bodies : (f : FrontLeft items (alone t) l) → (bs : Option Text) (tail : Text) → f.is_front.bodies ≡ bs → None ≡ option_map (λ z. z ++ tail) bs → Split t l
    by_bodies f (Some z) tail b e = cc
    by_bodies f None tail b e =
        let r = f.is_front.reads (length f.is_front.front) (omega arith) [] in
        let w = is_there (front_from items (length f.is_front.front) [] (place f.is_front.front f.is_front.bodies [])) r in
        record {
          whole = f.is_front.front;
          rest = f.rest;
          spelling = f.is_front.is_text;
          is_long = f.is_long;
          turns = w.0;
          is_front = as_front f.is_front.front w.0 (ap (λ y. front_from items (length f.is_front.front) [] y) (sym (ap (λ y. place f.is_front.front y []) b ∙ alone_place f.is_front.front)) ∙ w.1);
        }

    by_less : (l ≡ length t) ⊎ (l < length t) → Split t l
    by_less (inl same) = record { whole = []; rest = t; spelling = refl; is_long = sym same; turns = []; is_front = front_nothing }
    by_less (inr less) =
        let f = front_left items kept (length t) (length t) [] (alone t) l e less (some_left items (length t) (length t) [] (alone t) l e (omega (arith, less))) in
        by_bodies f f.is_front.bodies f.is_front.tail refl (f.is_front.is_bodies ∙ ap (option_map (λ z. z ++ f.is_front.tail)) refl)

-- no front is longer
within : (t a b : Text) (l : ℕ) (ts : List Turn) → script t ≡ Err l → t ≡ a ++ b → front a ≡ Some ts → l ≤ length b
unfolding script
within t a b l ts e q f =
    longest items kept (length a) [] (alone a) ts b (from_front a ts f) (length t) (omega (arith, ap length q, length-append a b)) (length t) [] l (ap (λ y. script_from items (length t) (length t) [] y) (sym (ap alone q)) ∙ e)

-- ---- a text without its NULs

abbrev pub shown : Text → Text
shown t = filter (λ c. not (c == 0)) t

shown-append : (a b : Text) → shown (a ++ b) ≡ shown a ++ shown b
shown-append a b = filter-append (λ c. not (c == 0)) a b

shown_nul : (c : ℕ) (t : Text) → (c == 0) ≡ true → shown (c ∷ t) ≡ shown t
shown_nul c t e = ap (λ v. if not v then c ∷ shown t else shown t) e

shown_byte : (c : ℕ) (t : Text) → (c == 0) ≡ false → shown (c ∷ t) ≡ c ∷ shown t
shown_byte c t e = ap (λ v. if not v then c ∷ shown t else shown t) e

-- the front of which so many bytes are shown
shown_front : (k : ℕ) (t : Text) → k ≤ length (shown t) → shown (take (past_nul k t) t) ≡ take k (shown t)
shown_front zero [] le = refl
shown_front (suc k) [] le = absurd (omega (arith, le))
shown_front zero (c ∷ t) le = by_nul (c == 0) refl (shown_front zero t (omega arith))
  where
    by_nul : (v : Bool) → (c == 0) ≡ v → shown (take (past_nul zero t) t) ≡ take zero (shown t) → shown (take (if c == 0 then suc (past_nul zero t) else 0) (c ∷ t)) ≡ take zero (shown (c ∷ t))
    by_nul true is rec = ap (λ v. shown (take (if v then suc (past_nul zero t) else 0) (c ∷ t))) is ∙ shown_nul c (take (past_nul zero t) t) is ∙ rec
    by_nul false is rec = ap (λ v. shown (take (if v then suc (past_nul zero t) else 0) (c ∷ t))) is
shown_front (suc k) (c ∷ t) le = by_nul (c == 0) refl (λ g. shown_front (suc k) t g) (λ g. shown_front k t g)
  where
    by_nul : (v : Bool) → (c == 0) ≡ v → (suc k ≤ length (shown t) → shown (take (past_nul (suc k) t) t) ≡ take (suc k) (shown t)) → (k ≤ length (shown t) → shown (take (past_nul k t) t) ≡ take k (shown t))
        → shown (take (if c == 0 then suc (past_nul (suc k) t) else suc (past_nul k t)) (c ∷ t)) ≡ take (suc k) (shown (c ∷ t))
    by_nul true is rec rec' = ap (λ v. shown (take (if v then suc (past_nul (suc k) t) else suc (past_nul k t)) (c ∷ t))) is ∙ shown_nul c (take (past_nul (suc k) t) t) is ∙ rec (omega (arith, le, ap length (shown_nul c t is)))
        ∙ ap (take (suc k)) (sym (shown_nul c t is))
    by_nul false is rec rec' = ap (λ v. shown (take (if v then suc (past_nul (suc k) t) else suc (past_nul k t)) (c ∷ t))) is ∙ shown_byte c (take (past_nul k t) t) is ∙ ap (λ y. c ∷ y) (rec' (omega (arith, le, ap length (shown_byte c t is))))
        ∙ ap (take (suc k)) (sym (shown_byte c t is))

past_short : (k : ℕ) (t : Text) → past_nul k t ≤ length t
past_short k [] = omega arith
past_short zero (c ∷ t) = by_nul (c == 0) (past_short zero t)
  where
    by_nul : (v : Bool) → past_nul zero t ≤ length t → (if v then suc (past_nul zero t) else 0) ≤ suc (length t)
    by_nul true l = omega (arith, l)
    by_nul false l = omega arith
past_short (suc k) (c ∷ t) = by_nul (c == 0) (past_short (suc k) t) (past_short k t)
  where
    by_nul : (v : Bool) → past_nul (suc k) t ≤ length t → past_nul k t ≤ length t → (if v then suc (past_nul (suc k) t) else suc (past_nul k t)) ≤ suc (length t)
    by_nul true l m = omega (arith, l)
    by_nul false l m = omega (arith, m)

-- a front of which no more bytes are shown is no longer
shown_within : (a b : Text) (k : ℕ) → length (shown a) ≤ k → length a ≤ past_nul k (a ++ b)
shown_within [] b k le = omega arith
shown_within (c ∷ a) b zero le = by_nul (c == 0) refl (shown_within a b zero)
  where
    by_nul : (v : Bool) → (c == 0) ≡ v → (length (shown a) ≤ zero → length a ≤ past_nul zero (a ++ b)) → suc (length a) ≤ (if c == 0 then suc (past_nul zero (a ++ b)) else 0)
    by_nul true is rec = omega (arith, rec (omega (arith, le, ap length (shown_nul c a is))), ap (λ v. if v then suc (past_nul zero (a ++ b)) else 0) is)
    by_nul false is rec = absurd (omega (arith, le, ap length (shown_byte c a is)))
shown_within (c ∷ a) b (suc k) le = by_nul (c == 0) refl (shown_within a b (suc k)) (shown_within a b k)
  where
    by_nul : (v : Bool) → (c == 0) ≡ v → (length (shown a) ≤ suc k → length a ≤ past_nul (suc k) (a ++ b)) → (length (shown a) ≤ k → length a ≤ past_nul k (a ++ b))
        → suc (length a) ≤ (if c == 0 then suc (past_nul (suc k) (a ++ b)) else suc (past_nul k (a ++ b)))
    by_nul true is rec rec' = omega (arith, rec (omega (arith, le, ap length (shown_nul c a is))), ap (λ v. if v then suc (past_nul (suc k) (a ++ b)) else suc (past_nul k (a ++ b))) is)
    by_nul false is rec rec' = omega (arith, rec' (omega (arith, le, ap length (shown_byte c a is))), ap (λ v. if v then suc (past_nul (suc k) (a ++ b)) else suc (past_nul k (a ++ b))) is)

-- ---- where a text is outside

no_script : (t : Text) (l : ℕ) → script t ≡ Err l → (cs : List Chain) → script t ≡ Ok cs → ⊥
no_script t l e cs w = no_err cs l (sym w ∙ e)

pub outside_kept : (t : Text) (l : ℕ) → script t ≡ Err l → IsOutside nul.Keep t (length t - l)
outside_kept t l e =
    let m = split_of t l e in
    record {
      none = no_script t l e;
      whole = m.whole;
      rest = m.rest;
      items = chains m.turns;
      spelling = m.spelling;
      is_long = omega (arith, ap length m.spelling, length-append m.whole m.rest, m.is_long);
      is_front = (m.turns, m.is_front, refl);
      longest = λ a b cs q f. omega (arith, within t a b l f.0 e q f.1, ap length q, length-append a b);
    }

pub outside_dropped : (t : Text) (l : ℕ) → script (shown t) ≡ Err l → IsOutside nul.Drop t (past_nul (length (shown t) - l) t)
outside_dropped t l e =
    let m = split_of (shown t) l e in
    let k = length (shown t) - l in
    let at = past_nul k t in
    let long : length m.whole ≡ k = omega (arith, ap length m.spelling, length-append m.whole m.rest, m.is_long) in
    let w : shown (take at t) ≡ m.whole = shown_front k t (omega arith) ∙ ap (take k) m.spelling ∙ ap (λ n. take n (m.whole ++ m.rest)) (sym long) ∙ take-append_seam m.whole m.rest in
    record {
      none = no_script (shown t) l e;
      whole = take at t;
      rest = drop at t;
      items = chains m.turns;
      spelling = sym (take-append-drop at t);
      is_long = length-take-le at t (past_short k t);
      is_front = (m.turns, ap front w ∙ m.is_front, refl);
      longest = λ a b cs q f.
          let d = within (shown t) (shown a) (shown b) l f.0 e (ap shown q ∙ shown-append a b) f.1 in
          subst (λ y. length a ≤ past_nul k y) (sym q) (shown_within a b k (omega (arith, d, ap length (ap shown q ∙ shown-append a b), length-append (shown a) (shown b))));
    }
