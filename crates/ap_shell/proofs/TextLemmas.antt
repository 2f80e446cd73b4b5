-- Newlines at the end of a text, the last of the variables, and numbers in decimal.
use Rattle.std.proofs.Common.{◌≡◌, ◌∙◌, ap, ap₂, sym, refl, ℕ, zero, suc, ◌+◌, ◌-◌, ◌*◌, ◌<◌, ◌≤◌, List, [], ◌∷◌, ◌++◌, length, take, drop, get_or, Bool, true, false, cond, ◌==◌, arith}
use Rattle.std.specs.Prelude.{◌&&◌, nat_le, Some, None}
use Rattle.std.proofs.lemmas.Bool.{eqb-true}
use Rattle.std.proofs.lemmas.Bool.Decides.{nat_tests}
use Rattle.std.proofs.lemmas.List.{at_drop_more, take_more}
use Rattle.ap_octal.specs.DdPlace.{is_digit, with_digits}
use Rattle.ap_shell.specs.Files.{Text}
use Rattle.std.specs.Str.{bytes_eq}
use Rattle.ap_shell.specs.Words.{all_newlines, trimmed, value_among, value_of}
use Rattle.ap_shell.specs.declared.state.Variable.{Variable}
use Rattle.ap_shell.specs.EndCommands.{at_most_255, status_of}

-- ---- newlines at the end

pub false_by : (b : Bool) → (b ≡ true → ⊥) → b ≡ false
false_by true never = absurd (never refl)
false_by false never = refl

newlines_more : (t : Text) → all_newlines (t ++ 10 ∷ []) ≡ all_newlines t
newlines_more [] = refl
newlines_more (b ∷ t) = ap (λ x. b == 10 && x) (newlines_more t)

pub trimmed_newline : (t : Text) → trimmed (t ++ 10 ∷ []) ≡ trimmed t
trimmed_newline [] = refl
trimmed_newline (b ∷ t) = ap₂ (λ a r. cond (b == 10 && a) [] (b ∷ r)) (newlines_more t) (trimmed_newline t)

and_false : (x : Bool) → (x && false) ≡ false
and_false true = refl
and_false false = refl

not_all : (t : Text) (c : ℕ) → (c == 10) ≡ false → all_newlines (t ++ c ∷ []) ≡ false
not_all [] c other = ap (λ x. x && true) other
not_all (b ∷ t) c other = ap (λ x. b == 10 && x) (not_all t c other) ∙ and_false (b == 10)

pub trimmed_other : (t : Text) (c : ℕ) → (c == 10) ≡ false → trimmed (t ++ c ∷ []) ≡ t ++ c ∷ []
trimmed_other [] c other = ap (λ x. cond (x && true) [] (c ∷ [])) other
trimmed_other (b ∷ t) c other = ap₂ (λ a r. cond a [] (b ∷ r)) (not_all (b ∷ t) c other) (trimmed_other t c other)

last_of : {X : Type 0} (xs : List X) (end : ℕ) (d : X) → 0 < end → end ≤ length xs → take end xs ≡ take (end - 1) xs ++ get_or xs (end - 1) d ∷ []
last_of xs end d some within =
    let e : end ≡ end - 1 + 1 = omega arith in
    ap (λ k. take k xs) e ∙ take_more xs (end - 1) d (omega arith)

-- one newline less
pub trimmed_less : (t : Text) (end : ℕ) → 0 < end → end ≤ length t → get_or t (end - 1) 0 ≡ 10 → trimmed (take end t) ≡ trimmed (take (end - 1) t)
trimmed_less t end some within newline =
    ap trimmed (last_of t end 0 some within ∙ ap (λ c. take (end - 1) t ++ c ∷ []) newline) ∙ trimmed_newline (take (end - 1) t)

-- and no more newlines
pub trimmed_end : (t : Text) (end : ℕ) → end ≤ length t → (0 < end → get_or t (end - 1) 0 ≡ 10 → ⊥) → trimmed (take end t) ≡ take end t
trimmed_end t zero within other = refl
trimmed_end t (suc n) within other =
    let e : take (suc n) t ≡ take (suc n - 1) t ++ get_or t (suc n - 1) 0 ∷ [] = last_of t (suc n) 0 (omega arith) within in
    let h : (get_or t (suc n - 1) 0 == 10) ≡ false = false_by (get_or t (suc n - 1) 0 == 10) (λ is. other (omega arith) (eqb-true (get_or t (suc n - 1) 0) 10 is)) in
    ap trimmed e ∙ trimmed_other (take (suc n - 1) t) (get_or t (suc n - 1) 0) h ∙ sym e

-- ---- variables

value_behind : (name found : Text) (xs : List Variable) (v : Variable) → value_among name found (xs ++ v ∷ []) ≡ cond (bytes_eq v.name name) v.value (value_among name found xs)
value_behind name found [] v = refl
value_behind name found (x ∷ xs) v = value_behind name (cond (bytes_eq x.name name) x.value found) xs v

-- the last variable counts where it has the name, and else those before it
pub value_last : (name : Text) (vars : List Variable) (end : ℕ) (v : Variable) (b : Bool) → 0 < end → end ≤ length vars → v ≡ get_or vars (end - 1) v → bytes_eq v.name name ≡ b
    → value_of name (take end vars) ≡ cond b v.value (value_of name (take (end - 1) vars))
value_last name vars end v b some within is same =
    ap (value_of name) (last_of vars end v some within ∙ ap (λ x. take (end - 1) vars ++ x ∷ []) (sym is))
    ∙ value_behind name [] (take (end - 1) vars) v
    ∙ ap (λ k. cond k v.value (value_of name (take (end - 1) vars))) same

-- ---- decimal digits

pub digit_more : (v i : ℕ) (t : Text) → i < length t → is_digit (get_or t i 0) ≡ true
    → with_digits v (drop i t) ≡ with_digits (v * 10 + (get_or t i 0 - 48)) (drop (i + 1) t)
digit_more v i t below digit =
    at_drop_more (with_digits v) t i 0 below
    ∙ ap (λ b. cond b (with_digits (v * 10 + (get_or t i 0 - 48)) (drop (i + 1) t)) None) digit

none_of : (b : Bool) (m : ℕ) (t : Text) → at_most_255 (with_digits m t) ≡ None → at_most_255 (cond b (with_digits m t) None) ≡ None
none_of true m t h = h
none_of false m t h = refl

-- a number above 255 stays above it
pub too_big : (t : Text) (n : ℕ) → 255 < n → at_most_255 (with_digits n t) ≡ None
too_big [] n above = let e : nat_le n 255 ≡ false = grind (arith, nat_tests) in ap (λ b. cond b (Some n) None) e
too_big (c ∷ t) n above = none_of (is_digit c) (n * 10 + (c - 48)) t (too_big t (n * 10 + (c - 48)) (omega arith))

pub status_of_some : (t : Text) → 0 < length t → status_of t ≡ at_most_255 (with_digits 0 t)
status_of_some [] some = absurd (omega (arith, some))
status_of_some (b ∷ t) some = refl
