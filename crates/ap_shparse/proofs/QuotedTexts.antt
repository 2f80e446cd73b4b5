-- What is read of a text in single quotes, of a delimiter, and of a here-document in whose body the delimiter doesn't stand.
use Rattle.std.proofs.Common.{◌≡◌, ◌≢◌, ◌⊎◌, inl, inr, ◌∙◌, ap, sym, refl, ℕ, zero, suc, ◌+◌, ◌≤◌, ◌==◌, ◌&&◌, not, [], ◌∷◌, ◌++◌, Bool, true, false, cond, length, arith, append_assoc, length-append}
use Rattle.std.specs.Prelude.{Some}
use Rattle.std.specs.Str.{bytes_eq}
use Rattle.std.proofs.lemmas.Bool.{and_parts, not-true}
use Rattle.std.proofs.lemmas.Bool.Decides.{nat_tests}
use Rattle.std.proofs.lemmas.List.{append-nil}
use Rattle.std.proofs.lemmas.Slice.Eq.{bytes_eq-Decides}
use Rattle.ap_shparse.specs.Bytes.{Text, after, ends_word, has, is_among, run}
use Rattle.ap_shparse.specs.Pieces.{single, with_bytes}
use Rattle.ap_shparse.specs.Places.{body, body_from, delimiter, is_delimiter}
use Rattle.ap_shparse.specs.declared.class.Class.TheVariants.{Comment, Quoted}
use Rattle.ap_shparse.specs.declared.found.Found.{Found}

-- a byte stands nowhere in a text
abbrev pub lacks : ℕ → Text → Bool
lacks k [] = true
lacks k (c ∷ t) = not (c == k) && lacks k t

run_quoted : (t u : Text) → lacks 39 t ≡ true → run Quoted (t ++ 39 ∷ u) ≡ t
unfolding has
run_quoted [] u h = refl
run_quoted (c ∷ t) u h =
    let parts = and_parts (not (c == 39)) (lacks 39 t) h in
    ap (λ b. cond b (c ∷ run Quoted (t ++ 39 ∷ u)) []) parts.0 ∙ ap (λ r. c ∷ r) (run_quoted t u parts.1)

after_quoted : (t u : Text) → lacks 39 t ≡ true → after Quoted (t ++ 39 ∷ u) ≡ 39 ∷ u
unfolding has
after_quoted [] u h = refl
after_quoted (c ∷ t) u h =
    let parts = and_parts (not (c == 39)) (lacks 39 t) h in
    ap (λ b. cond b (after Quoted (t ++ 39 ∷ u)) (c ∷ (t ++ 39 ∷ u))) parts.0 ∙ after_quoted t u parts.1

run_line : (t u : Text) → lacks 10 t ≡ true → run Comment (t ++ 10 ∷ u) ≡ t
unfolding has
run_line [] u h = refl
run_line (c ∷ t) u h =
    let parts = and_parts (not (c == 10)) (lacks 10 t) h in
    ap (λ b. cond b (c ∷ run Comment (t ++ 10 ∷ u)) []) parts.0 ∙ ap (λ r. c ∷ r) (run_line t u parts.1)

after_line : (t u : Text) → lacks 10 t ≡ true → after Comment (t ++ 10 ∷ u) ≡ 10 ∷ u
unfolding has
after_line [] u h = refl
after_line (c ∷ t) u h =
    let parts = and_parts (not (c == 10)) (lacks 10 t) h in
    ap (λ b. cond b (after Comment (t ++ 10 ∷ u)) (c ∷ (t ++ 10 ∷ u))) parts.0 ∙ after_line t u parts.1

-- ---- quotes

pub single_reads : (f : Found) (t u : Text) → lacks 39 t ≡ true → single f (t ++ 39 ∷ u) ≡ Some (with_bytes f t, u)
unfolding single
single_reads f t u h = rw (after_quoted t u h, run_quoted t u h) refl

not_among : (k : ℕ) (t : Text) → lacks k t ≡ true → is_among k t ≡ false
not_among k [] h = refl
not_among k (c ∷ t) h =
    let parts = and_parts (not (c == k)) (lacks k t) h in
    rw (not-true (c == k) parts.0) (not_among k t parts.1)

delimits : (t : Text) → t ≢ [] → lacks 10 t ≡ true → is_delimiter t ≡ true
delimits [] some h = absurd (some refl)
delimits (c ∷ t) some h = ap not (not_among 10 (c ∷ t) h)

-- a delimiter at the end of a line
pub delimiter_reads : (t u : Text) → t ≢ [] → lacks 39 t ≡ true → lacks 10 t ≡ true → delimiter (39 ∷ (t ++ 39 ∷ 10 ∷ u)) ≡ Some (t, 10 ∷ u)
unfolding delimiter ends_word
delimiter_reads t u some h k = rw (after_quoted t (10 ∷ u) h, run_quoted t (10 ∷ u) h, delimits t some k) refl

-- ---- here-documents

line_passed : (d : Text) (n : ℕ) (found t u : Text) → lacks 10 t ≡ true → bytes_eq t d ≡ false → body_from d (suc n) found (t ++ 10 ∷ u) ≡ body_from d n (found ++ (t ++ 10 ∷ [])) u
unfolding body_from
line_passed d n found t u h apart = rw (run_line t u h, after_line t u h, apart) (ap (λ x. body_from d n x u) (append_assoc found t (10 ∷ [])))

line_closes : (d : Text) (n : ℕ) (found u : Text) → lacks 10 d ≡ true → body_from d (suc n) found (d ++ 10 ∷ u) ≡ Some (found, 10 ∷ u)
unfolding body_from
line_closes d n found u h = rw (run_line d u h, after_line d u h, (bytes_eq-Decides d d).1 refl) refl

-- a text is one line, or a line and more lines
abbrev Lines : Text → Type 0
Lines t = (line : Text) × (lacks 10 line ≡ true) × ((t ≡ line) ⊎ ((more : Text) × (t ≡ line ++ 10 ∷ more)))

lines_by : (b : Bool) (c : ℕ) (t : Text) → (c == 10) ≡ b → Lines t → Lines (c ∷ t)
lines_by true c t newline lines = ([], refl, inr (t, ap (λ x. x ∷ t) (grind (arith, nat_tests, newline))))
lines_by false c t other (line, h, inl is) = (c ∷ line, rw other h, inl (ap (λ r. c ∷ r) is))
lines_by false c t other (line, h, inr (more, is)) = (c ∷ line, rw other h, inr (more, ap (λ r. c ∷ r) is))

lines_of : (t : Text) → Lines t
lines_of [] = ([], refl, inl refl)
lines_of (c ∷ t) = lines_by (c == 10) c t refl (lines_of t)

-- a text doesn't stand in another
abbrev pub StandsNowhere : Text → Text → Type 0
StandsNowhere d t = (front more : Text) → t ≡ front ++ (d ++ more) → ⊥

apart_by : (t d : Text) (b : Bool) → bytes_eq t d ≡ b → t ≢ d → bytes_eq t d ≡ false
apart_by t d true is other = absurd (other ((bytes_eq-Decides t d).0 is))
apart_by t d false is other = is

-- what is left is a line and more of them, or the last one
by_lines : (d : Text) (n : ℕ) (found t u : Text) → Lines t → lacks 10 d ≡ true → length t + 1 ≤ n → StandsNowhere d t
    → ((front more : Text) → length more + 2 ≤ n → StandsNowhere d more → body_from d n front (more ++ 10 ∷ (d ++ 10 ∷ u)) ≡ Some (front ++ (more ++ 10 ∷ []), 10 ∷ u))
    → body_from d (suc n) found (t ++ 10 ∷ (d ++ 10 ∷ u)) ≡ Some (found ++ (t ++ 10 ∷ []), 10 ∷ u)
by_lines d zero found t u lines h k none next = absurd (omega (arith, k))
by_lines d (suc n) found t u (line, is_line, inl is) h k none next =
    ap (λ x. body_from d (suc (suc n)) found (x ++ 10 ∷ (d ++ 10 ∷ u))) is
    ∙ line_passed d (suc n) found line (d ++ 10 ∷ u) is_line (apart_by line d _ refl (λ e. none [] [] (is ∙ e ∙ sym (append-nil d))))
    ∙ line_closes d n (found ++ (line ++ 10 ∷ [])) u h
    ∙ ap (λ x. Some (found ++ (x ++ 10 ∷ []), 10 ∷ u)) (sym is)
by_lines d (suc n) found t u (line, is_line, inr (more, is)) h k none next =
    let behind = 10 ∷ (d ++ 10 ∷ u) in
    let long : length t ≡ length line + suc (length more) = ap length is ∙ length-append line (10 ∷ more) in
    ap (λ x. body_from d (suc (suc n)) found (x ++ behind)) is
    ∙ ap (body_from d (suc (suc n)) found) (append_assoc line (10 ∷ more) behind)
    ∙ line_passed d (suc n) found line (more ++ behind) is_line (apart_by line d _ refl (λ e. none [] (10 ∷ more) (is ∙ ap (λ x. x ++ 10 ∷ more) e)))
    ∙ next (found ++ (line ++ 10 ∷ [])) more (omega arith) (λ f b e. none (line ++ 10 ∷ f) b (is ∙ ap (λ x. line ++ 10 ∷ x) e ∙ sym (append_assoc line (10 ∷ f) (d ++ b))))
    ∙ ap (λ x. Some (x, 10 ∷ u)) (append_assoc found (line ++ 10 ∷ []) (more ++ 10 ∷ [])
    ∙ ap (λ x. found ++ x) (append_assoc line (10 ∷ []) (more ++ 10 ∷ []) ∙ sym (append_assoc line (10 ∷ more) (10 ∷ [])) ∙ ap (λ x. x ++ 10 ∷ []) (sym is)))

body_by : (d : Text) (n : ℕ) (found t u : Text) → lacks 10 d ≡ true → length t + 2 ≤ n → StandsNowhere d t
    → body_from d n found (t ++ 10 ∷ (d ++ 10 ∷ u)) ≡ Some (found ++ (t ++ 10 ∷ []), 10 ∷ u)
body_by d zero found t u h k none = absurd (omega (arith, k))
body_by d (suc n) found t u h k none = by_lines d n found t u (lines_of t) h (omega arith) none (λ front more low absent. body_by d n front more u h low absent)

-- from the newline before the body to the end of the closing line
pub body_reads : (d t u : Text) → lacks 10 d ≡ true → StandsNowhere d t → body d (10 ∷ (t ++ 10 ∷ (d ++ 10 ∷ u))) ≡ Some (t ++ 10 ∷ [], 10 ∷ u)
unfolding body
body_reads d t u h none =
    let long = length-append t (10 ∷ (d ++ 10 ∷ u)) in
    let more = length-append d (10 ∷ u) in
    body_by d (length (t ++ 10 ∷ (d ++ 10 ∷ u))) [] t u h (omega arith) none
