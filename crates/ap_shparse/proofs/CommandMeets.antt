-- The simple commands that are read are those that the rules have.
use Rattle.std.proofs.Common.{◌≡◌, ◌∙◌, ◌≤◌, ◌+◌, ℕ, zero, suc, List, [], ◌∷◌, ◌++◌, inl, inr, ◌==◌, refl, sym, ap, ap₂, subst, Bool, true, false, if◌then◌else◌, ◌||◌, ◌&&◌, not, length, arith, append-nil, append_assoc}
use Rattle.std.specs.Prelude.{Option, Some, None, is_some}
use Rattle.std.proofs.lemmas.Bool.Decides.{nat_tests}
use Rattle.ap_shparse.specs.Bytes.{Text, after, begins_with, ends_word, has, is_digit, is_letter, is_plain, past, run}
use Rattle.ap_shparse.specs.Reads.{Outcome, and_then, if_eaten, pure}
use Rattle.ap_shparse.specs.Pieces.{begins_name, expect}
use Rattle.ap_shparse.specs.Places.{Place, args, at_text, waits}
use Rattle.ap_shparse.specs.Words.{assignment, begins_word, is_assignment, plain_word}
use Rattle.ap_shparse.specs.Redirects.{is_angle, next_operator, number, redirects, target_of}
use Rattle.ap_shparse.specs.Commands.{alone, assigned, called, calls_at, element, elements, ends_command, is_empty, is_here, is_nil, is_reserved, next_word, no_elements, no_substitution, past_blanks, redirection, redirection_of, simple, substitution, targeted, with_args, with_redirection, with_word}
use Rattle.ap_shparse.specs.LineRules.{IsKeyword}
use Rattle.ap_shparse.specs.PieceRules.{TextRule}
use Rattle.ap_shparse.specs.WordRules.{IsAssignment, IsWord}
use Rattle.ap_shparse.specs.CommandRules as rule
use Rattle.ap_shparse.specs.CommandRules.{AreElements, AreSome, Element, IsElement, IsNoSubstitution, IsSimple, IsSubstitution, assigns_of, called_by, first_calls, has_more, has_plain, is_word, no_here, one_here, redirections_of, words_of}
use Rattle.ap_shparse.specs.declared.class.Class.TheVariants.{Blank, Digit}
use Rattle.ap_shparse.specs.declared.elements.Called.{Called}
use Rattle.ap_shparse.specs.declared.elements.Calls.{Calls}
use Rattle.ap_shparse.specs.declared.elements.Calls.TheVariants as calls
use Rattle.ap_shparse.specs.declared.elements.Elements.{Elements}
use Rattle.ap_shparse.specs.declared.redirect.Operator.{Operator}
use Rattle.ap_shparse.specs.declared.tree.Assign.{Assign}
use Rattle.ap_shparse.specs.declared.tree.Redirection.{Redirection}
use Rattle.ap_shparse.specs.declared.tree.Simple.{Simple}
use Rattle.ap_shparse.specs.declared.tree.Word.{Word}
use Rattle.ap_shparse.specs.declared.tree.Word.TheVariants as word
use Rattle.ap_shparse.proofs.Keeps.{both_of, left_of, right_of}
use Rattle.ap_shparse.proofs.KeptWords.{begins_inside}
use Rattle.ap_shparse.proofs.GapLemmas.{after_short}
use Rattle.ap_shparse.proofs.LineMeets.{Meets, keyword_short, none_past, past_keyword, past_none, past_sound}
use Rattle.ap_shparse.proofs.PieceMeets.{TMeets, expected, or_false, or_true}
use Rattle.ap_shparse.proofs.WordMeets.{assignment_meets, looks_so, word_meets}
use Rattle.ap_shparse.proofs.RedirectMeets.{redirection_begins, redirection_short, redirection_sound, redirection_whole}

-- ---- how elements begin

-- no redirection and no assignment stands there, or an assignment does
abbrev BeginsWord : Bool → Place → Bool → Type 0
BeginsWord worded p assigning = (redirects p.text ≡ false) × ((not worded && is_assignment p.text) ≡ assigning)

quote_begins : (t : Text) → (redirects (34 ∷ t) ≡ false) × (is_assignment (34 ∷ t) ≡ false) × (ends_command (34 ∷ t) ≡ false)
unfolding redirects is_assignment ends_word has
quote_begins t = (refl, refl, refl)

and_false : (v : Bool) → v && false ≡ false
and_false true = refl
and_false false = refl

args_begin : (worded : Bool) (p q : Place) → IsKeyword args p q → BeginsWord worded p false
args_begin worded p q x =
    let t = x.1.0 in
    let b = quote_begins (36 ∷ 64 ∷ 34 ∷ x.0) in
    (ap redirects t ∙ b.0, ap (λ y. not worded && is_assignment y) t ∙ ap (λ y. not worded && y) b.1 ∙ and_false (not worded))

letter_redirects : (c : ℕ) (t : Text) → is_letter c ≡ true → redirects (c ∷ t) ≡ false
unfolding redirects has
letter_redirects c t e =
    let d : is_digit c ≡ false = grind (arith, nat_tests) in
    let l : (c == 60) ≡ false = grind (arith, nat_tests) in
    let g : (c == 62) ≡ false = grind (arith, nat_tests) in
    ap (λ v. is_angle (if v then after Digit t else c ∷ t)) d ∙ ap₂ (λ x y. is_some (if x then Some t else None) || is_some (if y then Some t else None)) l g

letter_inside : (c : ℕ) (t : Text) → is_letter c ≡ true → (ends_word (c ∷ t) ≡ false) × (begins_with 35 (c ∷ t) ≡ false)
unfolding ends_word
letter_inside c t e = (grind (arith, nat_tests), let h : (c == 35) ≡ false = grind (arith, nat_tests) in ap (λ v. is_some (if v then Some t else None)) h)

named_redirects : (t : Text) → begins_name t ≡ true → redirects t ≡ false
named_redirects [] e = cc
named_redirects (c ∷ t) e = letter_redirects c t e

assigned_begins : (IsSub : TextRule Simple) (t u : Text) (a : Assign) → IsAssignment IsSub t u a → redirects t ≡ false
assigned_begins IsSub t u a x = named_redirects t x.is_name.begins

inside_goes : (t : Text) → ends_word t ≡ false → begins_with 35 t ≡ false → ends_command t ≡ false
inside_goes t e h = ap₂ (λ x y. not (redirects t) && (x || y)) e h ∙ and_false (not (redirects t))

named_goes : (t : Text) → begins_name t ≡ true → ends_command t ≡ false
named_goes [] e = cc
named_goes (c ∷ t) e = let l = letter_inside c t e in inside_goes (c ∷ t) l.0 l.1

lone_goes : (t : Text) → (ends_command (91 ∷ t) ≡ false) × (ends_command (33 ∷ t) ≡ false)
unfolding redirects ends_word has
lone_goes t = (refl, refl)

no_hash : (t : Text) → begins_word t ≡ true → begins_with 35 t ≡ false
unfolding begins_word is_plain
no_hash [] e = cc
no_hash (c ∷ t) e = let h : (c == 35) ≡ false = grind (arith, nat_tests) in ap (λ v. is_some (if v then Some t else None)) h

word_goes : (IsSub : TextRule Simple) (t u : Text) (w : Word) → IsWord IsSub t u w → ends_command t ≡ false
word_goes IsSub t u w (inl x) = ap ends_command x.0.0 ∙ (lone_goes u).0
word_goes IsSub t u w (inr (inl x)) = ap ends_command x.0.0 ∙ (lone_goes (61 ∷ u)).1
word_goes IsSub t u w (inr (inr x)) = inside_goes t (begins_inside t x.begins) (no_hash t x.begins)

-- where an element begins, the command goes on
element_goes : (IsSub : TextRule Simple) (worded : Bool) (p q : Place) (x : Element) → IsElement IsSub worded p q x → ends_command p.text ≡ false
element_goes IsSub worded p q (rule.assigns a) x = named_goes p.text x.2.is_name.begins
element_goes IsSub worded p q (rule.plain c w) x = word_goes IsSub p.text x.0.0 w x.0.4
element_goes IsSub worded p q rule.arguments x = ap ends_command x.1.0 ∙ (quote_begins (36 ∷ 64 ∷ 34 ∷ x.0)).2
element_goes IsSub worded p q (rule.redirected o r) x = ap (λ v. not v && (ends_word p.text || begins_with 35 p.text)) (redirection_begins IsSub o p q r x)

-- ---- what is found with an element

abbrev with_element : Elements → Element → Elements
with_element e (rule.assigns a) = record e { assigns = e.assigns ++ a ∷ [] }
with_element e (rule.plain k w) = with_word e k w
with_element e rule.arguments = with_args e
with_element e (rule.redirected o r) = record e { redirections = e.redirections ++ r ∷ []; here = e.here || is_here o }

abbrev with_all : Elements → List Element → Elements
with_all e [] = e
with_all e (x ∷ xs) = with_all (with_element e x) xs

-- no second here-document
abbrev IsFirst : Bool → Element → Type 0
IsFirst b (rule.redirected o r) = (b && is_here o) ≡ false
IsFirst b x = Unit {0}

record OneElement (IsSub : TextRule Simple) (worded : Bool) (e : Elements) (p q : Place) (f : Elements) : Type 0 where
  pub one : Element
  pub is_one : IsElement IsSub worded p q one
  pub is_first : IsFirst e.here one
  pub value : f ≡ with_element e one

abbrev at_operator : (Text → Outcome Text Simple) → Elements → Place → Operator → Text → Bool → Outcome Place Elements
at_operator sub e p o t v = if v then None else targeted sub e o (number o (run Digit p.text)) (at_text p t)

redirected_sound : (sub : Text → Outcome Text Simple) (IsSub : TextRule Simple) → TMeets 0 sub IsSub → (worded : Bool) (e : Elements) (p q : Place) (f : Elements) → redirection sub e p ≡ Some (f, q) → OneElement IsSub worded e p q f
unfolding redirection
redirected_sound sub IsSub k worded e p q f x =
    let w = both_of (next_operator (after Digit p.text)) (λ o t. at_operator sub e p o t (e.here && is_here o)) (f, q) x in
    by_here w.first w.left w.is_first (e.here && is_here w.first) refl w.is_second
  where
    by_number : (o : Operator) (t : Text) → next_operator (after Digit p.text) ≡ Some (o, t) → (e.here && is_here o) ≡ false → (n : Option ℕ) → number o (run Digit p.text) ≡ n → targeted sub e o n (at_text p t) ≡ Some (f, q)
        → OneElement IsSub worded e p q f
    by_number o t is h None n x = cc
    by_number o t is h (Some m) n x =
        let w = both_of (target_of sub o (at_text p t)) (λ to. pure (with_redirection e o m to)) (f, q) x in
        record {
          one = rule.redirected o (redirection_of m w.first);
          is_one = redirection_sound sub IsSub k p q o t m w.first is n (w.is_first ∙ ap (λ y. Some (w.first, y)) (right_of (with_redirection e o m w.first) f w.left q w.is_second));
          is_first = h;
          value = sym (left_of (with_redirection e o m w.first) f w.left q w.is_second);
        }

    by_here : (o : Operator) (t : Text) → next_operator (after Digit p.text) ≡ Some (o, t) → (v : Bool) → (e.here && is_here o) ≡ v → at_operator sub e p o t v ≡ Some (f, q) → OneElement IsSub worded e p q f
    by_here o t is true h x = cc
    by_here o t is false h x = by_number o t is h (number o (run Digit p.text)) refl x

abbrev found_args : Elements → Place → Text → Outcome Place Elements
found_args e p t = Some (with_args e, at_text p t)

abbrev found_word : (Text → Outcome Text Simple) → Elements → Place → Outcome Place Elements
found_word sub e p = and_then (plain_word sub p.text) (λ w t. Some (with_word e (calls_at p.text) w, at_text p t))

worded_sound : (sub : Text → Outcome Text Simple) (IsSub : TextRule Simple) → TMeets 0 sub IsSub → (worded : Bool) (e : Elements) (p q : Place) (f : Elements) → BeginsWord worded p false → next_word sub e p ≡ Some (f, q) → OneElement IsSub worded e p q f
unfolding next_word
worded_sound sub IsSub k worded e p q f b x = by_args (past args p.text) refl x
  where
    by_args : (o : Option Text) → past args p.text ≡ o → if_eaten o (found_args e p) (found_word sub e p) ≡ Some (f, q) → OneElement IsSub worded e p q f
    by_args None is x =
        let w = both_of (plain_word sub p.text) (λ y t. Some (with_word e (calls_at p.text) y, at_text p t)) (f, q) x in
        record {
          one = rule.plain (calls_at p.text) w.first;
          is_one = ((w.left, b.0, b.1, none_past args p.text is, (word_meets sub IsSub k).sound p.text w.left w.first w.is_first, sym (right_of (with_word e (calls_at p.text) w.first) f (at_text p w.left) q w.is_second)), refl);
          is_first = tt;
          value = sym (left_of (with_word e (calls_at p.text) w.first) f (at_text p w.left) q w.is_second);
        }
    by_args (Some t) is x =
        record {
          one = rule.arguments;
          is_one = (t, past_sound args p.text t is, sym (right_of (with_args e) f (at_text p t) q x));
          is_first = tt;
          value = sym (left_of (with_args e) f (at_text p t) q x);
        }

no_word : (v w : Bool) → not v && w ≡ true → v ≡ false
no_word true w e = cc
no_word false w e = refl

assigned_sound : (sub : Text → Outcome Text Simple) (IsSub : TextRule Simple) → TMeets 0 sub IsSub → (worded : Bool) (e : Elements) (p q : Place) (f : Elements) → BeginsWord worded p true → assigned sub e p ≡ Some (f, q) → OneElement IsSub worded e p q f
unfolding assigned
assigned_sound sub IsSub k worded e p q f b x =
    let w = both_of (assignment sub p.text) (λ a t. Some (with_element e (rule.assigns a), at_text p t)) (f, q) x in
    record {
      one = rule.assigns w.first;
      is_one = (w.left, no_word worded (is_assignment p.text) b.1, (assignment_meets sub IsSub k).sound p.text w.left w.first w.is_first, sym (right_of (with_element e (rule.assigns w.first)) f (at_text p w.left) q w.is_second));
      is_first = tt;
      value = sym (left_of (with_element e (rule.assigns w.first)) f (at_text p w.left) q w.is_second);
    }

abbrev by_begin : (Text → Outcome Text Simple) → Elements → Place → Bool → Bool → Outcome Place Elements
by_begin sub e p redirecting assigning = if redirecting then redirection sub e p else (if assigning then assigned sub e p else next_word sub e p)

element_sound : (sub : Text → Outcome Text Simple) (IsSub : TextRule Simple) → TMeets 0 sub IsSub → (worded : Bool) (e : Elements) → is_nil e.words ≡ not worded → (p q : Place) (f : Elements) → element sub e p ≡ Some (f, q)
    → OneElement IsSub worded e p q f
unfolding element
element_sound sub IsSub k worded e s p q f x = by_test (redirects p.text) (is_nil e.words && is_assignment p.text) refl refl x
  where
    by_test : (v w : Bool) → redirects p.text ≡ v → (is_nil e.words && is_assignment p.text) ≡ w → by_begin sub e p v w ≡ Some (f, q) → OneElement IsSub worded e p q f
    by_test true w r a x = redirected_sound sub IsSub k worded e p q f x
    by_test false true r a x = assigned_sound sub IsSub k worded e p q f (r, ap (λ y. y && is_assignment p.text) (sym s) ∙ a) x
    by_test false false r a x = worded_sound sub IsSub k worded e p q f (r, ap (λ y. y && is_assignment p.text) (sym s) ∙ a) x

begun : (sub : Text → Outcome Text Simple) (worded : Bool) (e : Elements) → is_nil e.words ≡ not worded → (p : Place) (v : Bool) → BeginsWord worded p v → element sub e p ≡ by_begin sub e p false v
unfolding element
begun sub worded e s p v b = ap₂ (λ x y. by_begin sub e p x y) b.0 (ap (λ y. y && is_assignment p.text) s ∙ b.1)

element_whole : (sub : Text → Outcome Text Simple) (IsSub : TextRule Simple) → TMeets 0 sub IsSub → (worded : Bool) (e : Elements) → is_nil e.words ≡ not worded → (p q : Place) (x : Element) → IsElement IsSub worded p q x
    → IsFirst e.here x → element sub e p ≡ Some (with_element e x, q)
unfolding assigned next_word redirection element
element_whole sub IsSub k worded e s p q (rule.assigns a) x h =
    begun sub worded e s p true (assigned_begins IsSub p.text x.0 a x.2, ap₂ (λ y z. not y && z) x.1 (looks_so IsSub p.text x.0 a x.2))
    ∙ ap (λ o. and_then o (λ b t. Some (with_element e (rule.assigns b), at_text p t))) ((assignment_meets sub IsSub k).whole p.text x.0 a x.2)
    ∙ ap (λ y. Some (with_element e (rule.assigns a), y)) (sym x.3)
element_whole sub IsSub k worded e s p q rule.arguments x h =
    begun sub worded e s p false (args_begin worded p q x)
    ∙ ap (λ o. if_eaten o (found_args e p) (found_word sub e p)) (past_keyword args p q x)
    ∙ ap (λ y. Some (with_args e, y)) (sym x.2)
element_whole sub IsSub k worded e s p q (rule.plain c w) x h =
    let i = x.0 in
    begun sub worded e s p false (i.1, i.2)
    ∙ ap (λ o. if_eaten o (found_args e p) (found_word sub e p)) (past_none args p.text i.3)
    ∙ ap (λ o. and_then o (λ y t. Some (with_word e (calls_at p.text) y, at_text p t))) ((word_meets sub IsSub k).whole p.text i.0 w i.4)
    ∙ ap₂ (λ y z. Some (with_word e y w, z)) (sym x.1) (sym i.5)
element_whole sub IsSub k worded e s p q (rule.redirected o r) x h =
    let f = redirection_whole sub IsSub k o p q r x in
    ap (λ v. by_begin sub e p v (is_nil e.words && is_assignment p.text)) (redirection_begins IsSub o p q r x)
    ∙ ap (λ y. and_then y (λ c t. at_operator sub e p c t (e.here && is_here c))) f.is_operator
    ∙ ap (λ v. at_operator sub e p o x.behind v) h
    ∙ ap (λ n. targeted sub e o n (at_text p x.behind)) f.is_number
    ∙ ap (λ y. and_then y (λ to. pure (with_redirection e o x.descriptor to))) f.is_target
    ∙ ap (λ y. Some (with_element e (rule.redirected o y), q)) (sym x.value)

element_short : (sub : Text → Outcome Text Simple) (IsSub : TextRule Simple) → TMeets 0 sub IsSub → (worded : Bool) (p q : Place) (x : Element) → IsElement IsSub worded p q x → 1 + length q.text ≤ length p.text
element_short sub IsSub k worded p q (rule.assigns a) x = omega (arith, (assignment_meets sub IsSub k).short p.text x.0 a x.2, ap (λ y. length y.text) x.3)
element_short sub IsSub k worded p q rule.arguments x = omega (arith, keyword_short args p q x)
element_short sub IsSub k worded p q (rule.plain c w) x = omega (arith, (word_meets sub IsSub k).short p.text x.0.0 w x.0.4, ap (λ y. length y.text) x.0.5)
element_short sub IsSub k worded p q (rule.redirected o r) x = redirection_short sub IsSub k o p q r x

-- ---- whether a word stands before

not_nil : (ws : List Word) (w : Word) → is_nil (ws ++ w ∷ []) ≡ false
not_nil [] w = refl
not_nil (v ∷ ws) w = refl

abbrev word_by : Bool → Elements → Calls → Word → Elements
word_by v e k w = if v then record e { words = w ∷ []; calls = k } else record e { words = e.words ++ w ∷ []; more = true }

with_word_words : (e : Elements) (k : Calls) (w : Word) → is_nil (with_word e k w).words ≡ false
with_word_words e k w = by_nil (is_nil e.words)
  where
    by_nil : (v : Bool) → is_nil (word_by v e k w).words ≡ false
    by_nil true = refl
    by_nil false = not_nil e.words w

next_worded : (worded : Bool) (e : Elements) → is_nil e.words ≡ not worded → (x : Element) → is_nil (with_element e x).words ≡ not (worded || is_word x)
next_worded worded e s (rule.assigns a) = s ∙ ap not (or_false worded)
next_worded worded e s (rule.plain k w) = with_word_words e k w ∙ ap not (or_true worded)
next_worded worded e s rule.arguments = not_nil e.words word.Args ∙ ap not (or_true worded)
next_worded worded e s (rule.redirected o r) = s ∙ ap not (or_false worded)

-- ---- here-documents

abbrev heres : Bool → List Element → Bool
heres true xs = no_here xs
heres false xs = one_here xs

abbrev Heres : Bool → List Element → Type 0
Heres b xs = heres b xs ≡ true

with_word_here : (e : Elements) (k : Calls) (w : Word) → (with_word e k w).here ≡ e.here
with_word_here e k w = by_nil (is_nil e.words)
  where
    by_nil : (v : Bool) → (word_by v e k w).here ≡ e.here
    by_nil true = refl
    by_nil false = refl

here_first : (b : Bool) (o : Operator) (r : Redirection) (xs : List Element) → (b && is_here o) ≡ false → Heres (b || is_here o) xs → Heres b (rule.redirected o r ∷ xs)
here_first true o r xs f h = ap₂ (λ x y. not x && y) f h
here_first false o r xs f h = by_here (is_here o) h
  where
    by_here : (v : Bool) → Heres v xs → (if v then no_here xs else one_here xs) ≡ true
    by_here true h = h
    by_here false h = h

here_more : (e : Elements) (x : Element) (xs : List Element) → IsFirst e.here x → Heres (with_element e x).here xs → Heres e.here (x ∷ xs)
here_more e (rule.redirected o r) xs f h = here_first e.here o r xs f h
here_more e (rule.assigns a) xs f h = by_here e.here h
  where
    by_here : (b : Bool) → Heres b xs → Heres b (rule.assigns a ∷ xs)
    by_here true h = h
    by_here false h = h
here_more e (rule.plain k w) xs f h = by_here e.here (subst (λ b. Heres b xs) (with_word_here e k w) h)
  where
    by_here : (b : Bool) → Heres b xs → Heres b (rule.plain k w ∷ xs)
    by_here true h = h
    by_here false h = h
here_more e rule.arguments xs f h = by_here e.here h
  where
    by_here : (b : Bool) → Heres b xs → Heres b (rule.arguments ∷ xs)
    by_here true h = h
    by_here false h = h

-- the other way
record Split (e : Elements) (x : Element) (xs : List Element) : Type 0 where
  pub is_first : IsFirst e.here x
  pub are_rest : Heres (with_element e x).here xs

both_true : (v w : Bool) → not v && w ≡ true → (v ≡ false) × (w ≡ true)
both_true true w e = cc
both_true false w e = (refl, e)

split_first : (e : Elements) (o : Operator) (r : Redirection) (xs : List Element) (b : Bool) → e.here ≡ b → Heres b (rule.redirected o r ∷ xs) → ((b && is_here o) ≡ false) × Heres (b || is_here o) xs
split_first e o r xs true s h = both_true (is_here o) (no_here xs) h
split_first e o r xs false s h = (refl, by_here (is_here o) h)
  where
    by_here : (v : Bool) → (if v then no_here xs else one_here xs) ≡ true → Heres v xs
    by_here true h = h
    by_here false h = h

split_heres : (e : Elements) (x : Element) (xs : List Element) → Heres e.here (x ∷ xs) → Split e x xs
split_heres e (rule.redirected o r) xs h = let s = split_first e o r xs e.here refl h in record { is_first = s.0; are_rest = s.1 }
split_heres e (rule.assigns a) xs h = record { is_first = tt; are_rest = by_here e.here h }
  where
    by_here : (b : Bool) → Heres b (rule.assigns a ∷ xs) → Heres b xs
    by_here true h = h
    by_here false h = h
split_heres e (rule.plain k w) xs h = record { is_first = tt; are_rest = subst (λ b. Heres b xs) (sym (with_word_here e k w)) (by_here e.here h) }
  where
    by_here : (b : Bool) → Heres b (rule.plain k w ∷ xs) → Heres b xs
    by_here true h = h
    by_here false h = h
split_heres e rule.arguments xs h = record { is_first = tt; are_rest = by_here e.here h }
  where
    by_here : (b : Bool) → Heres b (rule.arguments ∷ xs) → Heres b xs
    by_here true h = h
    by_here false h = h

none_here : (b : Bool) → Heres b []
none_here true = refl
none_here false = refl

-- ---- elements

record AllElements (IsSub : TextRule Simple) (worded : Bool) (e : Elements) (p q : Place) (f : Elements) : Type 0 where
  pub all : List Element
  pub are_elements : AreElements IsSub worded p q all
  pub heres : Heres e.here all
  pub value : f ≡ with_all e all

abbrev or_more : Bool → Elements → Place → Outcome Place Elements → Outcome Place Elements
or_more v e p o = if v then Some (e, past_blanks p) else o

ends_at : (IsSub : TextRule Simple) (worded : Bool) (e : Elements) (p q : Place) (f : Elements) → ends_command (past_blanks p).text ≡ true → ◌≡◌ {A = Outcome Place Elements} (Some (e, past_blanks p)) (Some (f, q)) → AllElements IsSub worded e p q f
ends_at IsSub worded e p q f is x =
    let r = right_of e f (past_blanks p) q x in
    record { all = []; are_elements = (sym r, ap (λ y. ends_command y.text) (sym r) ∙ is); heres = none_here e.here; value = sym (left_of e f (past_blanks p) q x) }

elements_sound : (sub : Text → Outcome Text Simple) (IsSub : TextRule Simple) → TMeets 0 sub IsSub → (n : ℕ) (worded : Bool) (e : Elements) → is_nil e.words ≡ not worded → (p q : Place) (f : Elements) → elements sub n e p ≡ Some (f, q)
    → AllElements IsSub worded e p q f
unfolding elements
elements_sound sub IsSub k zero worded e s p q f x = by_end (ends_command (past_blanks p).text) refl x
  where
    by_end : (v : Bool) → ends_command (past_blanks p).text ≡ v → or_more v e p None ≡ Some (f, q) → AllElements IsSub worded e p q f
    by_end true is x = ends_at IsSub worded e p q f is x
    by_end false is x = cc
elements_sound sub IsSub k (suc n) worded e s p q f x = by_end (ends_command (past_blanks p).text) refl x (λ v g t y z. elements_sound sub IsSub k n v g t y q f z)
  where
    by_end : (v : Bool) → ends_command (past_blanks p).text ≡ v → or_more v e p (and_then (element sub e (past_blanks p)) (elements sub n)) ≡ Some (f, q)
        → ((v : Bool) (g : Elements) → is_nil g.words ≡ not v → (y : Place) → elements sub n g y ≡ Some (f, q) → AllElements IsSub v g y q f) → AllElements IsSub worded e p q f
    by_end true is x rec = ends_at IsSub worded e p q f is x
    by_end false is x rec =
        let w = both_of (element sub e (past_blanks p)) (elements sub n) (f, q) x in
        let o = element_sound sub IsSub k worded e s (past_blanks p) w.left w.first w.is_first in
        let r = rec (worded || is_word o.one) (with_element e o.one) (next_worded worded e s o.one) w.left (ap (λ g. elements sub n g w.left) (sym o.value) ∙ w.is_second) in
        record { all = o.one ∷ r.all; are_elements = (w.left, o.is_one, r.are_elements); heres = here_more e o.one r.all o.is_first r.heres; value = r.value }

elements_whole : (sub : Text → Outcome Text Simple) (IsSub : TextRule Simple) → TMeets 0 sub IsSub → (xs : List Element) (n : ℕ) (worded : Bool) (e : Elements) → is_nil e.words ≡ not worded → (p q : Place) → AreElements IsSub worded p q xs
    → Heres e.here xs → length p.text ≤ n → elements sub n e p ≡ Some (with_all e xs, q)
unfolding elements
elements_whole sub IsSub k [] zero worded e s p q a h le = ap (λ v. or_more v e p None) (ap (λ y. ends_command y.text) (sym a.0) ∙ a.1) ∙ ap (λ y. Some (e, y)) (sym a.0)
elements_whole sub IsSub k [] (suc n) worded e s p q a h le =
    ap (λ v. or_more v e p (and_then (element sub e (past_blanks p)) (elements sub n))) (ap (λ y. ends_command y.text) (sym a.0) ∙ a.1) ∙ ap (λ y. Some (e, y)) (sym a.0)
elements_whole sub IsSub k (x ∷ xs) zero worded e s p q a h le = absurd (omega (arith, le, element_short sub IsSub k worded (past_blanks p) a.0 x a.1, after_short Blank p.text))
elements_whole sub IsSub k (x ∷ xs) (suc n) worded e s p q a h le =
    let t = split_heres e x xs h in
    ap (λ v. or_more v e p (and_then (element sub e (past_blanks p)) (elements sub n))) (element_goes IsSub worded (past_blanks p) a.0 x a.1)
    ∙ ap (λ o. and_then o (elements sub n)) (element_whole sub IsSub k worded e s (past_blanks p) a.0 x a.1 t.is_first)
    ∙ elements_whole sub IsSub k xs n (worded || is_word x) (with_element e x) (next_worded worded e s x) a.0 q a.2 t.are_rest (omega (arith, le, element_short sub IsSub k worded (past_blanks p) a.0 x a.1, after_short Blank p.text))

elements_short : (sub : Text → Outcome Text Simple) (IsSub : TextRule Simple) → TMeets 0 sub IsSub → (xs : List Element) (worded : Bool) (p q : Place) → AreElements IsSub worded p q xs → length q.text ≤ length p.text
elements_short sub IsSub k [] worded p q a = omega (arith, ap (λ y. length y.text) a.0, after_short Blank p.text)
elements_short sub IsSub k (x ∷ xs) worded p q a = omega (arith, element_short sub IsSub k worded (past_blanks p) a.0 x a.1, elements_short sub IsSub k xs (worded || is_word x) a.0 q a.2, after_short Blank p.text)

some_short : (sub : Text → Outcome Text Simple) (IsSub : TextRule Simple) → TMeets 0 sub IsSub → (xs : List Element) (worded : Bool) (p q : Place) → AreSome xs → AreElements IsSub worded p q xs → 1 + length q.text ≤ length p.text
some_short sub IsSub k [] worded p q s a = absurd s
some_short sub IsSub k (x ∷ xs) worded p q s a = omega (arith, element_short sub IsSub k worded (past_blanks p) a.0 x a.1, elements_short sub IsSub k xs (worded || is_word x) a.0 q a.2, after_short Blank p.text)

-- ---- what they are together

abbrev all_of : List Assign → List Word → List Redirection → Bool → Calls → Bool → Elements
all_of a w r h c m = record { assigns = a; words = w; redirections = r; here = h; calls = c; more = m }

abbrev total : Elements → List Element → Elements
total e xs = all_of (e.assigns ++ assigns_of xs) (e.words ++ words_of xs) (e.redirections ++ redirections_of xs) (with_all e xs).here
    (if is_nil e.words then first_calls xs else e.calls) (e.more || (if is_nil e.words then has_more xs else has_plain xs))

same_all : (a b : List Assign) (v w : List Word) (r s : List Redirection) (h : Bool) (c d : Calls) (m n : Bool) → a ≡ b → v ≡ w → r ≡ s → c ≡ d → m ≡ n → all_of a v r h c m ≡ all_of b w s h d n
same_all a b v w r s h c d m n ea ew er ec em = λ i. record { assigns = ea i; words = ew i; redirections = er i; here = h; calls = ec i; more = em i }

abbrev IsFresh : Elements → Type 0
IsFresh e = is_nil e.words ≡ true → e.calls ≡ calls.Other

words_there : (ws : List Word) (w : Word) → is_nil (ws ++ w ∷ []) ≡ true → ⊥
words_there [] w e = cc
words_there (v ∷ ws) w e = cc

one_word : (w : Word) → is_nil (w ∷ []) ≡ true → ⊥
one_word w e = cc

nil_is : (ws : List Word) → is_nil ws ≡ true → ws ≡ []
nil_is [] e = refl
nil_is (w ∷ ws) e = cc

fresh : (e : Elements) (x : Element) → IsFresh e → IsFresh (with_element e x)
fresh e (rule.assigns a) f = f
fresh e (rule.redirected o r) f = f
fresh e rule.arguments f = λ n. absurd (words_there e.words word.Args n)
fresh e (rule.plain k w) f = λ n. absurd (no_words (sym (with_word_words e k w) ∙ n))
  where
    no_words : false ≡ true → ⊥
    no_words x = cc

total_is : (xs : List Element) (e : Elements) → IsFresh e → with_all e xs ≡ total e xs
total_is [] e f =
    same_all e.assigns (e.assigns ++ []) e.words (e.words ++ []) e.redirections (e.redirections ++ []) e.here e.calls (if is_nil e.words then calls.Other else e.calls) e.more
    (e.more || (if is_nil e.words then false else false)) (sym (append-nil e.assigns)) (sym (append-nil e.words)) (sym (append-nil e.redirections)) (by_nil (is_nil e.words) refl) (by_more (is_nil e.words))
  where
    by_nil : (v : Bool) → is_nil e.words ≡ v → e.calls ≡ (if v then calls.Other else e.calls)
    by_nil true n = f n
    by_nil false n = refl

    by_more : (v : Bool) → e.more ≡ (e.more || (if v then false else false))
    by_more true = or_false e.more
    by_more false = or_false e.more
total_is (rule.assigns a ∷ xs) e f =
    let d = with_element e (rule.assigns a) in
    total_is xs d (fresh e (rule.assigns a) f)
    ∙ same_all (d.assigns ++ assigns_of xs) (e.assigns ++ a ∷ assigns_of xs) (e.words ++ words_of xs) (e.words ++ words_of xs) (e.redirections ++ redirections_of xs) (e.redirections ++ redirections_of xs) (with_all d xs).here
    (total d xs).calls (total d xs).calls (total d xs).more (total d xs).more (append_assoc e.assigns (a ∷ []) (assigns_of xs)) refl refl refl refl
total_is (rule.redirected o r ∷ xs) e f =
    let d = with_element e (rule.redirected o r) in
    total_is xs d (fresh e (rule.redirected o r) f)
    ∙ same_all (e.assigns ++ assigns_of xs) (e.assigns ++ assigns_of xs) (e.words ++ words_of xs) (e.words ++ words_of xs) (d.redirections ++ redirections_of xs) (e.redirections ++ r ∷ redirections_of xs) (with_all d xs).here
    (total d xs).calls (total d xs).calls (total d xs).more (total d xs).more refl refl (append_assoc e.redirections (r ∷ []) (redirections_of xs)) refl refl
total_is (rule.arguments ∷ xs) e f =
    let d = with_args e in
    total_is xs d (fresh e rule.arguments f)
    ∙ same_all (e.assigns ++ assigns_of xs) (e.assigns ++ assigns_of xs) (d.words ++ words_of xs) (e.words ++ word.Args ∷ words_of xs) (e.redirections ++ redirections_of xs) (e.redirections ++ redirections_of xs) (with_all d xs).here
    (total d xs).calls (total e (rule.arguments ∷ xs)).calls (total d xs).more (total e (rule.arguments ∷ xs)).more refl (append_assoc e.words (word.Args ∷ []) (words_of xs)) refl
    (ap (λ v. if v then first_calls xs else e.calls) (not_nil e.words word.Args) ∙ by_nil (is_nil e.words) refl)
    (ap (λ v. e.more || (if v then has_more xs else has_plain xs)) (not_nil e.words word.Args) ∙ by_more (is_nil e.words))
  where
    by_nil : (v : Bool) → is_nil e.words ≡ v → e.calls ≡ (if v then calls.Other else e.calls)
    by_nil true n = f n
    by_nil false n = refl

    by_more : (v : Bool) → e.more || has_plain xs ≡ (e.more || (if v then has_plain xs else has_plain xs))
    by_more true = refl
    by_more false = refl
total_is (rule.plain k w ∷ xs) e f = by_nil (is_nil e.words) refl (λ d g. total_is xs d g)
  where
    by_nil : (v : Bool) → is_nil e.words ≡ v → ((d : Elements) → IsFresh d → with_all d xs ≡ total d xs) → with_all (word_by v e k w) xs
        ≡ all_of (e.assigns ++ assigns_of xs) (e.words ++ w ∷ words_of xs) (e.redirections ++ redirections_of xs) (with_all (word_by v e k w) xs).here (if v then k else e.calls) (e.more || (if v then has_plain xs else true))
    by_nil true n rec =
        let d = word_by true e k w in
        rec d (λ x. absurd (one_word w x))
        ∙ same_all (e.assigns ++ assigns_of xs) (e.assigns ++ assigns_of xs) (w ∷ words_of xs) (e.words ++ w ∷ words_of xs) (e.redirections ++ redirections_of xs) (e.redirections ++ redirections_of xs) (with_all d xs).here
        k k (e.more || has_plain xs) (e.more || has_plain xs) refl (ap (λ y. y ++ w ∷ words_of xs) (sym (nil_is e.words n))) refl refl refl
    by_nil false n rec =
        let d = word_by false e k w in
        rec d (λ x. absurd (words_there e.words w x))
        ∙ same_all (e.assigns ++ assigns_of xs) (e.assigns ++ assigns_of xs) (d.words ++ words_of xs) (e.words ++ w ∷ words_of xs) (e.redirections ++ redirections_of xs) (e.redirections ++ redirections_of xs) (with_all d xs).here
        (total d xs).calls e.calls true (e.more || true) refl (append_assoc e.words (w ∷ []) (words_of xs)) refl (ap (λ v. if v then first_calls xs else e.calls) (not_nil e.words w)) (or_true e.more)

are_some : (xs : List Element) → is_empty (with_all no_elements xs) ≡ false → AreSome xs
are_some [] e = cc
are_some (x ∷ xs) e = tt

not_empty : (xs : List Element) → AreSome xs → is_empty (total no_elements xs) ≡ false
not_empty [] s = absurd s
not_empty (rule.assigns a ∷ xs) s = refl
not_empty (rule.plain k w ∷ xs) s = and_false (is_nil (assigns_of xs))
not_empty (rule.arguments ∷ xs) s = and_false (is_nil (assigns_of xs))
not_empty (rule.redirected o r ∷ xs) s = ap (λ v. is_nil (assigns_of xs) && v) (and_false (is_nil (words_of xs))) ∙ and_false (is_nil (assigns_of xs))

called_is : (xs : List Element) → called (with_all no_elements xs) ≡ called_by xs
called_is xs = ap called (total_is xs no_elements (λ _. refl))

-- ---- commands

abbrev finished : Elements → Place → Outcome Place Called
finished e q = if is_empty e then None else Some (called e, q)

abbrev called_unless : Bool → Elements → Place → Outcome Place Called
called_unless v e q = if v then None else Some (called e, q)

abbrev simple_if : (Text → Outcome Text Simple) → Place → Bool → Outcome Place Called
simple_if sub p v = if v then None else and_then (elements sub (length p.text) no_elements p) finished

pub simple_meets : (sub : Text → Outcome Text Simple) (IsSub : TextRule Simple) → TMeets 0 sub IsSub → Meets 1 (simple sub) (IsSimple IsSub)
unfolding simple
simple_meets sub IsSub k = record { sound = sound; whole = whole; short = λ p q c x. some_short sub IsSub k x.elements false p q x.are_some x.are_elements }
  where
    by_empty : (p q : Place) (c : Called) → is_reserved p.text ≡ false → (e : Elements) (s : Place) → elements sub (length p.text) no_elements p ≡ Some (e, s) → (v : Bool) → is_empty e ≡ v
        → called_unless v e s ≡ Some (c, q) → IsSimple IsSub p q c
    by_empty p q c n e s is true m x = cc
    by_empty p q c n e s is false m x =
        let a = elements_sound sub IsSub k (length p.text) false no_elements refl p q e (is ∙ ap (λ y. Some (e, y)) (right_of (called e) c s q x)) in
        record {
          elements = a.all;
          not_reserved = n;
          are_elements = a.are_elements;
          are_some = are_some a.all (ap is_empty (sym a.value) ∙ m);
          has_one_here = a.heres;
          value = sym (left_of (called e) c s q x) ∙ ap called a.value ∙ called_is a.all;
        }

    by_reserved : (p q : Place) (c : Called) → (v : Bool) → is_reserved p.text ≡ v → simple_if sub p v ≡ Some (c, q) → IsSimple IsSub p q c
    by_reserved p q c true n x = cc
    by_reserved p q c false n x =
        let w = both_of (elements sub (length p.text) no_elements p) finished (c, q) x in
        by_empty p q c n w.first w.left w.is_first (is_empty w.first) refl w.is_second

    sound : (p q : Place) (c : Called) → simple sub p ≡ Some (c, q) → IsSimple IsSub p q c
    sound p q c x = by_reserved p q c (is_reserved p.text) refl x

    whole : (p q : Place) (c : Called) → IsSimple IsSub p q c → simple sub p ≡ Some (c, q)
    whole p q c x =
        ap (simple_if sub p) x.not_reserved
        ∙ ap (λ o. and_then o finished) (elements_whole sub IsSub k x.elements (length p.text) false no_elements refl p q x.are_elements x.has_one_here (omega arith))
        ∙ ap (λ v. called_unless v (with_all no_elements x.elements) q) (ap is_empty (total_is x.elements no_elements (λ _. refl)) ∙ not_empty x.elements x.are_some)
        ∙ ap (λ y. Some (y, q)) (called_is x.elements ∙ sym x.value)

-- ---- command substitution

no_meets : TMeets 0 no_substitution IsNoSubstitution
no_meets = record { sound = λ t u c e. cc; whole = λ t u c x. absurd x; short = λ t u c x. absurd x }

abbrev closing : Called → Place → Outcome Text Simple
closing c p = if c.leaves || waits p then None else and_then (expect 41 p.text) (λ _. pure c.simple)

record Closed (c : Called) (p : Place) (u : Text) (s : Simple) : Type 0 where
  pub stays : c.leaves ≡ false
  pub none_waits : p.bodies ≡ None
  pub closes : p.text ≡ 41 ∷ u
  pub value : s ≡ c.simple

closed_sound : (c : Called) (p : Place) (u : Text) (s : Simple) → closing c p ≡ Some (s, u) → Closed c p u s
closed_sound c p u s e = by_test c.leaves p.bodies refl refl e
  where
    by_test : (v : Bool) (bs : Option Text) → c.leaves ≡ v → p.bodies ≡ bs → (if v || is_some bs then None else and_then (expect 41 p.text) (λ _. pure c.simple)) ≡ Some (s, u) → Closed c p u s
    by_test true bs l b e = cc
    by_test false (Some z) l b e = cc
    by_test false None l b e =
        let w = both_of (expect 41 p.text) (λ _. pure c.simple) (s, u) e in
        record { stays = l; none_waits = b; closes = expected 41 p.text w.left w.first w.is_first ∙ ap (λ y. 41 ∷ y) (right_of c.simple s w.left u w.is_second); value = sym (left_of c.simple s w.left u w.is_second) }

pub substitution_meets : TMeets 0 substitution IsSubstitution
unfolding substitution
substitution_meets = record {
  sound = λ t u s e.
      let w = both_of (simple no_substitution (alone (after Blank t))) closing (s, u) e in
      let c = closed_sound w.first w.left u s w.is_second in
      record {
        command = w.first;
        behind = w.left;
        is_simple = (simple_meets no_substitution IsNoSubstitution no_meets).sound (alone (after Blank t)) w.left w.first w.is_first;
        stays = c.stays;
        none_waits = c.none_waits;
        closes = c.closes;
        value = c.value;
      };
  whole = λ t u s x.
      ap (λ o. and_then o closing) ((simple_meets no_substitution IsNoSubstitution no_meets).whole (alone (after Blank t)) x.behind x.command x.is_simple)
      ∙ ap₂ (λ v b. if v || is_some b then None else and_then (expect 41 x.behind.text) (λ _. pure x.command.simple)) x.stays x.none_waits
      ∙ ap (λ y. and_then (expect 41 y) (λ _. pure x.command.simple)) x.closes
      ∙ ap (λ y. Some (y, u)) (sym x.value);
  short = λ t u s x.
      omega (arith, (simple_meets no_substitution IsNoSubstitution no_meets).short (alone (after Blank t)) x.behind x.command x.is_simple, ap length x.closes, after_short Blank t);
}
